-- What the reader reads as the parts of a set stands there by the grammar, every key and every repeated kind taken.
use Rattle.std.proofs.Common.{◌≡◌, ℕ, suc, ◌==◌, Bool, true, false, if◌then◌else◌, List, [], ◌∷◌, ◌++◌, length, Option, Some, None, is_some, option_map, refl, sym, subst, true≢false}
use Rattle.req_tree.specs.Tree.{Tree}
use Rattle.req_grammar.specs.Words as w
use Rattle.req_grammar.specs.Words.{Word}
use Rattle.req_grammar.specs.Terminals.{Terminal, sign, word}
use Rattle.req_grammar.specs.Grammar as g
use Rattle.req_grammar.specs.Grammar.{KindWord, Parts}
use Rattle.req_grammar.specs.Readings.{ShapeSet}
use Rattle.req_grammar.specs.Reader.{onward, expr_by, factor_at, kind_of, parts_at, has_set_shape}
use Rattle.req_grammar.proofs.Sound.{Front, AnyExpr, none_some, onward_some, expr_sound, factor_sound}

-- a word that names a kind is a word for it
kind_named : (k : Word) → (kind_of k == 0) ≡ false → KindWord k (kind_of k)
kind_named w.host e = g.host
kind_named w.guest e = g.guest
kind_named w.designated e = g.designated
kind_named w.library e = g.library
kind_named w.plugin e = g.plugin
kind_named other e = absurd (true≢false e)

map_some : {A B : Type 0} (f : A → B) (o : Option A) (p : B) → option_map f o ≡ Some p → (q : A) × (o ≡ Some q)
map_some f None p e = absurd (none_some p e)
map_some f (Some q) p e = (q, refl)

one_more : (k : Word) (a b rest : List Terminal) (x : Tree) → KindWord k (kind_of k) → AnyExpr a x → rest ≡ a ++ b → ShapeSet b → ShapeSet (word k ∷ sign w.arrow ∷ rest)
one_more k a b rest x is read parts others =
    let whole : ShapeSet (word k ∷ sign w.arrow ∷ a ++ b) = ((kind_of k, x) ∷ others.0, g.part k (kind_of k) a b x others.0 is read others.1) in
    subst (λ (l : List Terminal). ShapeSet (word k ∷ sign w.arrow ∷ l)) (sym parts) whole

parts_sound : (n d : ℕ) (a : List Terminal) (parts : List (ℕ × Tree)) → parts_at n d a ≡ Some parts → ShapeSet a
unfolding parts_at
parts_sound n d [] parts e = ([], g.none)
parts_sound (suc n) d (word k ∷ sign w.arrow ∷ rest) parts e = by (λ left raws h. parts_sound n d left raws h) (kind_of k == 0) refl e
  where
    by : ((left : List Terminal) (raws : List (ℕ × Tree)) → parts_at n d left ≡ Some raws → ShapeSet left) → (b : Bool) → (kind_of k == 0) ≡ b
        → (if b then None else onward (λ x left. option_map (λ (others : List (ℕ × Tree)). (kind_of k, x) ∷ others) (parts_at n d left)) (expr_by d (factor_at d) rest)) ≡ Some parts
        → ShapeSet (word k ∷ sign w.arrow ∷ rest)
    by later true none h = absurd (none_some parts h)
    by later false some h =
        let q = onward_some (λ x left. option_map (λ (others : List (ℕ × Tree)). (kind_of k, x) ∷ others) (parts_at n d left)) (expr_by d (factor_at d) rest) parts h in
        let f : Front AnyExpr rest q.0 = expr_sound (factor_at d) (λ l r i. factor_sound d l r i) d rest q.0 q.1 in
        let others = map_some (λ (raws : List (ℕ × Tree)). (kind_of k, q.0.0) ∷ raws) (parts_at n d q.0.1) parts q.2 in
        one_more k f.front q.0.1 rest q.0.0 (kind_named k some) f.is f.parts (later q.0.1 others.0 others.1)
parts_sound n d here parts e = absurd (none_some parts e)

some_parts : (o : Option (List (ℕ × Tree))) → is_some o ≡ true → (parts : List (ℕ × Tree)) × (o ≡ Some parts)
some_parts None e = absurd (true≢false (sym e))
some_parts (Some parts) e = (parts, refl)

pub has_set_shape-sound : (a : List Terminal) → has_set_shape a ≡ true → ShapeSet a
has_set_shape-sound a e =
    let read = some_parts (parts_at (length a) (length a) a) e in parts_sound (length a) (length a) a read.0 read.1
