-- A list of terminals is read as one set at most.
use Rattle.std.proofs.Common.{◌≡◌, ℕ, zero, suc, ◌≤◌, ◌==◌, Bool, true, false, if◌then◌else◌, List, [], ◌∷◌, ◌++◌, length, Option, Some, None, is_some, option_map, refl, sym, ap, subst, ◌∙◌, arith, length-append}
use Rattle.req_tree.specs.Tree.{Tree}
use Rattle.req_tree.specs.TreeSet.{TreeSet, with_part}
use Rattle.req_grammar.specs.Words as w
use Rattle.req_grammar.specs.Words.{Word}
use Rattle.req_grammar.specs.Terminals.{Terminal, sign, word}
use Rattle.req_grammar.specs.Grammar as g
use Rattle.req_grammar.specs.Grammar.{KeyRule, Expr, KindWord, Parts}
use Rattle.req_grammar.specs.Readings.{AnyKey, CertTest, Collects, ReadsSet, ShapeSet}
use Rattle.req_grammar.specs.Reader.{onward, and_at, or_at, expr_by, factor_at, kind_of, parts_at, has_set_shape}
use Rattle.req_grammar.proofs.Readings.{Stops, end, kind, Raw, IsSingle, raw_one, IsExprRead, expr_read, expr_done}
use Rattle.req_grammar.proofs.Keys.{OneOid, cert_test_one}

pub kind_read : (k : Word) (n : ℕ) → KindWord k n → kind_of k ≡ n
kind_read k n g.host = refl
kind_read k n g.guest = refl
kind_read k n g.designated = refl
kind_read k n g.library = refl
kind_read k n g.plugin = refl

kind_no_and : (k : Word) (n : ℕ) → KindWord k n → (rest : List Terminal) → and_at (word k ∷ rest) ≡ None
kind_no_and k n g.host rest = refl
kind_no_and k n g.guest rest = refl
kind_no_and k n g.designated rest = refl
kind_no_and k n g.library rest = refl
kind_no_and k n g.plugin rest = refl

kind_no_or : (k : Word) (n : ℕ) → KindWord k n → (rest : List Terminal) → or_at (word k ∷ rest) ≡ None
kind_no_or k n g.host rest = refl
kind_no_or k n g.guest rest = refl
kind_no_or k n g.designated rest = refl
kind_no_or k n g.library rest = refl
kind_no_or k n g.plugin rest = refl

-- a word for a kind names one
pub named : (k : Word) (n : ℕ) → KindWord k n → (kind_of k == 0) ≡ false
named k n g.host = refl
named k n g.guest = refl
named k n g.designated = refl
named k n g.library = refl
named k n g.plugin = refl

abbrev RawParts : KeyRule → List (ℕ × Tree) → List (ℕ × Tree) → Type 0
RawParts rule [] parts = parts ≡ []
RawParts rule (raw ∷ raws) parts = (x : Tree) × (others : List (ℕ × Tree)) × Raw rule raw.1 x × RawParts rule raws others × (parts ≡ (raw.0, x) ∷ others)

record IsPartsRead (rule : KeyRule) (a : List Terminal) (parts : List (ℕ × Tree)) : Type 0 where
  raws : List (ℕ × Tree)
  stands : RawParts rule raws parts
  stops : Stops a
  no_and : and_at a ≡ None
  no_or : or_at a ≡ None
  reads : (n d : ℕ) → length a ≤ n → length a ≤ d → parts_at n d a ≡ Some raws

part_reads : (k : Word) (kind_is : ℕ) (a b : List Terminal) (raw : Tree) (raws : List (ℕ × Tree)) (n d : ℕ) → KindWord k kind_is
    → suc (suc (length (a ++ b))) ≤ n → expr_by d (factor_at d) (a ++ b) ≡ Some (raw, b)
    → ((m : ℕ) → length b ≤ m → parts_at m d b ≡ Some raws) → parts_at n d (word k ∷ sign w.arrow ∷ (a ++ b)) ≡ Some ((kind_is, raw) ∷ raws)
unfolding parts_at
part_reads k kind_is a b raw raws zero d is long read others = absurd (omega (arith, long))
part_reads k kind_is a b raw raws (suc n) d is long read others =
    let fits : length b ≤ n = omega (arith, long, length-append a b) in
    ap (λ (none : Bool). if none then None else onward (λ x left. option_map (λ (parts : List (ℕ × Tree)). (kind_of k, x) ∷ parts) (parts_at n d left)) (expr_by d (factor_at d) (a ++ b))) (named k kind_is is)
    ∙ ap (onward (λ x left. option_map (λ (parts : List (ℕ × Tree)). (kind_of k, x) ∷ parts) (parts_at n d left))) read
    ∙ ap (option_map (λ (parts : List (ℕ × Tree)). (kind_of k, raw) ∷ parts)) (others n fits)
    ∙ ap (λ (m : ℕ). Some ((m, raw) ∷ raws)) (kind_read k kind_is is)

none_reads : (n d : ℕ) → parts_at n d [] ≡ Some []
unfolding parts_at
none_reads zero d = refl
none_reads (suc n) d = refl

no_part : (rule : KeyRule) → IsPartsRead rule [] []
no_part rule = record {
  raws = [];
  stands = refl;
  stops = end;
  no_and = refl;
  no_or = refl;
  reads = λ n d long deep. none_reads n d;
}

one_part : (rule : KeyRule) (k : Word) (n : ℕ) (a b : List Terminal) (x : Tree) (parts : List (ℕ × Tree)) → KindWord k n → IsExprRead rule a x
    → IsPartsRead rule b parts → IsPartsRead rule (word k ∷ sign w.arrow ∷ (a ++ b)) ((n, x) ∷ parts)
one_part rule k n a b x parts is f h = record {
  raws = (n, f.raw) ∷ h.raws;
  stands = (x, parts, f.stands, h.stands, refl);
  stops = kind k n (sign w.arrow ∷ (a ++ b)) is;
  no_and = kind_no_and k n is (sign w.arrow ∷ (a ++ b));
  no_or = kind_no_or k n is (sign w.arrow ∷ (a ++ b));
  reads = λ i d long deep.
      let fits : (length a ≤ d) × (length b ≤ d) = (omega (arith, deep, length-append a b), omega (arith, deep, length-append a b)) in
      part_reads k n a b f.raw h.raws i d is long (expr_done rule a x f d b fits.0 h.stops h.no_and h.no_or)
      (λ m small. h.reads m d small fits.1);
}

parts_read : (rule : KeyRule) (a : List Terminal) (parts : List (ℕ × Tree)) → Parts rule a parts → IsPartsRead rule a parts
parts_read rule a parts g.none = no_part rule
parts_read rule a parts (g.part k n b c x others is h i) = one_part rule k n b c x others is (expr_read rule b x h) (parts_read rule c others i)

raw_parts_one : (rule : KeyRule) → IsSingle rule → (raws parts others : List (ℕ × Tree)) → RawParts rule raws parts → RawParts rule raws others → parts ≡ others
raw_parts_one rule one [] parts others h i = h ∙ sym i
raw_parts_one rule one (raw ∷ raws) parts others (x, rest, s, r, e) (y, left, u, v, k) =
    e ∙ ap (λ (z : Tree). (raw.0, z) ∷ rest) (raw_one rule one raw.1 x y s u) ∙ ap (λ (those : List (ℕ × Tree)). (raw.0, y) ∷ those) (raw_parts_one rule one raws rest left r v) ∙ sym k

parts_or : List (ℕ × Tree) → Option (List (ℕ × Tree)) → List (ℕ × Tree)
parts_or parts None = parts
parts_or parts (Some others) = others

some_parts : (a b : List (ℕ × Tree)) → Some a ≡ Some b → a ≡ b
unfolding parts_or
some_parts a b e = ap (parts_or a) e

pub parts_one : (rule : KeyRule) → IsSingle rule → (a : List Terminal) (parts others : List (ℕ × Tree)) → Parts rule a parts → Parts rule a others → parts ≡ others
parts_one rule one a parts others h i =
    let f : IsPartsRead rule a parts = parts_read rule a parts h in
    let k : IsPartsRead rule a others = parts_read rule a others i in
    let same : f.raws ≡ k.raws = some_parts f.raws k.raws (sym (f.reads (length a) (length a) (omega arith) (omega arith)) ∙ k.reads (length a) (length a) (omega arith) (omega arith)) in
    raw_parts_one rule one k.raws parts others (subst (λ (raws : List (ℕ × Tree)). RawParts rule raws parts) same f.stands) k.stands

collects_one : (parts : List (ℕ × Tree)) (s r : TreeSet) → Collects parts s → Collects parts r → s ≡ r
collects_one [] s r h i = h ∙ sym i
collects_one (part ∷ parts) s r (o, h, free, e) (u, i, freed, k) = e ∙ ap (with_part part.0 part.1) (collects_one parts o u h i) ∙ sym k

pub one_set : OneOid → (terminals : List Terminal) (s r : TreeSet) → ReadsSet terminals s → ReadsSet terminals r → s ≡ r
one_set one terminals s r (parts, h, c) (others, i, k) =
    collects_one others s r (subst (λ (those : List (ℕ × Tree)). Collects those s) (parts_one CertTest (cert_test_one one) terminals parts others h i) c) k

-- what has the shape of a set is read as the parts of one
pub has_set_shape-complete : (a : List Terminal) → ShapeSet a → has_set_shape a ≡ true
has_set_shape-complete a s =
    let f : IsPartsRead AnyKey a s.0 = parts_read AnyKey a s.0 s.1 in ap is_some (f.reads (length a) (length a) (omega arith) (omega arith))
