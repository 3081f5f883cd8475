-- Comments between /* and */.
use Rattle.std.proofs.Common.{◌≡◌, ◌≢◌, ℕ, suc, ◌+◌, Bool, true, false, ◌&&◌, ◌||◌, ◌==◌, nat_eq, List, [], ◌∷◌, ◌++◌, length, take, drop, cond, codes, Ok, Err, refl, sym, ap, ◌∙◌, arith, append_assoc, length-append}
use Rattle.std.specs.List.{starts_with}
use Rattle.std.proofs.lemmas.Bool.{eqb-true, eqb-false, or_from}
use Rattle.req_tree.specs.Meaning.{has_part}
use Rattle.req_grammar.specs.Sorts as s
use Rattle.req_grammar.specs.TokenFaults as t
use Rattle.req_tokens.specs.declared.fault.TextFault.TheVariants as fault
use Rattle.req_tokens.specs.declared.reach.End.TheVariants.{Block}
use Rattle.req_tokens.specs.Reach.{ends, reach, before, after}
use Rattle.req_tokens.specs.Cutting.{block_length}
use Rattle.req_tokens.proofs.Fronts.{stop, before-after, is_empty}
use Rattle.req_tokens.proofs.FirstBytes.{starts}
use Rattle.req_tokens.proofs.Said.{Said, cuts, first_here}

abbrev end_mark : List ℕ
end_mark = codes "*/"

-- no end in what goes up to no end
open_step : (b : ℕ) (xs : List ℕ) (u : Bool) → ends Block b xs ≡ u → (after Block xs ≡ [] → has_part xs end_mark ≡ false) → drop (cond u 0 (suc (reach Block xs))) (b ∷ xs) ≡ []
    → (u || has_part xs end_mark) ≡ false
open_step b xs true e later none = absurd cc
open_step b xs false e later none = later none

no_end : (xs : List ℕ) → after Block xs ≡ [] → has_part xs end_mark ≡ false
no_end [] none = refl
no_end (b ∷ xs) none = open_step b xs (ends Block b xs) refl (no_end xs) none

-- what stands behind a byte, with the star of the end put behind the front
second_step : (c : ℕ) (zs : List ℕ) (u : Bool) → ends Block c zs ≡ u → starts_with nat_eq (c ∷ zs) (47 ∷ []) ≡ false → starts_with nat_eq (take (cond u 0 (suc (reach Block zs))) (c ∷ zs) ++ 42 ∷ []) (47 ∷ []) ≡ false
second_step c zs true e other = refl
second_step c zs false e other = other

second : (ys : List ℕ) → starts_with nat_eq ys (47 ∷ []) ≡ false → starts_with nat_eq (before Block ys ++ 42 ∷ []) (47 ∷ []) ≡ false
second [] other = refl
second (c ∷ zs) other = second_step c zs (ends Block c zs) refl other

both_no : (a x y : Bool) → (x ≡ false → y ≡ false) → (a && x) ≡ false → (a && y) ≡ false
both_no true x y more fails = more fails
both_no false x y more fails = refl

early_step : (b : ℕ) (xs : List ℕ) (u : Bool) → ends Block b xs ≡ u → has_part (before Block xs ++ 42 ∷ []) end_mark ≡ false → has_part (take (cond u 0 (suc (reach Block xs))) (b ∷ xs) ++ 42 ∷ []) end_mark ≡ false
early_step b xs true e later = refl
early_step b xs false e later =
    or_from (ends Block b (before Block xs ++ 42 ∷ [])) (has_part (before Block xs ++ 42 ∷ []) end_mark)
    (both_no (nat_eq 42 b) (starts_with nat_eq xs (47 ∷ [])) (starts_with nat_eq (before Block xs ++ 42 ∷ []) (47 ∷ [])) (second xs) e) later

-- no end before the one that is found
no_earlier : (xs : List ℕ) → has_part (before Block xs ++ 42 ∷ []) end_mark ≡ false
no_earlier [] = refl
no_earlier (b ∷ xs) = early_step b xs (ends Block b xs) refl (no_earlier xs)

block_by : (at : ℕ) (text inside : List ℕ) (e : Bool) → text ≡ 47 ∷ 42 ∷ inside → (length (after Block inside) == 0) ≡ e
    → Said s.block at text (cond e (Err (fault.OpenComment at)) (Ok (length (before Block inside) + 4)))
block_by at text inside true is empty =
    first_here at text t.open_comment (t.comment inside is (no_end inside (is_empty (after Block inside) (eqb-true (length (after Block inside)) 0 empty))))
block_by at text inside false is empty =
    cuts s.block text (codes "/*" ++ before Block inside ++ codes "*/") (drop 2 (after Block inside)) (length (before Block inside) + 4) parts
    (omega (arith, length-append (before Block inside) end_mark)) (omega arith) (before Block inside, refl, no_earlier inside)
  where
    some : after Block inside ≢ []
    some none = eqb-false (length (after Block inside)) 0 empty (ap length none)

    marked : after Block inside ≡ 42 ∷ 47 ∷ drop 2 (after Block inside)
    marked =
        let k = stop Block inside some in
        starts end_mark (after Block inside) (ap (λ (l : List ℕ). starts_with nat_eq l end_mark) k.is ∙ k.last)

    parts : text ≡ (codes "/*" ++ before Block inside ++ codes "*/") ++ drop 2 (after Block inside)
    parts =
        is ∙ ap (λ (l : List ℕ). 47 ∷ 42 ∷ l)
        (sym (before-after Block inside) ∙ ap (λ (l : List ℕ). before Block inside ++ l) marked ∙ sym (append_assoc (before Block inside) (42 ∷ 47 ∷ []) (drop 2 (after Block inside))))

pub block_said : (at : ℕ) (text : List ℕ) → text ≡ codes "/*" ++ drop 2 text → Said s.block at text (block_length at text)
unfolding block_length
block_said at text is = block_by at text (drop 2 text) (length (after Block (drop 2 text)) == 0) is refl
