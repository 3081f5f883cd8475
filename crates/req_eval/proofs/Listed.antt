-- A list by its members, and a text by where a part may begin.
use Rattle.std.proofs.Common.{◌≡◌, ℕ, zero, suc, ◌+◌, ◌<◌, length, drop, get_or, drop-cons, List, [], ◌∷◌, refl, sym, ap, ◌∙◌, arith, Some}
use Rattle.std.specs.Prelude.{Bool, true, false, ◌&&◌, ◌||◌, nat_eq}
use Rattle.std.specs.List.{list_any, starts_with}
use Rattle.req_tree.specs.declared.matching.Match.{Match}
use Rattle.req_tree.specs.Meaning.{value_match, text_match, is_exists, has_part}
use Rattle.fact_values.specs.Keyed.{list_value}

and_false : (b : Bool) → (b && false) ≡ false
and_false true = refl
and_false false = refl

-- a list answers a test where one of its members does
pub listed : (texts : List (List ℕ)) (test : Match) → value_match (Some (list_value texts)) test ≡ list_any (λ bytes. text_match bytes test) texts
listed [] test = and_false (is_exists test)
listed (text ∷ texts) test = refl

-- a part that begins further on is a part
pub part_here : (text part : List ℕ) → starts_with nat_eq text part ≡ true → has_part text part ≡ true
part_here [] part h = h
part_here (b ∷ text) part h = ap (λ x. x || has_part text part) h

-- a part that doesn't begin here stands further on, if at all
pub part_further : (text part : List ℕ) (i : ℕ) (r : Bool) → i < length text → starts_with nat_eq (drop i text) part ≡ false → has_part (drop i text) part ≡ r → has_part (drop (i + 1) text) part ≡ r
part_further text part i r h misses e =
    let cut : drop i text ≡ get_or text i 0 ∷ drop (suc i) text = drop-cons text i 0 h in
    let next : i + 1 ≡ suc i = omega arith in
    let fails : starts_with nat_eq (get_or text i 0 ∷ drop (suc i) text) part ≡ false = ap (λ (l : List ℕ). starts_with nat_eq l part) (sym cut) ∙ misses in
    ap (λ k. has_part (drop k text) part) next
    ∙ sym (ap (λ b. b || has_part (drop (suc i) text) part) fails)
    ∙ ap (λ (l : List ℕ). has_part l part) (sym cut) ∙ e
