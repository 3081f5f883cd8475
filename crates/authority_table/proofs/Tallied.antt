-- A tally of the selected rows that goes on by one more row, and what it says of refusals.
use Rattle.std.proofs.Common.{◌≡◌, ℕ, suc, ◌≤◌, length, List, [], ◌∷◌, ◌++◌, append-nil, refl, ap, ◌∙◌, arith}
use Rattle.std.specs.Prelude.{Bool, true, false, cond, ◌&&◌, ◌||◌, nat_lt, nat_le, Option, Some, None}
use Rattle.std.specs.List.{filter, list_any}
use Rattle.std.proofs.Math.Bool.{false-and}
use Rattle.std.proofs.lemmas.Bool.Decides.{nat_tests}
use Rattle.std.proofs.lemmas.List.Elements.{filter-append}
use Rattle.policy_model.specs.Rules.{Row}
use Rattle.policy_model.specs.Outcomes.{at_most}
use Rattle.policy_model.specs.Contents.{Selector, disable}
use Rattle.policy_model.specs.Changes.{selects}
use Rattle.policy_model.specs.declared.limits.TheConstants.{MOST_DISABLES}
use Rattle.policy_model.specs.Refusals.{full_rows, least_id}

-- the kept rows, where the last one passes or doesn't
pub filter_last : (test : Row → Bool) (rows : List Row) (r : Row) → test r ≡ true → filter test (rows ++ r ∷ []) ≡ filter test rows ++ r ∷ []
filter_last test rows r t = filter-append test rows (r ∷ []) ∙ ap (λ b. filter test rows ++ cond b (r ∷ []) []) t

pub filter_passed : (test : Row → Bool) (rows : List Row) (r : Row) → test r ≡ false → filter test (rows ++ r ∷ []) ≡ filter test rows
filter_passed test rows r t = filter-append test rows (r ∷ []) ∙ (ap (λ b. filter test rows ++ cond b (r ∷ []) []) t ∙ append-nil (filter test rows))

least_swapped : (a b : ℕ) (o : Option ℕ) → at_most a (Some (at_most b o)) ≡ at_most b (Some (at_most a o))
least_swapped a b None = omega arith
least_swapped a b (Some m) = omega arith

-- the least id, where one more row comes
pub least_last : (rows : List Row) (r : Row) → least_id (rows ++ r ∷ []) ≡ Some (at_most r.id (least_id rows))
least_last [] r = refl
least_last (x ∷ rows) r = ap (λ o. Some (at_most x.id o)) (least_last rows r) ∙ ap Some (least_swapped x.id r.id (least_id rows))

abbrev is_full : Selector → Row → Bool
is_full s r = selects s r && nat_le MOST_DISABLES r.disabled

both : (a b x y : Bool) → a ≡ x → b ≡ y → (a && b) ≡ (x && y)
both a b x y e f = ap (λ c. c && b) e ∙ ap (λ c. x && c) f

-- one more selected row whose count is full, or isn't
pub full_last : (s : Selector) (rows : List Row) (r : Row) → selects s r ≡ true → nat_le MOST_DISABLES r.disabled ≡ true →
    least_id (full_rows (disable s) (rows ++ r ∷ [])) ≡ Some (at_most r.id (least_id (full_rows (disable s) rows)))
full_last s rows r sel full = ap least_id (filter_last (is_full s) rows r (both _ _ true true sel full)) ∙ least_last (full_rows (disable s) rows) r

pub full_passed : (s : Selector) (rows : List Row) (r : Row) → nat_le MOST_DISABLES r.disabled ≡ false → selects s r ≡ true →
    least_id (full_rows (disable s) (rows ++ r ∷ [])) ≡ least_id (full_rows (disable s) rows)
full_passed s rows r full sel = ap least_id (filter_passed (is_full s) rows r (both _ _ true false sel full))

-- one more row that isn't selected
pub unselected_passed : (s : Selector) (rows : List Row) (r : Row) → selects s r ≡ false → full_rows (disable s) (rows ++ r ∷ []) ≡ full_rows (disable s) rows
unselected_passed s rows r sel = filter_passed (is_full s) rows r (ap (λ c. c && nat_le MOST_DISABLES r.disabled) sel ∙ false-and (nat_le MOST_DISABLES r.disabled))

filter_cons : (b : Bool) (x : Row) (xs : List Row) (n : ℕ) → length xs ≤ n → length (cond b (x ∷ xs) xs) ≤ suc n
filter_cons true x xs n h = omega (arith, h)
filter_cons false x xs n h = omega (arith, h)

-- no more rows are kept than there are
pub filter_fewer : (test : Row → Bool) (rows : List Row) → length (filter test rows) ≤ length rows
filter_fewer test [] = omega arith
filter_fewer test (x ∷ rows) = filter_cons (test x) x (filter test rows) (length rows) (filter_fewer test rows)

any_cons : (b : Bool) (x : Row) (xs : List Row) (a : Bool) → nat_lt 0 (length xs) ≡ a → nat_lt 0 (length (cond b (x ∷ xs) xs)) ≡ (b || a)
any_cons true x xs a e = grind (arith, nat_tests)
any_cons false x xs a e = e

-- some row passes where the kept ones are more than none
pub any_kept : (test : Row → Bool) (rows : List Row) → nat_lt 0 (length (filter test rows)) ≡ list_any test rows
any_kept test [] = refl
any_kept test (x ∷ rows) = any_cons (test x) x (filter test rows) (list_any test rows) (any_kept test rows)
