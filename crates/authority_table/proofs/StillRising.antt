-- Numbers of rules that rise, after a change of rules.
use Rattle.std.proofs.Common.{◌≡◌, ◌+◌, ◌<◌, length, get_or, List, [], ◌∷◌, refl, sym, subst, arith}
use Rattle.std.specs.Prelude.{Bool, true, false, map, not, if◌then◌else◌}
use Rattle.std.specs.List.{AllPairs}
use Rattle.std.proofs.lemmas.List.{length-map, get_or-map}
use Rattle.std.proofs.lemmas.List.Kept.{AllPairs-filter}
use Rattle.policy_model.specs.Rules.{Row}
use Rattle.policy_model.specs.Changes.{selects, rows_after, with_count, with_expiry}
use Rattle.rule_values.specs.declared.rule.Rule.{Rule}
use Rattle.rule_values.specs.declared.selector.Selector as code
use Rattle.rule_values.specs.declared.row_change.RowChange.{RowChange}
use Rattle.rule_values.specs.declared.row_change.RowChange.TheVariants.{Remove, Enable, Disable, Expire}
use Rattle.rule_values.specs.Rule.{row_of, rows_of}
use Rattle.rule_values.specs.Selector.{selector_of, content_by}
use Rattle.held_rules.specs.Spans.{AreRising}

abbrev RowsRise : List Row → Type 0
RowsRise rows = AllPairs (λ (a b : Row). a.id < b.id) rows

to_rows : (rules : List Rule) → AreRising rules → RowsRise (rows_of rules)
to_rows [] up i j d lt in' = absurd (omega (arith, in'))
to_rows (x ∷ rules) up i j d lt in' =
    let few : j < length (x ∷ rules) = omega (arith, in', length-map (x ∷ rules) row_of) in
    let one : get_or (rows_of (x ∷ rules)) i d ≡ row_of (get_or (x ∷ rules) i x) = get_or-map row_of (x ∷ rules) i x d (omega (arith, lt, few)) in
    let other : get_or (rows_of (x ∷ rules)) j d ≡ row_of (get_or (x ∷ rules) j x) = get_or-map row_of (x ∷ rules) j x d few in
    subst (λ (r : Row). r.id < (get_or (rows_of (x ∷ rules)) j d).id) (sym one) (subst (λ (r : Row). (get_or (x ∷ rules) i x).id < r.id) (sym other) (up i j x lt few))

from_rows : (rules : List Rule) → RowsRise (rows_of rules) → AreRising rules
from_rows rules up i j d lt in' =
    let few : j < length (rows_of rules) = omega (arith, in', length-map rules row_of) in
    let one : get_or (rows_of rules) i (row_of d) ≡ row_of (get_or rules i d) = get_or-map row_of rules i d (row_of d) (omega (arith, lt, in')) in
    let other : get_or (rows_of rules) j (row_of d) ≡ row_of (get_or rules j d) = get_or-map row_of rules j d (row_of d) in' in
    subst (λ (r : Row). r.id < (get_or rules j d).id) one (subst (λ (r : Row). (get_or (rows_of rules) i (row_of d)).id < r.id) other (up i j (row_of d) lt few))

rise_mapped : (f : Row → Row) → ((r : Row) → (f r).id ≡ r.id) → (rows : List Row) → RowsRise rows → RowsRise (map f rows)
rise_mapped f keeps rows up i j d lt in' =
    let few : j < length rows = omega (arith, in', length-map rows f) in
    let one : get_or (map f rows) i d ≡ f (get_or rows i d) = get_or-map f rows i d d (omega (arith, lt, few)) in
    let other : get_or (map f rows) j d ≡ f (get_or rows j d) = get_or-map f rows j d d few in
    subst (λ (r : Row). r.id < (get_or (map f rows) j d).id) (sym one) (subst (λ (r : Row). (f (get_or rows i d)).id < r.id) (sym other)
    (subst (λ n. n < (f (get_or rows j d)).id) (sym (keeps (get_or rows i d))) (subst (λ n. (get_or rows i d).id < n) (sym (keeps (get_or rows j d))) (up i j d lt few))))

if_keeps : (b : Bool) (x r : Row) → x.id ≡ r.id → (if b then x else r).id ≡ r.id
if_keeps true x r e = e
if_keeps false x r e = refl

rise_changed : (s : code.Selector) (c : RowChange) (rows : List Row) → RowsRise rows → RowsRise (rows_after 0 (content_by s c) rows)
rise_changed s Remove rows up = AllPairs-filter (λ (a b : Row). a.id < b.id) (λ r. not (selects (selector_of s) r)) rows up
rise_changed s Enable rows up = rise_mapped (λ r. if selects (selector_of s) r then with_count 0 r else r) (λ r. if_keeps (selects (selector_of s) r) (with_count 0 r) r refl) rows up
rise_changed s Disable rows up = rise_mapped (λ r. if selects (selector_of s) r then with_count (r.disabled + 1) r else r) (λ r. if_keeps (selects (selector_of s) r) (with_count (r.disabled + 1) r) r refl) rows up
rise_changed s (Expire end) rows up = rise_mapped (λ r. if selects (selector_of s) r then with_expiry end r else r) (λ r. if_keeps (selects (selector_of s) r) (with_expiry end r) r refl) rows up

-- a change of rules keeps them rising
pub rising_after : (s : code.Selector) (c : RowChange) (old new : List Rule) → rows_of new ≡ rows_after 0 (content_by s c) (rows_of old) → AreRising old → AreRising new
rising_after s c old new e up = from_rows new (subst RowsRise (sym e) (rise_changed s c (rows_of old) (to_rows old up)))
