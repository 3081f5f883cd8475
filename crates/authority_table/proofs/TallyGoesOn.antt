-- A tally that goes on by one more row, and what it says of a refusal.
use Rattle.std.proofs.Common.{◌≡◌, ◌≢◌, ℕ, ◌+◌, ◌<◌, ◌≤◌, length, take, get_or, List, [], ◌∷◌, ◌++◌, length-append, refl, sym, ap, ◌∙◌, subst, arith}
use Rattle.std.specs.Prelude.{true, false, nat_lt, Option, Some, None, option_map, if◌then◌else◌}
use Rattle.std.specs.List.{filter, list_any}
use Rattle.std.specs.Option.{option_or}
use Rattle.std.proofs.lemmas.Bool.Decides.{nat_tests}
use Rattle.std.proofs.lemmas.List.{map_more, length-map}
use Rattle.policy_model.specs.Rules.{Row}
use Rattle.policy_model.specs.Contents.{Selector, Content, disable}
use Rattle.policy_model.specs.Changes.{selects, rows_after, touched_by}
use Rattle.policy_model.specs.Tables.{Answer, no_rule, disable_full}
use Rattle.policy_model.specs.Refusals.{full_rows, least_id, refused_by_rows, refused_by_count, none_selected}
use Rattle.rule_values.specs.declared.rule.Rule.{Rule}
use Rattle.authority_table.specs.declared.tally.Tally.{Tally}
use Rattle.rule_values.specs.declared.selector.Selector as code
use Rattle.rule_values.specs.declared.row_change.RowChange.{RowChange}
use Rattle.rule_values.specs.declared.row_change.RowChange.TheVariants.{Remove, Enable, Disable, Expire}
use Rattle.rule_values.specs.Rule.{row_of, rows_of}
use Rattle.authority_table.specs.Touched.{IsTouched}
use Rattle.authority_table.specs.Tally.{IsTally}
use Rattle.rule_values.specs.Selector.{selector_of, content_by}
use Rattle.authority_table.proofs.Tallied.{filter_last, filter_passed, unselected_passed, filter_fewer, any_kept}

-- the row is selected
pub tally_last : (s : Selector) (rows : List Row) (r : Row) (t u : Tally) → selects s r ≡ true → IsTally s rows t → u.count ≡ t.count + 1 →
    IsTouched (filter (selects s) rows ++ r ∷ []) u.touched → u.full ≡ least_id (full_rows (disable s) (rows ++ r ∷ [])) → IsTally s (rows ++ r ∷ []) u
tally_last s rows r t u sel h count touched full = record {
  count = count ∙ (ap (λ n. n + 1) h.count ∙ (sym (length-append (filter (selects s) rows) (r ∷ [])) ∙ ap length (sym (filter_last (selects s) rows r sel))));
  touched = subst (λ l. IsTouched l u.touched) (sym (filter_last (selects s) rows r sel)) touched;
  full = full;
}

-- it isn't
pub tally_passed : (s : Selector) (rows : List Row) (r : Row) (t : Tally) → selects s r ≡ false → IsTally s rows t → IsTally s (rows ++ r ∷ []) t
tally_passed s rows r t sel h = record {
  count = h.count ∙ ap length (sym (filter_passed (selects s) rows r sel));
  touched = subst (λ l. IsTouched l t.touched) (sym (filter_passed (selects s) rows r sel)) h.touched;
  full = h.full ∙ ap least_id (sym (unselected_passed s rows r sel));
}

-- no more are selected than there are
pub tally_fewer : (s : Selector) (rules : List Rule) (t : Tally) → IsTally s (rows_of rules) t → t.count ≤ length rules
tally_fewer s rules t h =
    let fewer : length (filter (selects s) (rows_of rules)) ≤ length (rows_of rules) = filter_fewer (selects s) (rows_of rules) in
    let same : length (rows_of rules) ≡ length rules = length-map rules row_of in
    omega (arith, h.count, fewer, same)

-- a list of rules that is read one further
pub tally_further : (s : Selector) (rules : List Rule) (i : ℕ) (d x : Rule) (t : Tally) → i < length rules → x ≡ get_or rules i d →
    IsTally s (rows_of (take i rules) ++ row_of x ∷ []) t → IsTally s (rows_of (take (i + 1) rules)) t
tally_further s rules i d x t lt e h =
    subst (λ rows. IsTally s rows t) (sym (map_more row_of rules i d lt ∙ ap (λ y. rows_of (take i rules) ++ row_of y ∷ []) (sym e))) h

-- some row is selected where the count is more than 0
pub tally_selects : (s : Selector) (rows : List Row) (t : Tally) → IsTally s rows t → nat_lt 0 t.count ≡ list_any (selects s) rows
tally_selects s rows t h = ap (nat_lt 0) h.count ∙ any_kept (selects s) rows

rows_refusal : (s : code.Selector) (c : RowChange) (rows : List Row) → refused_by_rows (content_by s c) rows ≡ none_selected (selector_of s) rows
rows_refusal s Remove rows = refl
rows_refusal s Enable rows = refl
rows_refusal s Disable rows = refl
rows_refusal s (Expire end) rows = refl

-- no row is selected
pub refused_none : (s : code.Selector) (c : RowChange) (rows : List Row) (t : Tally) → IsTally (selector_of s) rows t → t.count ≡ 0 →
    Some no_rule ≡ option_or (refused_by_rows (content_by s c) rows) (refused_by_count (content_by s c) rows)
refused_none s c rows t h zero' =
    let none : list_any (selects (selector_of s)) rows ≡ false = sym (tally_selects (selector_of s) rows t h) ∙ ap (nat_lt 0) zero' in
    sym (ap (λ o. option_or o (refused_by_count (content_by s c) rows)) (rows_refusal s c rows ∙ ap (λ b. if b then None else Some no_rule) none))

-- some is, and the rest decides
pub refused_some : (s : code.Selector) (c : RowChange) (rows : List Row) (t : Tally) → IsTally (selector_of s) rows t → 0 < t.count →
    option_or (refused_by_rows (content_by s c) rows) (refused_by_count (content_by s c) rows) ≡ refused_by_count (content_by s c) rows
refused_some s c rows t h some =
    let lt : nat_lt 0 t.count ≡ true = grind (arith, nat_tests, some) in
    let any : list_any (selects (selector_of s)) rows ≡ true = sym (tally_selects (selector_of s) rows t h) ∙ lt in
    ap (λ o. option_or o (refused_by_count (content_by s c) rows)) (rows_refusal s c rows ∙ ap (λ b. if b then None else Some no_rule) any)

count_none : (o : Option ℕ) → option_map disable_full o ≡ None → o ≡ None
count_none None e = refl
count_none (Some n) e = cc

or_none : (a b : Option Answer) → option_or a b ≡ None → b ≡ None
or_none None b e = e
or_none (Some x) b e = cc

-- where nothing is refused, no count is full
pub none_full : (c : Content) (rows : List Row) → option_or (refused_by_rows c rows) (refused_by_count c rows) ≡ None → least_id (full_rows c rows) ≡ None
none_full c rows e = count_none (least_id (full_rows c rows)) (or_none (refused_by_rows c rows) (refused_by_count c rows) e)

-- the rows after a change don't depend on the edit's number
pub rows_by : (n : ℕ) (s : code.Selector) (c : RowChange) (rows : List Row) → rows_after 0 (content_by s c) rows ≡ rows_after n (content_by s c) rows
rows_by n s Remove rows = refl
rows_by n s Enable rows = refl
rows_by n s Disable rows = refl
rows_by n s (Expire end) rows = refl

-- and those that it touches are the selected ones
pub touched_rows : (n : ℕ) (s : code.Selector) (c : RowChange) (rows : List Row) → filter (selects (selector_of s)) rows ≡ touched_by n (content_by s c) rows
touched_rows n s Remove rows = refl
touched_rows n s Enable rows = refl
touched_rows n s Disable rows = refl
touched_rows n s (Expire end) rows = refl

-- the least full row of a change that disables, or none
pub full_of : (s : code.Selector) (c : RowChange) (rows : List Row) → c ≢ Disable → least_id (full_rows (content_by s c) rows) ≡ None
full_of s Remove rows h = refl
full_of s Enable rows h = refl
full_of s Disable rows h = absurd (h refl)
full_of s (Expire end) rows h = refl

pub full_to_disable : (s : code.Selector) (c : RowChange) (rows : List Row) → c ≡ Disable → least_id (full_rows (content_by s c) rows) ≡ least_id (full_rows (disable (selector_of s)) rows)
full_to_disable s c rows e = ap (λ x. least_id (full_rows (content_by s x) rows)) e

-- the rest of a refusal by the least full row
pub refused_by : (s : code.Selector) (c : RowChange) (rows : List Row) (t : Tally) (o : Option ℕ) → IsTally (selector_of s) rows t → 0 < t.count →
    o ≡ least_id (full_rows (content_by s c) rows) → option_map disable_full o ≡ option_or (refused_by_rows (content_by s c) rows) (refused_by_count (content_by s c) rows)
refused_by s c rows t o h some e = ap (option_map disable_full) e ∙ sym (refused_some s c rows t h some)
