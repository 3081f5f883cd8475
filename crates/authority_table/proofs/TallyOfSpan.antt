-- What a tally of a span says of all rules, where none outside of it is selected.
use Rattle.std.proofs.Common.{◌≡◌, ◌-◌, ℕ, ◌≤◌, length, take, drop, List, [], ◌∷◌, ◌++◌, append-nil, refl, sym, ap, ◌∙◌, subst}
use Rattle.std.specs.Prelude.{Bool, true, false, cond, nat_le, ◌&&◌, slice_range}
use Rattle.std.specs.List.{filter}
use Rattle.std.proofs.Math.Bool.{false-and}
use Rattle.std.proofs.lemmas.List.{take-map, drop-map}
use Rattle.std.proofs.lemmas.List.Edits.{split_between}
use Rattle.std.proofs.lemmas.List.Elements.{filter-append}
use Rattle.policy_model.specs.declared.limits.TheConstants.{MOST_DISABLES}
use Rattle.policy_model.specs.Rules.{Row}
use Rattle.policy_model.specs.Contents.{Selector}
use Rattle.policy_model.specs.Changes.{selects}
use Rattle.policy_model.specs.Refusals.{least_id}
use Rattle.rule_values.specs.declared.rule.Rule.{Rule}
use Rattle.authority_table.specs.declared.tally.Tally.{Tally}
use Rattle.list_marks.specs.declared.span.Span.{Span}
use Rattle.rule_values.specs.Rule.{row_of, rows_of}
use Rattle.held_rules.specs.Spans.{IsSpan}
use Rattle.authority_table.specs.Tally.{IsTally}
use Rattle.authority_table.specs.Touched.{IsTouched}

-- what is kept of rows of which none passes outside of the span
filter_span : (test : Row → Bool) (rows : List Row) (from to : ℕ) → from ≤ to → filter test (take from rows) ≡ [] → filter test (drop to rows) ≡ [] → filter test (slice_range rows from to) ≡ filter test rows
filter_span test rows from to le front rear = sym (
    ap (filter test) (split_between rows from to le)
    ∙ (filter-append test (take from rows) (slice_range rows from to ++ drop to rows)
    ∙ (ap (λ l. l ++ filter test (slice_range rows from to ++ drop to rows)) front
    ∙ (filter-append test (slice_range rows from to) (drop to rows)
    ∙ (ap (λ l. filter test (slice_range rows from to) ++ l) rear
    ∙ append-nil (filter test (slice_range rows from to)))))))

none_head : (b : Bool) (x : Row) (xs : List Row) → cond b (x ∷ xs) xs ≡ [] → (b ≡ false) × (xs ≡ [])
none_head true x xs e = cc
none_head false x xs e = (refl, e)

abbrev is_full : Selector → Row → Bool
is_full s r = selects s r && nat_le MOST_DISABLES r.disabled

none_full : (s : Selector) (rows : List Row) → filter (selects s) rows ≡ [] → filter (is_full s) rows ≡ []
none_full s [] e = refl
none_full s (x ∷ rows) e =
    let h = none_head (selects s x) x (filter (selects s) rows) e in
    ap (λ b. cond (b && nat_le MOST_DISABLES x.disabled) (x ∷ filter (is_full s) rows) (filter (is_full s) rows)) h.0
    ∙ (ap (λ b. cond b (x ∷ filter (is_full s) rows) (filter (is_full s) rows)) (false-and (nat_le MOST_DISABLES x.disabled)) ∙ none_full s rows h.1)

rows_of_span : (rules : List Rule) (from to : ℕ) → rows_of (slice_range rules from to) ≡ slice_range (rows_of rules) from to
rows_of_span rules from to = sym (ap (take (to - from)) (drop-map row_of from rules) ∙ take-map row_of (to - from) (drop from rules))

-- a tally of the span is one of all rules
pub tally_span : (s : Selector) (rules : List Rule) (span : Span) (t : Tally) → IsSpan s (rows_of rules) span → IsTally s (rows_of (slice_range rules span.from span.to)) t → IsTally s (rows_of rules) t
tally_span s rules span t h tally =
    let here : IsTally s (slice_range (rows_of rules) span.from span.to) t = subst (λ rows. IsTally s rows t) (rows_of_span rules span.from span.to) tally in
    let same : filter (selects s) (slice_range (rows_of rules) span.from span.to) ≡ filter (selects s) (rows_of rules) = filter_span (selects s) (rows_of rules) span.from span.to h.ordered h.front h.rear in
    record {
      count = here.count ∙ ap length same;
      touched = subst (λ l. IsTouched l t.touched) same here.touched;
      full = here.full ∙ ap least_id (filter_span (is_full s) (rows_of rules) span.from span.to h.ordered (none_full s (take span.from (rows_of rules)) h.front) (none_full s (drop span.to (rows_of rules)) h.rear));
    }
