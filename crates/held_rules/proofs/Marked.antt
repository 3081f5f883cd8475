-- Marks of rules: what they say of a label, and that they go along with the rules.
use Rattle.std.proofs.Common.{◌≡◌, ◌≢◌, ℕ, zero, suc, ◌+◌, ◌<◌, length, take, drop, get_or, List, [], ◌∷◌, ◌++◌, refl, sym, ap, ◌∙◌, arith}
use Rattle.std.specs.Prelude.{Bool, true, false, cond, map, ◌&&◌, if◌then◌else◌, bytes_eq}
use Rattle.std.specs.List.{filter, remove}
use Rattle.std.proofs.Math.Bool.{false-and}
use Rattle.std.proofs.lemmas.Bool.{false_from_ne_true}
use Rattle.std.proofs.lemmas.Slice.Eq.{bytes_eq-Decides}
use Rattle.std.proofs.lemmas.List.{length-map, length-drop, length-take-le, get_or-map, get_or-take, get_or-drop, take-map, drop-map, map-append}
use Rattle.policy_model.specs.Rules.{Row}
use Rattle.policy_model.specs.Contents.{by_label, Selector}
use Rattle.policy_model.specs.Changes.{named_by, in_kind, selects, change, rows_after, with_count, with_expiry}
use Rattle.rule_values.specs.declared.rule.Rule.{Rule}
use Rattle.rule_values.specs.declared.selector.Selector as code
use Rattle.rule_values.specs.declared.row_change.RowChange.{RowChange}
use Rattle.rule_values.specs.declared.row_change.RowChange.TheVariants.{Remove, Enable, Disable, Expire}
use Rattle.rule_values.specs.Rule.{row_of, rows_of}
use Rattle.rule_values.specs.Selector.{selector_of, content_by}
use Rattle.held_rules.specs.Spans.{IsSpan}
use Rattle.list_marks.specs.declared.span.Span.{Span}
use Rattle.list_marks.specs.Marks.{mark_of}
use Rattle.list_marks.specs.Spans.{IsMarkSpan}
use Rattle.held_rules.specs.Marks.{row_mark, AreMarks}

-- a row of another mark hasn't the label
other_label : (s : Selector) (bytes : List ℕ) (r : Row) → s.which ≡ by_label bytes → row_mark r ≢ mark_of bytes → selects s r ≡ false
other_label s bytes r e ne =
    let differs : bytes_eq r.label bytes ≡ false = false_from_ne_true (bytes_eq r.label bytes) (λ q. ne (ap mark_of ((bytes_eq-Decides r.label bytes).0 q))) in
    ap (λ w. named_by w r && in_kind s.kind r) e ∙ (ap (λ b. b && in_kind s.kind r) differs ∙ false-and (in_kind s.kind r))

none_in : (test : Row → Bool) (rows : List Row) → ((k : ℕ) (d : Row) → k < length rows → test (get_or rows k d) ≡ false) → filter test rows ≡ []
none_in test [] h = refl
none_in test (x ∷ rows) h =
    ap (λ b. cond b (x ∷ filter test rows) (filter test rows)) (h zero x (omega arith))
    ∙ none_in test rows (λ k d lt. h (suc k) d (omega (arith, lt)))

mark_at : (rows : List Row) (marks : List ℕ) (k : ℕ) (d : Row) → AreMarks rows marks → k < length rows → get_or marks k (row_mark d) ≡ row_mark (get_or rows k d)
mark_at rows marks k d marked lt = ap (λ l. get_or l k (row_mark d)) marked ∙ get_or-map row_mark rows k d (row_mark d) lt

-- outside of the places of a label's mark no row is selected by the label
pub mark_span : (s : Selector) (bytes : List ℕ) (rows : List Row) (marks : List ℕ) (mark : ℕ) (span : Span) → s.which ≡ by_label bytes → AreMarks rows marks → mark ≡ mark_of bytes →
    IsMarkSpan marks mark span → IsSpan s rows span
mark_span s bytes rows marks mark span e marked is places =
    let same : length marks ≡ length rows = ap length marked ∙ length-map rows row_mark in
    record {
      ordered = places.ordered;
      within = omega (arith, places.within, same);
      front = none_in (selects s) (take span.from rows) (λ k d lt.
          let few : length (take span.from rows) ≡ span.from = length-take-le span.from rows (omega (arith, places.ordered, places.within, same)) in
          let less : k < span.from = omega (arith, lt, few) in
          ap (selects s) (get_or-take span.from rows k d less)
          ∙ other_label s bytes (get_or rows k d) e
          (λ q. places.front k (row_mark d) less (mark_at rows marks k d marked (omega (arith, less, places.ordered, places.within, same)) ∙ (q ∙ sym is))));
      rear = none_in (selects s) (drop span.to rows) (λ k d lt.
          let rest : length (drop span.to rows) + span.to ≡ length rows = omega (arith, length-drop span.to rows, places.within, same) in
          let less : span.to + k < length rows = omega (arith, lt, rest) in
          ap (selects s) (get_or-drop span.to rows k d)
          ∙ other_label s bytes (get_or rows (span.to + k) d) e
          (λ q. places.rear (span.to + k) (row_mark d) (omega arith) (omega (arith, less, same)) (mark_at rows marks (span.to + k) d marked less ∙ (q ∙ sym is))));
    }

map_removed : {X Y : Type 0} (f : X → Y) (xs : List X) (at : ℕ) → map f (remove xs at) ≡ remove (map f xs) at
map_removed f xs at =
    map-append f (take at xs) (drop (suc at) xs)
    ∙ (ap (λ l. l ++ map f (drop (suc at) xs)) (sym (take-map f at xs)) ∙ ap (λ l. take at (map f xs) ++ l) (sym (drop-map f (suc at) xs)))

-- a rule is taken out, and its mark
pub marks_removed : (rules new : List Rule) (marks after : List ℕ) (at : ℕ) → AreMarks (rows_of rules) marks → new ≡ remove rules at → after ≡ remove marks at → AreMarks (rows_of new) after
marks_removed rules new marks after at marked is gone =
    gone
    ∙ (ap (λ l. remove l at) marked
    ∙ sym (ap (λ l. map row_mark (rows_of l)) is ∙ (ap (map row_mark) (map_removed row_of rules at) ∙ map_removed row_mark (rows_of rules) at)))

if_keeps : (b : Bool) (x r : Row) → x.label ≡ r.label → (if b then x else r).label ≡ r.label
if_keeps true x r e = e
if_keeps false x r e = refl

same_marks : (test : Row → Bool) (g : Row → Row) → ((r : Row) → (g r).label ≡ r.label) → (rows : List Row) → map row_mark (change test g rows) ≡ map row_mark rows
same_marks test g keeps [] = refl
same_marks test g keeps (x ∷ rows) =
    ap (λ l. mark_of l ∷ map row_mark (change test g rows)) (if_keeps (test x) (g x) x (keeps x)) ∙ ap (λ l. row_mark x ∷ l) (same_marks test g keeps rows)

changed_marks : (s : code.Selector) (c : RowChange) (rows : List Row) → c ≢ Remove → map row_mark (rows_after 0 (content_by s c) rows) ≡ map row_mark rows
changed_marks s Remove rows h = absurd (h refl)
changed_marks s Enable rows h = same_marks (selects (selector_of s)) (with_count 0) (λ r. refl) rows
changed_marks s Disable rows h = same_marks (selects (selector_of s)) (λ r. with_count (r.disabled + 1) r) (λ r. refl) rows
changed_marks s (Expire end) rows h = same_marks (selects (selector_of s)) (with_expiry end) (λ r. refl) rows

-- a change other than a removal leaves the marks
pub marks_kept : (s : code.Selector) (c : RowChange) (old new : List Row) (marks : List ℕ) → c ≢ Remove → AreMarks old marks → new ≡ rows_after 0 (content_by s c) old → AreMarks new marks
marks_kept s c old new marks h marked is = marked ∙ sym (ap (map row_mark) is ∙ changed_marks s c old h)
