-- Marks of rules: what they say of a label, and that they go along with the rules.
use Rattle.std.proofs.Common.{◌≡◌, ◌≢◌, ℕ, zero, suc, ◌+◌, ◌<◌, length, take, drop, get_or, List, [], ◌∷◌, ◌++◌, refl, sym, ap, ◌∙◌, arith}
use Rattle.std.specs.Prelude.{Bool, true, false, cond, map, ◌&&◌, if◌then◌else◌, bytes_eq}
use Rattle.std.specs.List.{filter, remove}
use Rattle.std.proofs.lemmas.Bool.{false_from_ne_true}
use Rattle.std.proofs.lemmas.Slice.Eq.{bytes_eq-Decides}
use Rattle.std.proofs.lemmas.List.{length-map, length-drop, length-take-le, get_or-map, get_or-take, get_or-drop, take-map, drop-map, map-append}
use Rattle.policy_model.specs.Contents.{by_label, Selector}
use Rattle.store_model.specs.Raw.{RawRule}
use Rattle.store_model.specs.Change.{raw_named_by, raw_in_kind, raw_selects, raw_change, raw_rules_after}
use Rattle.rule_values.specs.declared.selector.Selector as selector
use Rattle.rule_values.specs.declared.row_change.RowChange.{RowChange}
use Rattle.rule_values.specs.declared.row_change.RowChange.TheVariants.{Remove, Enable, Disable, Expire}
use Rattle.rule_values.specs.Selector.{selector_of, content_by}
use Rattle.list_marks.specs.declared.span.Span.{Span}
use Rattle.list_marks.specs.Marks.{mark_of}
use Rattle.list_marks.specs.Spans.{IsMarkSpan}
use Rattle.raw_tables.specs.declared.rule.RawRule as code
use Rattle.raw_tables.specs.Raw.{plain_rule, plain_rules}
use Rattle.memory_keeper.specs.Changes.{raw_changed_by}
use Rattle.memory_keeper.specs.Marks.{raw_mark, AreMarks}
use Rattle.memory_keeper.specs.Spans.{IsSpan}
use Rattle.memory_keeper.proofs.Changed.{rules_changed}
use Rattle.memory_keeper.proofs.Spanned.{and_false}

-- a rule of another mark hasn't the label
other_label : (s : Selector) (bytes : List ℕ) (r : RawRule) → s.which ≡ by_label bytes → raw_mark r ≢ mark_of bytes → raw_selects s r ≡ false
other_label s bytes r e ne =
    let differs : bytes_eq r.label bytes ≡ false = false_from_ne_true (bytes_eq r.label bytes) (λ q. ne (ap mark_of ((bytes_eq-Decides r.label bytes).0 q))) in
    ap (λ w. raw_named_by w r && raw_in_kind s.kind r) e ∙ (ap (λ b. b && raw_in_kind s.kind r) differs ∙ and_false (raw_in_kind s.kind r))

none_in : (test : RawRule → Bool) (rows : List RawRule) → ((k : ℕ) (d : RawRule) → k < length rows → test (get_or rows k d) ≡ false) → filter test rows ≡ []
none_in test [] h = refl
none_in test (x ∷ rows) h =
    ap (λ b. cond b (x ∷ filter test rows) (filter test rows)) (h zero x (omega arith))
    ∙ none_in test rows (λ k d lt. h (suc k) d (omega (arith, lt)))

mark_at : (rows : List RawRule) (marks : List ℕ) (k : ℕ) (d : RawRule) → AreMarks rows marks → k < length rows → get_or marks k (raw_mark d) ≡ raw_mark (get_or rows k d)
mark_at rows marks k d marked lt = ap (λ l. get_or l k (raw_mark d)) marked ∙ get_or-map raw_mark rows k d (raw_mark d) lt

-- outside of the places of a label's mark no rule is selected by the label
pub mark_span : (s : Selector) (bytes : List ℕ) (rows : List RawRule) (marks : List ℕ) (mark : ℕ) (span : Span) → s.which ≡ by_label bytes → AreMarks rows marks → mark ≡ mark_of bytes →
    IsMarkSpan marks mark span → IsSpan s rows span
mark_span s bytes rows marks mark span e marked is places =
    let same : length marks ≡ length rows = ap length marked ∙ length-map rows raw_mark in
    record {
      ordered = places.ordered;
      within = omega (arith, places.within, same);
      front = none_in (raw_selects s) (take span.from rows) (λ k d lt.
          let few : length (take span.from rows) ≡ span.from = length-take-le span.from rows (omega (arith, places.ordered, places.within, same)) in
          let less : k < span.from = omega (arith, lt, few) in
          ap (raw_selects s) (get_or-take span.from rows k d less)
          ∙ other_label s bytes (get_or rows k d) e
          (λ q. places.front k (raw_mark d) less (mark_at rows marks k d marked (omega (arith, less, places.ordered, places.within, same)) ∙ (q ∙ sym is))));
      rear = none_in (raw_selects s) (drop span.to rows) (λ k d lt.
          let rest : length (drop span.to rows) + span.to ≡ length rows = omega (arith, length-drop span.to rows, places.within, same) in
          let less : span.to + k < length rows = omega (arith, lt, rest) in
          ap (raw_selects s) (get_or-drop span.to rows k d)
          ∙ other_label s bytes (get_or rows (span.to + k) d) e
          (λ q. places.rear (span.to + k) (raw_mark d) (omega arith) (omega (arith, less, same)) (mark_at rows marks (span.to + k) d marked less ∙ (q ∙ sym is))));
    }

map_removed : {X Y : Type 0} (f : X → Y) (xs : List X) (at : ℕ) → map f (remove xs at) ≡ remove (map f xs) at
map_removed f xs at =
    map-append f (take at xs) (drop (suc at) xs)
    ∙ (ap (λ l. l ++ map f (drop (suc at) xs)) (sym (take-map f at xs)) ∙ ap (λ l. take at (map f xs) ++ l) (sym (drop-map f (suc at) xs)))

-- a rule is taken out, and its mark
pub marks_removed : (rules new : List code.RawRule) (marks after : List ℕ) (at : ℕ) → AreMarks (plain_rules rules) marks → new ≡ remove rules at → after ≡ remove marks at → AreMarks (plain_rules new) after
marks_removed rules new marks after at marked is gone =
    gone
    ∙ (ap (λ l. remove l at) marked
    ∙ sym (ap (λ l. map raw_mark (plain_rules l)) is ∙ (ap (map raw_mark) (map_removed plain_rule rules at) ∙ map_removed raw_mark (plain_rules rules) at)))

-- a rule is added, and its mark
pub marks_more : (rules new : List code.RawRule) (rule : code.RawRule) (marks after : List ℕ) (mark : ℕ) → AreMarks (plain_rules rules) marks → mark ≡ mark_of rule.label →
    new ≡ rules ++ rule ∷ [] → after ≡ marks ++ mark ∷ [] → AreMarks (plain_rules new) after
marks_more rules new rule marks after mark marked e is more =
    more
    ∙ (ap (λ l. l ++ mark ∷ []) marked
    ∙ (ap (λ m. map raw_mark (plain_rules rules) ++ m ∷ []) e
    ∙ sym (ap (λ l. map raw_mark (plain_rules l)) is ∙ (ap (map raw_mark) (map-append plain_rule rules (rule ∷ [])) ∙ map-append raw_mark (plain_rules rules) (plain_rule rule ∷ [])))))

if_keeps : (b : Bool) (x r : RawRule) → x.label ≡ r.label → (if b then x else r).label ≡ r.label
if_keeps true x r e = e
if_keeps false x r e = refl

same_marks : (s : Selector) (g : RawRule → RawRule) → ((r : RawRule) → (g r).label ≡ r.label) → (rules : List RawRule) → map raw_mark (raw_change s g rules) ≡ map raw_mark rules
same_marks s g keeps [] = refl
same_marks s g keeps (x ∷ rules) =
    ap (λ l. mark_of l ∷ map raw_mark (raw_change s g rules)) (if_keeps (raw_selects s x) (g x) x (keeps x)) ∙ ap (λ l. raw_mark x ∷ l) (same_marks s g keeps rules)

label_stays : (c : RowChange) (r : RawRule) → (raw_changed_by c r).label ≡ r.label
label_stays Remove r = refl
label_stays Enable r = refl
label_stays Disable r = refl
label_stays (Expire end) r = refl

-- a change other than a removal leaves the marks
pub marks_kept : (s : selector.Selector) (c : RowChange) (old new : List RawRule) (marks : List ℕ) → c ≢ Remove → AreMarks old marks → ((n : ℕ) → new ≡ raw_rules_after n (content_by s c) old) → AreMarks new marks
marks_kept s c old new marks h marked is =
    marked ∙ sym (ap (map raw_mark) (is 0 ∙ sym (rules_changed 0 s c old h)) ∙ same_marks (selector_of s) (raw_changed_by c) (label_stays c) old)
