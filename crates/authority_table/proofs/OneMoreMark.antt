-- A rule is added, and its mark.
use Rattle.std.proofs.Common.{◌≡◌, ℕ, List, [], ◌∷◌, ◌++◌, sym, ap, ◌∙◌}
use Rattle.std.specs.Prelude.{map}
use Rattle.std.proofs.lemmas.List.{map-append}
use Rattle.rule_values.specs.declared.rule.Rule.{Rule}
use Rattle.rule_values.specs.Label.{label_bytes}
use Rattle.rule_values.specs.Rule.{row_of, rows_of}
use Rattle.list_marks.specs.Marks.{mark_of}
use Rattle.held_rules.specs.Marks.{row_mark, AreMarks}

-- a rule is added, and its mark
pub marks_more : (rules new : List Rule) (rule : Rule) (marks after : List ℕ) (mark : ℕ) → AreMarks (rows_of rules) marks → mark ≡ mark_of (label_bytes rule.label) →
    new ≡ rules ++ rule ∷ [] → after ≡ marks ++ mark ∷ [] → AreMarks (rows_of new) after
marks_more rules new rule marks after mark marked e is more =
    more
    ∙ (ap (λ l. l ++ mark ∷ []) marked
    ∙ (ap (λ m. map row_mark (rows_of rules) ++ m ∷ []) e
    ∙ sym (ap (λ l. map row_mark (rows_of l)) is ∙ (ap (map row_mark) (map-append row_of rules (rule ∷ [])) ∙ map-append row_mark (rows_of rules) (row_of rule ∷ [])))))
