-- The marks of stored rules: those of their labels.
use Rattle.std.specs.Prelude.{◌≡◌, ℕ, List, map}
use Rattle.list_marks.specs.Marks.{mark_of}
use Rattle.store_model.specs.Raw.{RawRule}

-- the mark of a rule's label
abbrev pub raw_mark : RawRule → ℕ
raw_mark r = mark_of r.label

-- the marks are those of the rules, in their order
abbrev pub AreMarks : List RawRule → List ℕ → Type 0
AreMarks rules marks = marks ≡ map raw_mark rules
