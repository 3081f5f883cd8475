-- The marks of rows: those of their labels.
use Rattle.std.specs.Prelude.{◌≡◌, ℕ, List, map}
use Rattle.policy_model.specs.Rules.{Row}
use Rattle.list_marks.specs.Marks.{mark_of}

-- the mark of a row's label
abbrev pub row_mark : Row → ℕ
row_mark r = mark_of r.label

-- the marks are those of the rows, in their order
abbrev pub AreMarks : List Row → List ℕ → Type 0
AreMarks rows marks = marks ≡ map row_mark rows
