-- What a rehearsal has still to make.
use Rattle.std.specs.Prelude.{ℕ, List}
use Rattle.rehearsal.specs.declared.course.Rehearsal.{Rehearsal}
use Rattle.rehearsal.specs.Made.{lines_from}

-- the lines that are left
abbrev pub lines_left : Rehearsal → List (List ℕ)
lines_left r = lines_from r.left r.next (record { state = r.draft.state; now = r.moment })
