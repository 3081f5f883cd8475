-- Which rules an edit is about. This project's own, after the options of spctl(8).
use Rattle.std.specs.Prelude.{ℕ, List, Result, Ok, Err, if◌then◌else◌, codes, bytes_eq}
use Rattle.policy_model.specs.Contents.{Which, by_id, by_label, Selector}
use Rattle.line_model.specs.LineFaults.{LineFault}
use Rattle.line_model.specs.Left.{Left, ◌>>=◌, word_at, misfit}
use Rattle.line_model.specs.Forms.{rule_at, name_at, any_kind_at}

-- what was read, as an id or a label
abbrev pub as_which : {A : Type 0} → (A → Which) → Result (A × Left) LineFault → Result (Which × Left) LineFault
as_which which read = do
  value ← read
  Ok (which value.0, value.1)

-- an id or a label whose first word stands here and is this one, with what is left behind it
abbrev pub which_by : Left → List ℕ × Left → Result (Which × Left) LineFault
which_by here word =
    if bytes_eq word.0 (codes "id") then as_which by_id (rule_at word.1)
    else if bytes_eq word.0 (codes "label") then as_which by_label (name_at word.1)
    else Err (misfit here)

-- id and a rule's number, or label and a label
abbrev pub which_at : Left → Result (Which × Left) LineFault
which_at left = do
  word ← word_at left
  which_by left word

-- an id or a label, and a kind or any
abbrev pub selector_at : Left → Result (Selector × Left) LineFault
selector_at left = do
  which ← which_at left
  kind ← any_kind_at which.1
  Ok (record { which = which.0; kind = kind.0 }, kind.1)
