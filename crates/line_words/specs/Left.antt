-- What a call reads of a line, and what it leaves of it.
use Rattle.std.specs.Prelude.{◌≡◌, ℕ, List, [], Option, Some, None, Result, Ok, Err}
use Rattle.std.specs.Option.{option_copied}
use Rattle.line_model.specs.Words.{words}
use Rattle.line_model.specs.LineFaults.{LineFault}
use Rattle.line_model.specs.Left.{Left}
use Rattle.line_words.specs.Faults.{fault_of}
use Rattle.line_words.specs.declared.fault.LineFault as code
use Rattle.line_words.specs.declared.cursor.Cursor.{Cursor}

-- no words after the last one, or those of a text
abbrev pub left_words : Option (List ℕ) → List (List ℕ)
left_words None = []
left_words (Some text) = words text

-- what is left of a cursor's line
abbrev pub left : Cursor → Left
left cursor = record { column = cursor.column; words = left_words (option_copied cursor.rest) }

-- a call returned what reading gives, seen by view, and left what reading leaves
abbrev pub Takes : {A B : Type 0} → (A → B) → Left → Result A code.LineFault → Result (B × Left) LineFault → Type 0
Takes view now (Ok a) read = read ≡ Ok (view a, now)
Takes view now (Err fault) read = read ≡ Err (fault_of fault)

-- a call returned what reading gives, seen by view
abbrev pub Gives : {A B : Type 0} → (A → B) → Result A code.LineFault → Result B LineFault → Type 0
Gives view (Ok a) read = read ≡ Ok (view a)
Gives view (Err fault) read = read ≡ Err (fault_of fault)
