-- The words of a run. This project's own.
use Rattle.std.specs.Prelude.{ℕ, List, Option}
use Rattle.command_words.specs.Table.{Command}
use Rattle.command_words.specs.Lines.{CommandLine, line_of}

-- a line of a store, facts and a command
abbrev pub line_on : List ℕ → Option (List ℕ) → Command → CommandLine
line_on store facts command = record { store = store; facts = facts; command = command }

-- what these words ask for
abbrev pub asked : List (List ℕ) → Option CommandLine
asked words = line_of words
