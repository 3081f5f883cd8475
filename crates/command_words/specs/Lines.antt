-- What the words of a command line are, without the program's name: `clap` says which are options, and the table of
-- commands what the others ask for. This project's own, after spctl(8).
use Rattle.std.specs.Prelude.{ℕ, true, List, [], ◌∷◌, Option, Some, None, unwrap_or, option_map, codes}
use Rattle.clap.specs.Words.{App, Row, Rule, Kinds, all_of, fault_of, first_of, matches_of, new_app, new_rule, with_rule}
use Rattle.clap.specs.declared.builder.action.ArgAction.TheVariants.{Set, Append}
use Rattle.command_words.specs.Table.{Command, in_table}

-- the option for a file of facts, which may stand once
abbrev pub facts_option : Rule
facts_option = record (new_rule (codes "facts")) { long = Some (codes "facts"); action = Some Set }

-- the first word that is no option: the store
abbrev pub store_place : Rule
store_place = record (new_rule (codes "store")) { action = Some Set; required = true }

-- the second: the command's word
abbrev pub command_place : Rule
command_place = record (new_rule (codes "command")) { action = Some Set; required = true }

-- any others: the words behind the command's
abbrev pub words_place : Rule
words_place = record (new_rule (codes "words")) { action = Some Append }

-- the program as clap sees it, which has no option for help
abbrev pub bare : App
bare = record (new_app (codes "gatekeeper")) { top = record (new_app (codes "gatekeeper")).top { no_binary_name = true; disable_help_flag = true } }

-- the program with its arguments
abbrev pub gatekeeper : App
gatekeeper = with_rule (with_rule (with_rule (with_rule bare facts_option) store_place) command_place) words_place

-- a command line
pub record CommandLine : Type 0 where
  -- the name of the store
  pub store : List ℕ
  -- the name of the file of facts
  pub facts : Option (List ℕ)
  pub command : Command

-- a line of a store and a command, where they are there
abbrev pub lined : Option (List ℕ) → Option (List ℕ) → Option Command → Option CommandLine
lined (Some store) facts (Some command) = Some (record { store = store; facts = facts; command = command })
lined None facts command = None
lined (Some store) facts None = None

-- the command of a word that is there
abbrev pub command_of : Option (List ℕ) → List (List ℕ) → Option Command
command_of None more = None
command_of (Some word) more = in_table word more

-- the line of what clap found
abbrev pub line_from : List Row → Option CommandLine
line_from rows = lined (first_of (codes "store") rows) (first_of (codes "facts") rows) (command_of (first_of (codes "command") rows) (unwrap_or (all_of (codes "words") rows) []))

-- the line where clap takes the words
abbrev pub line_unless : Kinds → List Row → Option CommandLine
line_unless [] rows = line_from rows
line_unless (kind ∷ kinds) rows = None

-- the line of these words: clap takes them, and the command stands in the table with its words
abbrev pub line_of : List (List ℕ) → Option CommandLine
line_of words = line_unless (fault_of gatekeeper words) (matches_of gatekeeper words)

-- the store that the words name; for words that are no line it is one in memory
abbrev pub store_of : List (List ℕ) → List ℕ
store_of words = unwrap_or (option_map (λ line. line.store) (line_of words)) (codes ":memory:")
