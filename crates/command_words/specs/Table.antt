-- The table of commands: a command's word, and the words behind it. This project's own, after spctl(8).
use Rattle.std.specs.Prelude.{ℕ, Bool, ◌&&◌, ◌||◌, nat_le, if◌then◌else◌, List, [], ◌∷◌, Option, Some, None, option_map, codes, bytes_eq, decimal}
use Rattle.policy_model.specs.Rules.{Kind}
use Rattle.line_model.specs.Words.{kind_word, number_word, spaced}
use Rattle.command_words.specs.declared.limits.TheConstants.{MOST_STEPS}

-- what the program is asked to do with files
pub data FileCommand : Type 0 where
  -- make a blob of the text of a requirement
  compile : (name : List ℕ) → FileCommand
  -- make a blob of the text of a set of requirements
  compile_set : (name : List ℕ) → FileCommand
  -- make a text of a blob
  dump : (name : List ℕ) → FileCommand
  -- assess the code of a signature file, and look at a code file where one is named
  assess : (kind : Kind) (name : List ℕ) (code : Option (List ℕ)) → FileCommand

-- what the program is asked to do with the rules of the store
pub data TableCommand : Type 0 where
  -- make the edit of a line
  edit : (line : List ℕ) → TableCommand
  -- say whether assessments are enabled
  status : TableCommand
  -- print the rules
  list : TableCommand
  -- make the edits of a file
  import_file : (name : List ℕ) → TableCommand

-- what the program is asked to do
pub data Command : Type 0 where
  -- answer the lines of the input
  session : Command
  -- say one thing of files
  on_files : FileCommand → Command
  -- change or show the rules of the store
  on_tables : TableCommand → Command
  -- run a session that is made up, of so many lines
  rehearse : (steps : ℕ) → Command

-- the word begins an edit's line
abbrev pub begins_edit : List ℕ → Bool
begins_edit word =
    bytes_eq word (codes "add") || (bytes_eq word (codes "remove") || (bytes_eq word (codes "enable")
    || (bytes_eq word (codes "disable") || (bytes_eq word (codes "expire") || bytes_eq word (codes "switch")))))

-- a number from 1 to the most steps of a rehearsal, as its decimal digits and nothing else
abbrev pub steps_word : List ℕ → Option ℕ
steps_word word = steps_among (number_word 5 MOST_STEPS word) word
  where
    steps_among : Option ℕ → List ℕ → Option ℕ
    steps_among None word = None
    steps_among (Some n) word = if nat_le 1 n && bytes_eq word (decimal n) then Some n else None

-- a command that takes no word behind it
abbrev pub alone : List ℕ → Option Command
alone word =
    if bytes_eq word (codes "session") then Some session
    else if bytes_eq word (codes "status") then Some (on_tables status)
    else if bytes_eq word (codes "list") then Some (on_tables list)
    else None

-- a command and one word: the name of a file, or a number of steps
abbrev pub with_one : List ℕ → List ℕ → Option Command
with_one word name =
    if bytes_eq word (codes "compile") then Some (on_files (compile name))
    else if bytes_eq word (codes "compileset") then Some (on_files (compile_set name))
    else if bytes_eq word (codes "dump") then Some (on_files (dump name))
    else if bytes_eq word (codes "import") then Some (on_tables (import_file name))
    else if bytes_eq word (codes "rehearse") then option_map rehearse (steps_word name)
    else None

-- a command, the kind of an assessment and its files
abbrev pub with_kind : List ℕ → List ℕ → List ℕ → Option (List ℕ) → Option Command
with_kind word kind name code = if bytes_eq word (codes "assess") then option_map (λ k. on_files (assess k name code)) (kind_word kind) else None

-- a command other than an edit, by the number of the words behind it
abbrev pub by_number : List ℕ → List (List ℕ) → Option Command
by_number word [] = alone word
by_number word (name ∷ []) = with_one word name
by_number word (kind ∷ name ∷ []) = with_kind word kind name None
by_number word (kind ∷ name ∷ code ∷ []) = with_kind word kind name (Some code)
by_number word other = None

-- the command of these words; an edit's line is all of them, with a space between each two
abbrev pub in_table : List ℕ → List (List ℕ) → Option Command
in_table word more = if begins_edit word then Some (on_tables (edit (spaced (word ∷ more)))) else by_number word more
