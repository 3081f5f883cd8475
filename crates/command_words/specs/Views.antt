-- The program's command lines as those of the definitions.
use Rattle.std.specs.Prelude.{ℕ, List, Option, option_map, map}
use denote.Bor.{Bor}
use Rattle.rule_values.specs.Kind.{kind_of}
use Rattle.command_words.specs.Table as model
use Rattle.command_words.specs.Table.{session, on_files, on_tables, rehearse, compile, compile_set, dump, assess, edit, status, list, import_file}
use Rattle.command_words.specs.Lines as lines
use Rattle.command_words.specs.declared.command.CommandLine as code_line
use Rattle.command_words.specs.declared.command.Command as code
use Rattle.command_words.specs.declared.command.Command.TheVariants.{Session, OnFiles, OnTables, Rehearse}
use Rattle.command_words.specs.declared.command.FileCommand as code_files
use Rattle.command_words.specs.declared.command.FileCommand.TheVariants.{Compile, CompileSet, Dump, Assess}
use Rattle.command_words.specs.declared.command.TableCommand as code_tables
use Rattle.command_words.specs.declared.command.TableCommand.TheVariants.{Edit, Status, List as ListRules, Import}

-- the words as bytes
abbrev pub texts : List (Bor (List ℕ)) → List (List ℕ)
texts words = map (λ word. word.now) words

-- a word that may be there, as bytes
abbrev pub text_of : Option (Bor (List ℕ)) → Option (List ℕ)
text_of word = option_map (λ w. w.now) word

-- the command on files of the definitions
abbrev pub file_view : code_files.FileCommand → model.FileCommand
file_view (Compile name) = compile name.now
file_view (CompileSet name) = compile_set name.now
file_view (Dump name) = dump name.now
file_view (Assess kind name code) = assess (kind_of kind) name.now (text_of code)

-- the command on the store's rules of the definitions
abbrev pub table_view : code_tables.TableCommand → model.TableCommand
table_view (Edit line) = edit line
table_view Status = status
table_view ListRules = list
table_view (Import name) = import_file name.now

-- the command of the definitions
abbrev pub command_view : code.Command → model.Command
command_view Session = session
command_view (OnFiles command) = on_files (file_view command)
command_view (OnTables command) = on_tables (table_view command)
command_view (Rehearse steps) = rehearse steps

-- the command line of the definitions
abbrev pub line_view : code_line.CommandLine → lines.CommandLine
line_view line = record { store = line.store.now; facts = text_of line.facts; command = command_view line.command }
