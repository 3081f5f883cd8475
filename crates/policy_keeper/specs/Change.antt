-- The program's changes as those of the definitions.
use Rattle.store_model.specs.Change.{Change}
use Rattle.rule_edits.specs.Edit.{edit_of}
use Rattle.policy_keeper.specs.declared.change.Change as code

-- number, edit and how many rules it touches
abbrev pub change_of : code.Change → Change
change_of c = record { number = c.number; edit = edit_of c.edit; touched = c.touched }
