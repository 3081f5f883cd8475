use Rattle.std.proofs.Common.{rules, List, subst}
use Rattle.rule_edits.specs.declared.edit.Edit as code
use Rattle.import_csv.specs.RowCode.{edits_of}
use Rattle.table_commands.specs.Steps.{Comes}
use Rattle.table_commands.proofs.Saying.{import_done}
use Rattle.table_commands.proofs.importing.import_bytes.Goals as goal

pub returns-in-Ok-clause-says : goal.returns-in-Ok-clause-says
returns-in-Ok-clause-says g c = λ o h stands.
    import_done o h c.args.bytes.now (edits_of c.in-Ok.edits) c.import_rows.new.desk _ _ _ _ (search rules)
    (subst (λ (es : List code.Edit). Comes o h (edits_of es) c.import_rows.new.desk (g.K.Keeper.faults c.args.keeper.now) (g.K.Keeper.faults c.import_rows.new.keeper) c.import_rows.result.status c.import_rows.result.text) c.as_slice.ensures
    (c.import_rows.ensures.says o h stands))
