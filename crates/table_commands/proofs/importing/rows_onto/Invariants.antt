use Rattle.std.proofs.Common.{◌≤◌, List, IsSome, take}
use Rattle.policy_model.specs.History.{Event, Opening}
use Rattle.import_csv.specs.RowCode.{edits_of}
use Rattle.policy_keeper.specs.Mirror.{Mirrors}
use Rattle.desk_state.specs.Stands.{tables, Stands}
use Rattle.table_commands.specs.Steps.{AllReply}
use Rattle.table_commands.proofs.importing.rows_onto.Given as goal

abbrev pub invariant-loop-edit : goal.invariant-loop-edit
invariant-loop-edit g l = record {
  replies : (o : Opening) (h : List Event) → Stands l.fn.desk o h → AllReply o h (edits_of (take l.edit-index l.edits)) l.desk (g.K.Keeper.faults l.fn.keeper) (g.K.Keeper.faults l.keeper) l.text.items l.any;
  mirrors : Mirrors (g.K.Keeper.told l.keeper) (tables l.desk);
  telling : IsSome (g.K.Keeper.told l.keeper) → IsSome (g.K.Keeper.told l.fn.keeper);
  later : g.K.Keeper.faults l.fn.keeper ≤ g.K.Keeper.faults l.keeper;
}
