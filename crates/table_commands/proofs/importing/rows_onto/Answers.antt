use Rattle.std.proofs.Common.{List, sym, subst, ◌||◌, take, arith}
use Rattle.policy_model.specs.Contents.{Edit}
use Rattle.rule_edits.specs.declared.edit.Edit as code
use Rattle.rule_edits.specs.Edit.{edit_of}
use Rattle.import_csv.specs.RowCode.{edits_of}
use Rattle.std.proofs.lemmas.List.{take_all}
use Rattle.std.proofs.Common.{ℕ}
use Rattle.table_commands.specs.Steps.{AllReply}
use Rattle.table_commands.proofs.InTurn.{all_more, edits_more}
use Rattle.table_commands.proofs.Saying.{none_done, all_done, first_done}
use Rattle.table_commands.proofs.importing.rows_onto.Goals as goal

pub returns-in-Err-clause-says : goal.returns-in-Err-clause-says
returns-in-Err-clause-says g c = λ o h stands.
    first_done o h c.args.edits.now c.loop-edit.edit-index c.loop-edit.desk c.reply_onto.new.desk (g.K.Keeper.faults c.args.keeper.now) (g.K.Keeper.faults c.loop-edit.keeper) (g.K.Keeper.faults c.reply_onto.new.keeper) c.reply_onto.new.out.items c.loop-edit.any c.loop-edit-test.true c.in-Err.ensures.later
    (subst (λ (text : List ℕ). AllReply o h (edits_of (take c.loop-edit.edit-index c.args.edits.now)) c.loop-edit.desk (g.K.Keeper.faults c.args.keeper.now) (g.K.Keeper.faults c.loop-edit.keeper) text c.loop-edit.any) (sym c.in-Err.ensures.kept) (c.loop-edit.invariant.replies o h stands))
    (λ mid here. c.in-Err.ensures.unchanged o mid here)

pub loop-edit-init : goal.loop-edit-init
loop-edit-init g c = record {
  replies = λ o h stands. none_done o h c.args.desk.now (g.K.Keeper.faults c.args.keeper.now) c.args.text.now.items stands c.requires.empty;
  mirrors = c.requires.mirrors;
  telling = λ told. told;
  later = omega arith;
}

pub loop-edit-preserved : goal.loop-edit-preserved
loop-edit-preserved g c =
    let so_far = c.loop-edit.invariant in
    record {
      replies = λ o h stands.
          subst (λ (es : List Edit). AllReply o h es c.reply_onto.new.desk (g.K.Keeper.faults c.args.keeper.now) (g.K.Keeper.faults c.reply_onto.new.keeper) c.reply_onto.new.out.items (c.loop-edit.any || c.in-Ok.refused))
          (sym (edits_more c.args.edits.now c.loop-edit.edit-index _ _ c.loop-edit-test.true c.edit-item.is))
          (all_more o h (edits_of (take c.loop-edit.edit-index c.args.edits.now)) (edit_of c.edit-item.result) c.loop-edit.desk c.reply_onto.new.desk (g.K.Keeper.faults c.args.keeper.now) (g.K.Keeper.faults c.loop-edit.keeper) (g.K.Keeper.faults c.reply_onto.new.keeper) c.loop-edit.text.items c.reply_onto.new.out.items
          c.loop-edit.any c.in-Ok.refused c.in-Ok.ensures.later (so_far.replies o h stands) (λ mid here. c.in-Ok.ensures.replies o mid here));
      mirrors = c.in-Ok.ensures.mirrors;
      telling = λ told. so_far.telling (c.in-Ok.ensures.telling told);
      later = omega (arith, so_far.later, c.in-Ok.ensures.later);
    }

pub returns-clause-says : goal.returns-clause-says
returns-clause-says g c = λ o h stands.
    all_done o h (edits_of c.args.edits.now) c.loop-edit.desk (g.K.Keeper.faults c.args.keeper.now) (g.K.Keeper.faults c.loop-edit.keeper) c.refused_when.result c.loop-edit.text.items c.loop-edit.any
    (subst (λ (es : List code.Edit). AllReply o h (edits_of es) c.loop-edit.desk (g.K.Keeper.faults c.args.keeper.now) (g.K.Keeper.faults c.loop-edit.keeper) c.loop-edit.text.items c.loop-edit.any) (take_all c.loop-edit.edit-index c.args.edits.now c.loop-edit-test.false)
    (c.loop-edit.invariant.replies o h stands))
    c.refused_when.ensures
