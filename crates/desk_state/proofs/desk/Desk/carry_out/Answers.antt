use Rattle.std.proofs.Common.{◌≡◌, ◌+◌, [], ◌∷◌, length, refl, sym, ap, ◌∙◌, subst, Result, Ok, Err}
use Rattle.std.proofs.lemmas.List.{length-append}
use Rattle.policy_keeper.specs.declared.fault.KeepFault.{KeepFault}
use Rattle.policy_keeper.specs.declared.fault.KeepFault.TheVariants.{Failed}
use Rattle.std.proofs.Math.Logic.{∥∥₁_map}
use Rattle.std.proofs.lemmas.Result.{err_from_is_err_and}
use Rattle.policy_keeper.specs.Change.{change_of}
use Rattle.desk_state.specs.Stands.{tables, moment_of, plain}
use Rattle.object_cache.specs.Objects.{counts}
use Rattle.desk_state.specs.Cache.{AreAtMost}
use Rattle.desk_state.proofs.Purged.{objects_at_most}
use Rattle.desk_state.proofs.Edited.{kept_with}
use Rattle.desk_state.proofs.Keeps.{applies_telling, follows}
use Rattle.desk_state.proofs.StaysFresh.{carried_fresh}
use Rattle.desk_state.proofs.desk.Desk.carry_out.Goals as goal

pub keep_receipt-requires-clause-can : goal.keep_receipt-requires-clause-can
keep_receipt-requires-clause-can g c =
    c.mirrored_tables_can_change.ensures (g.K.Keeper.told c.args.keeper.now) (tables c.args.self.now) (change_of c.args.ready.change) c.requires.mirrors (∥∥₁_map c.args.self.now.kept (λ k. k.accepted)) c.requires.takes

pub invariant_of-self-2-clause-kept : goal.invariant_of-self-2-clause-kept
invariant_of-self-2-clause-kept g c =
    kept_with c.args.ready.plan c.args.ready.receipt (tables c.args.self.now) c.args.self.now.receipts c.keep_receipt.new.receipts _ refl c.commit.ensures c.in_ok-keep_receipt.ensures.ok c.requires.kept

pub invariant_of-self-2-clause-fresh : goal.invariant_of-self-2-clause-fresh
invariant_of-self-2-clause-fresh g c = carried_fresh c.args.ready.plan c.args.ready.receipt (plain c.args.self.now) _ _ c.commit.ensures (c.purge.ensures.cache (moment_of c.args.self.now)) c.requires.fresh

pub invariant_of-self-2-clause-marks : goal.invariant_of-self-2-clause-marks
invariant_of-self-2-clause-marks g c =
    let more : length c.args.self.now.receipts + 1 ≡ length c.keep_receipt.new.receipts = sym (ap length c.in_ok-keep_receipt.ensures.ok ∙ length-append c.args.self.now.receipts (c.args.ready.receipt ∷ [])) in
    subst (λ n. AreAtMost n (counts c.purge.new.objects)) more (objects_at_most (length c.args.self.now.receipts) 0 c.args.ready.plan.rows c.args.self.now.objects c.purge.new.objects (c.purge.ensures.cache 0) c.args.self.now.marks)

pub returns-clause-follows : goal.returns-clause-follows
returns-clause-follows g c =
    let done : Result (Unit {0}) KeepFault = Ok tt in
    follows c.change_is_edit.ensures.meaning (g.K.Keeper.told c.args.keeper.now) (g.K.Keeper.told c.keep_receipt.new.keeper) (tables c.args.self.now) (change_of c.args.ready.change) done c.requires.mirrors c.requires.takes c.a_content_fits_a_line.ensures c.in_ok-keep_receipt.ensures.applies

pub returns-in_err-keep_receipt-clause-follows : goal.returns-in_err-keep_receipt-clause-follows
returns-in_err-keep_receipt-clause-follows g c =
    let failed : Result (Unit {0}) KeepFault = Err Failed in
    let p = err_from_is_err_and c.from_residual.result c.from_residual.ensures.1 in
    rw p.1
    (follows c.change_is_edit.ensures.meaning (g.K.Keeper.told c.args.keeper.now) (g.K.Keeper.told c.keep_receipt.new.keeper) (tables c.args.self.now) (change_of c.args.ready.change) failed c.requires.mirrors c.requires.takes c.a_content_fits_a_line.ensures c.in_err-keep_receipt.ensures.applies)

pub returns-in_err-keep_receipt-clause-telling : goal.returns-in_err-keep_receipt-clause-telling
returns-in_err-keep_receipt-clause-telling g c =
    applies_telling (g.K.Keeper.told c.args.keeper.now) (g.K.Keeper.told c.keep_receipt.new.keeper) (change_of c.args.ready.change) c.keep_receipt.result c.keep_receipt.ensures.applies
