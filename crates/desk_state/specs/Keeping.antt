-- An edit on a desk whose tables a keeper keeps.
use Rattle.std.specs.Prelude.{◌≡◌, Option, IsNone}
use Rattle.policy_model.specs.Contents.{Edit}
use Rattle.policy_model.specs.Tables.{Answer, IsAccepted}
use Rattle.policy_model.specs.Edits.{does}
use Rattle.object_model.specs.Plain.{Plain}
use Rattle.policy_keeper.specs.declared.fault.KeepFault.{KeepFault}
use Rattle.policy_keeper.specs.declared.fault.KeepFault.TheVariants as keep
use Rattle.desk_state.specs.declared.fault.EditFault.{EditFault}
use Rattle.desk_state.specs.declared.fault.EditFault.TheVariants.{KeeperFault, OutOfMemory}
use Rattle.desk_state.specs.Answer.{IsDone}
use Rattle.edit_receipts.specs.declared.receipts.Receipt as code
use Rattle.desk_state.specs.declared.plan.Plan.{Plan}
use Rattle.desk_state.specs.Plan.{with_plan}
use Rattle.desk_state.specs.Cache.{cache_at, purged_as, IsPurged}

-- what an edit's fault is where the keeper didn't make the change
abbrev pub fault_after : KeepFault → EditFault
fault_after keep.Failed = KeeperFault
fault_after keep.OutOfMemory = OutOfMemory

-- what a desk that held this holds with a planned change and its receipt
abbrev pub desk_with_plan : Plan → code.Receipt → Plain → Plain
desk_with_plan plan receipt d = record d {
  tables = with_plan plan receipt d.tables;
  entries = (purged_as plan.rows (cache_at d)).entries;
  counts = (purged_as plan.rows (cache_at d)).counts;
  rings = (purged_as plan.rows (cache_at d)).rings;
}

-- what an edit makes of a desk that holds this: the answer, the tables and what is kept of assessments are the
-- definition's; where none is given all is as before, and the edit would have been accepted
pub record IsEdited (e : Edit) (old new : Plain) (answer : Option Answer) : Type 0 where
  pub done : IsDone (does old.tables e) old.tables new.tables answer
  pub cache : IsPurged (does old.tables e) (cache_at old) (cache_at new) answer
  pub moment : new.now ≡ old.now
  pub facts : new.facts ≡ old.facts
  pub wanting : IsNone answer → IsAccepted (does old.tables e).answer
