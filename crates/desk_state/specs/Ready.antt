-- An edit under a new key, ready to be made.
use Rattle.std.specs.Prelude.{◌≡◌, ◌+◌, ◌<◌, length, None, Result, Ok, Err}
use Rattle.policy_model.specs.declared.limits.TheConstants.{MOST_RECEIPTS}
use Rattle.policy_model.specs.Contents.{Edit}
use Rattle.policy_model.specs.Tables.{Tables}
use Rattle.policy_model.specs.Refusals.{refusal}
use Rattle.policy_keeper.specs.Change.{change_of}
use Rattle.edit_receipts.specs.Receipts.{receipt_of}
use Rattle.desk_state.specs.declared.ready.Ready.{Ready}
use Rattle.desk_state.specs.declared.fault.EditFault.{EditFault}
use Rattle.desk_state.specs.Answer.{refusal_of}
use Rattle.desk_state.specs.Plan.{IsPlanned, count_in, next_receipt}

-- the edit isn't refused, and its plan, its receipt and its change are those of the next edit of these tables
pub record IsReadyFor (ready : Ready) (e : Edit) (t : Tables) : Type 0 where
  pub few : length t.receipts < MOST_RECEIPTS
  pub accepted : refusal e.content t ≡ None
  pub planned : IsPlanned ready.plan e.content t
  pub receipt_is : receipt_of ready.receipt ≡ next_receipt e (count_in ready.plan.rows) t
  pub change_is : change_of ready.change ≡ record { number = length t.receipts + 1; edit = e; touched = count_in ready.plan.rows }

-- ready where the edit isn't refused; else the definition's refusal, or none where it is out of memory
abbrev pub MakesReady : Result Ready EditFault → Edit → Tables → Type 0
MakesReady (Ok ready) e t = IsReadyFor ready e t
MakesReady (Err fault) e t = refusal_of fault ≡ refusal e.content t
