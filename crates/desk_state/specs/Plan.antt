-- What an edit under a new key will change, with all memory taken.
use Rattle.std.specs.Prelude.{◌≡◌, ℕ, ◌+◌, List, [], ◌∷◌, ◌++◌, length, Option, None, Some, Result, Ok, Err}
use Rattle.policy_model.specs.Rules.{Row}
use Rattle.policy_model.specs.Contents.{Content, Edit}
use Rattle.policy_model.specs.Texts.{content_text}
use Rattle.policy_model.specs.Tables.{Receipt, Tables}
use Rattle.policy_model.specs.Changes.{rows_after, touched_by, switch_after}
use Rattle.policy_model.specs.Refusals.{refusal}
use Rattle.authority_table.specs.declared.prepared.Prepared.{Prepared}
use Rattle.authority_table.specs.Prepared.{IsPlan, IsPlanFor, planned, plan_count}
use Rattle.desk_state.specs.declared.plan.Plan.{Plan}
use Rattle.edit_receipts.specs.declared.receipts.Receipt as code
use Rattle.desk_state.specs.declared.fault.EditFault.{EditFault}
use Rattle.edit_receipts.specs.Receipts.{receipt_of}
use Rattle.desk_state.specs.Answer.{refusal_of}

-- how many rows are touched: none where no change of rows was planned
abbrev pub count_in : Option Prepared → ℕ
count_in None = 0
count_in (Some rows) = plan_count rows

-- the change of rows may be made to these
abbrev pub IsFor : Option Prepared → List Row → Type 0
IsFor None rows = Unit {0}
IsFor (Some change) rows = IsPlanFor change rows

-- the rows after it
abbrev pub rows_by : Option Prepared → List Row → List Row
rows_by None rows = rows
rows_by (Some change) rows = planned change rows

-- the change of rows leaves those after, and touches those touched
abbrev pub Leaves : Option Prepared → List Row → List Row → List Row → Type 0
Leaves None rows after touched = (rows ≡ after) × (touched ≡ [])
Leaves (Some change) rows after touched = IsPlan change rows after touched

-- the plan is for what this content does to the tables as the next edit
pub record IsPlanned (plan : Plan) (content : Content) (t : Tables) : Type 0 where
  pub rows_are : Leaves plan.rows t.rows (rows_after (length t.receipts + 1) content t.rows) (touched_by (length t.receipts + 1) content t.rows)
  pub switch_is : plan.enabled ≡ switch_after content t.enabled

-- a plan where the content isn't refused; else the definition's refusal, or none where it is out of memory
abbrev pub Plans : Result Plan EditFault → Content → Tables → Type 0
Plans (Ok plan) content t = (refusal content t ≡ None) × IsPlanned plan content t
Plans (Err fault) content t = refusal_of fault ≡ refusal content t

-- the receipt of the next edit, which touches so many rules
abbrev pub next_receipt : Edit → ℕ → Tables → Receipt
next_receipt e rules t = record { number = length t.receipts + 1; key = e.key; content = content_text e.content; rules = rules }

-- the tables with a planned change and one more receipt
abbrev pub with_plan : Plan → code.Receipt → Tables → Tables
with_plan plan receipt t = record { rows = rows_by plan.rows t.rows; receipts = t.receipts ++ receipt_of receipt ∷ []; enabled = plan.enabled }

-- the tables after a plan was to be carried out: with it and its receipt, or as before
abbrev pub carried_out : {A E : Type 0} → Result A E → Plan → code.Receipt → Tables → Tables
carried_out (Ok done) plan receipt t = with_plan plan receipt t
carried_out (Err fault) plan receipt t = t
