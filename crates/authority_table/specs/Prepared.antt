-- What a plan of an edit does to the rows of the table that it was made for.
use Rattle.std.specs.Prelude.{◌≡◌, ℕ, List, [], ◌∷◌, ◌++◌, length, Option, Some, None, option_map, Result, Ok, Err}
use Rattle.policy_model.specs.Rules.{Row, Rank, Kind, same_kind, rank_of, first}
use Rattle.policy_model.specs.Tables.{Answer, no_rule, table_full, disable_full}
use Rattle.policy_model.specs.Changes.{rows_after}
use Rattle.policy_model.specs.Refusals.{full_rows, least_id}
use Rattle.authority_table.specs.declared.fault.PlanFault.{PlanFault}
use Rattle.authority_table.specs.declared.fault.PlanFault.TheVariants.{TableFull, NoRule, DisableFull, OutOfMemory}
use Rattle.authority_table.specs.declared.prepared.Step.{Step}
use Rattle.authority_table.specs.declared.prepared.Step.TheVariants.{Insert, Change}
use Rattle.authority_table.specs.declared.prepared.Prepared.{Prepared}
use Rattle.rule_values.specs.Rule.{row_of}
use Rattle.held_rules.specs.Spare.{HasRoom}
use Rattle.rule_values.specs.Selector.{content_by}
use Rattle.authority_table.specs.Touched.{touched_in}

-- the refusal, or none where it is out of memory
abbrev pub refusal_of : PlanFault → Option Answer
refusal_of TableFull = Some table_full
refusal_of NoRule = Some no_rule
refusal_of (DisableFull rule) = Some (disable_full rule)
refusal_of OutOfMemory = None

-- why no plan was made, if that was refused
abbrev pub refusal_in : Result Prepared PlanFault → Option Answer
refusal_in (Ok plan) = None
refusal_in (Err fault) = refusal_of fault

-- why no plan is to be made, if there is a reason
abbrev pub refused_in : Option PlanFault → Option Answer
refused_in None = None
refused_in (Some fault) = refusal_of fault

-- what a step needs of the rows: room for an added rule; no row to be disabled whose count is full
abbrev pub Takes : Step → List Row → Type 0
Takes (Insert rule room) rows = HasRoom (length rows) room
Takes (Change selector change) rows = least_id (full_rows (content_by selector change) rows) ≡ None

-- the rows after a step
abbrev pub stepped : Step → List Row → List Row
stepped (Insert rule room) rows = rows ++ row_of rule ∷ []
stepped (Change selector change) rows = rows_after 0 (content_by selector change) rows

-- the plan may be committed to a table of these rows
abbrev pub IsPlanFor : Prepared → List Row → Type 0
IsPlanFor plan rows = Takes plan.step rows

-- the rows after the plan was committed to these
abbrev pub planned : Prepared → List Row → List Row
planned plan rows = stepped plan.step rows

-- how many rows the plan touches
abbrev pub plan_count : Prepared → ℕ
plan_count plan = plan.count

-- of the rows of a kind that the plan touches, the rank of the one that is tried first
abbrev pub plan_touched : Prepared → Kind → Option Rank
plan_touched plan kind = touched_in plan.touched kind

-- committed to these rows, the plan leaves those after, and touches those touched
pub record IsPlan (plan : Prepared) (rows after touched : List Row) : Type 0 where
  pub fits : IsPlanFor plan rows
  pub leaves : planned plan rows ≡ after
  pub count : plan_count plan ≡ length touched
  pub first_in : (kind : Kind) → plan_touched plan kind ≡ option_map rank_of (first (λ r. same_kind r.kind kind) touched)
