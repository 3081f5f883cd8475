-- A plan that is carried out makes the tables of the definition.
use Rattle.std.proofs.Common.{◌≡◌, ◌+◌, List, [], ◌∷◌, ◌++◌, length, sym, ap, ◌∙◌, subst, Option, Some, None}
use Rattle.std.specs.Prelude.{Bool}
use Rattle.req_tree.specs.Facts.{Facts}
use Rattle.policy_model.specs.Rules.{Row}
use Rattle.policy_model.specs.Contents.{Edit}
use Rattle.policy_model.specs.Tables.{Tables, Receipt}
use Rattle.policy_model.specs.Changes.{rows_after, touched_by}
use Rattle.policy_model.specs.Refusals.{refusal}
use Rattle.policy_model.specs.Edits.{at_new, does, does_at, kept}
use Rattle.policy_model.specs.History.{edit, Opening, HasOwnIds}
use Rattle.policy_model.specs.Laws.{IdsStayOwn}
use Rattle.authority_table.specs.declared.prepared.Prepared.{Prepared}
use Rattle.desk_state.specs.declared.plan.Plan.{Plan}
use Rattle.edit_receipts.specs.declared.receipts.Receipt as code
use Rattle.edit_receipts.specs.Receipts.{receipt_of}
use Rattle.desk_state.specs.Plan.{Leaves, count_in, rows_by, IsPlanned, with_plan, next_receipt}

-- what a planned change of rows leaves

pub leaves_rows : (p : Option Prepared) (rows after touched : List Row) → Leaves p rows after touched → rows_by p rows ≡ after
leaves_rows None rows after touched h = h.0
leaves_rows (Some change) rows after touched h = h.leaves

pub leaves_count : (p : Option Prepared) (rows after touched : List Row) → Leaves p rows after touched → count_in p ≡ length touched
leaves_count None rows after touched h = sym (ap length h.1)
leaves_count (Some change) rows after touched h = h.count

-- the tables of an accepted edit, part by part
abbrev made_of : (rows : List Row) (receipts : List Receipt) (r : Receipt) (enabled : Bool) → Tables
made_of rows receipts r enabled = record { rows = rows; receipts = receipts ++ r ∷ []; enabled = enabled }

pub plan_makes : (p : Plan) (r : code.Receipt) (e : Edit) (t : Tables) → IsPlanned p e.content t → receipt_of r ≡ next_receipt e (count_in p.rows) t → with_plan p r t ≡ (at_new None e t).tables
plan_makes p r e t h is =
    let n = length t.receipts + 1 in
    let receipt = is ∙ ap (λ k. next_receipt e k t) (leaves_count p.rows t.rows _ _ h.rows_are) in
    ap (λ rows. made_of rows t.receipts (receipt_of r) p.enabled) (leaves_rows p.rows t.rows _ _ h.rows_are)
    ∙ ap (λ x. made_of (rows_after n e.content t.rows) t.receipts x p.enabled) receipt
    ∙ ap (made_of (rows_after n e.content t.rows) t.receipts (next_receipt e (length (touched_by n e.content t.rows)) t)) h.switch_is

-- ids stay own
pub stays_own : IdsStayOwn → (facts : Facts) (t new : Tables) (e : Edit) → HasOwnIds t → kept t.receipts e.key ≡ None → refusal e.content t ≡ None → new ≡ (at_new None e t).tables → HasOwnIds new
stays_own stay facts t new e own unkept accepted is =
    let o : Opening = record { tables = t; facts = facts; now = 0; entries = []; counts = record { execute = 0; install = 0; document = 0 } } in
    let after : (does t e).tables ≡ (at_new None e t).tables = ap (λ k. (does_at k e t).tables) unkept ∙ ap (λ r. (at_new r e t).tables) accepted in
    subst HasOwnIds (after ∙ sym is) (stay o (edit e ∷ []) own)
