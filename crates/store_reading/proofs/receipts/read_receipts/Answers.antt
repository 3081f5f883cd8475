use Rattle.std.proofs.Common.{◌++◌, [], ◌∷◌, sym, subst}
use Rattle.raw_tables.specs.Raw.{plain_receipt, plain_receipts}
use Rattle.std.specs.Prelude.{take, ◌+◌}
use Rattle.store_model.specs.Accepted.{AcceptsReceipts}
use Rattle.store_reading.specs.Fault.{IsBadReceipt}
use Rattle.store_reading.specs.Readings.{HoldsReceipts, raw_receipts, IsNextReceipt}
use Rattle.store_reading.proofs.ReceiptSteps.{one_further, is_bad}
use Rattle.store_reading.proofs.receipts.read_receipts.Goals as goal

pub returns-in-None-clause-refused : goal.returns-in-None-clause-refused
returns-in-None-clause-refused c =
    let bad : AcceptsReceipts (raw_receipts c.loop-row.receipts ++ plain_receipt c.row-item.result ∷ []) → ⊥ = rw c.in-None.is at c.in_ok-next_receipt.ensures in
    subst (IsBadReceipt (plain_receipts c.args.rows.now)) (sym c.refused.ensures)
    (is_bad c.args.rows.now c.loop-row.row-index c.row-item.result c.loop-row-test.true (sym c.row-item.is) c.loop-row.receipts c.loop-row.invariant bad)

pub loop-row-preserved : goal.loop-row-preserved
loop-row-preserved c =
    let next : AcceptsReceipts (raw_receipts c.loop-row.receipts ++ plain_receipt c.row-item.result ∷ []) × IsNextReceipt c.loop-row.receipts (plain_receipt c.row-item.result) c.in-Some.receipt = rw c.in-Some.is at c.in_ok-next_receipt.ensures in
    subst (HoldsReceipts (plain_receipts (take (c.loop-row.row-index + 1) c.args.rows.now))) (sym c.in_ok-push-in-Some.ensures.ok)
    (one_further c.args.rows.now c.loop-row.row-index c.row-item.result c.loop-row-test.true (sym c.row-item.is) c.loop-row.receipts c.loop-row.invariant c.in-Some.receipt next.0 next.1)
