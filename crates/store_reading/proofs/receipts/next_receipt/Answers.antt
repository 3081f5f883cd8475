use Rattle.std.proofs.Common.{◌≡◌, ◌+◌, length, arith}
use Rattle.policy_model.specs.Edits.{kept}
use Rattle.policy_model.specs.declared.limits.TheConstants.{MOST_RECEIPTS}
use Rattle.rule_edits.specs.EditKey.{key_bytes}
use Rattle.raw_tables.specs.Raw.{plain_receipt}
use Rattle.edit_receipts.specs.Receipts.{receipt_of, receipts_of}
use Rattle.store_model.specs.Stored.{raw_receipt}
use Rattle.store_reading.specs.Readings.{IsReceiptAt}
use Rattle.store_reading.proofs.ReceiptSteps.{was_kept, was_not_kept, not_full, is_next, is_repeat}
use Rattle.store_reading.proofs.receipts.next_receipt.Goals as goal

pub returns-then-is_some : goal.returns-then-is_some
returns-then-is_some c =
    let number : c.count-number.result + 1 ≡ length c.args.receipts.now + 1 = omega (arith, c.count-number.ensures.count) in
    let read : IsReceiptAt (c.count-number.result + 1) (plain_receipt c.args.row.now) × (raw_receipt (receipt_of c.in-Some.receipt) ≡ plain_receipt c.args.row.now) = rw c.in-Some.is at c.in_ok-receipt.ensures in
    is_repeat c.args.receipts.now (plain_receipt c.args.row.now) (c.count-number.result + 1) number c.in-Some.receipt read.1
    (was_kept c.find.result c.is_some.result (kept (receipts_of c.args.receipts.now) (key_bytes c.in-Some.receipt.key)) c.find.ensures c.is_some.ensures c.if-is_some.true)

pub returns : goal.returns
returns c =
    let number : c.count-number.result + 1 ≡ length c.args.receipts.now + 1 = omega (arith, c.count-number.ensures.count) in
    let read : IsReceiptAt (c.count-number.result + 1) (plain_receipt c.args.row.now) × (raw_receipt (receipt_of c.in-Some.receipt) ≡ plain_receipt c.args.row.now) = rw c.in-Some.is at c.in_ok-receipt.ensures in
    is_next c.args.receipts.now (plain_receipt c.args.row.now) (c.count-number.result + 1) number c.in-Some.receipt read.1 c.requires
    (not_full c.is_full.result (length c.args.receipts.now) MOST_RECEIPTS c.if-is_full.false c.is_full.ensures.full c.is_full.ensures.room) read.0
    (was_not_kept c.find.result c.is_some.result (kept (receipts_of c.args.receipts.now) (key_bytes c.in-Some.receipt.key)) c.find.ensures c.is_some.ensures c.if-is_some.false)
