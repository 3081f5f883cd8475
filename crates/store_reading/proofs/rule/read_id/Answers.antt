use Rattle.std.proofs.Common.{◌≡◌, pos, refl, sym, ap, ◌∙◌, subst}
use Rattle.std.proofs.lemmas.Bool.{both_ways}
use Rattle.policy_model.specs.declared.limits.TheConstants.{MOST_RECEIPTS}
use Rattle.store_model.specs.Contents.{IsContentText, IsAddText}
use Rattle.store_model.specs.Accepted.{IsWithin}
use Rattle.store_reading.proofs.Added.{its_content, it_is_added, it_adds}
use Rattle.store_reading.proofs.Passed.{passed}
use Rattle.store_reading.proofs.rule.read_id.Goals as goal

pub adds-requires : goal.adds-requires
adds-requires c =
    subst IsContentText (sym c.as_slice.ensures)
    (its_content c.args.receipts.now c.requires _ c.in_ok-receipt.receipt.now c.in_ok-receipt.ensures.lookup.3)

pub returns-then-adds : goal.returns-then-adds
returns-then-adds c =
    let count = passed (IsWithin 0 MOST_RECEIPTS) pos c.in_ok-count.count c.args.number c.ranges.number c.in_ok-count.ensures in (
      it_is_added c.args.receipts.now c.requires _ c.in_ok-receipt.receipt.now c.in_ok-receipt.ensures.lookup.3 c.args.number c.in_ok-count.count refl count.1 (c.in_ok-id.ensures.fits.0 refl).0
          (subst IsAddText c.as_slice.ensures (c.adds.ensures.0 c.if-adds.true)),
      ap pos c.in_ok-id.ensures.value ∙ count.1,
    )

pub returns-else-adds : goal.returns-else-adds
returns-else-adds c =
    let count = passed (IsWithin 0 MOST_RECEIPTS) pos c.in_ok-count.count c.args.number c.ranges.number c.in_ok-count.ensures in
    λ h. both_ways c.adds.result c.if-adds.false
    (c.adds.ensures.1
    (subst IsAddText (sym c.as_slice.ensures)
    (it_adds c.args.receipts.now c.requires _ c.in_ok-receipt.receipt.now c.in_ok-receipt.ensures.lookup.3 c.args.number c.in_ok-count.count refl count.1 h)))
