use Rattle.std.proofs.Common.{ap}
use Rattle.std.proofs.Math.Logic.{∥∥₁_map}
use Rattle.rule_values.specs.declared.row_change.RowChange.TheVariants.{Remove, Enable, Disable, Expire}
use Rattle.rule_edits.specs.Edit.{content_of}
use Rattle.raw_tables.specs.Raw.{plain_receipt}
use Rattle.policy_keeper.specs.Change.{change_of}
use Rattle.memory_keeper.specs.Kept.{kept_rows}
use Rattle.memory_keeper.proofs.Counted.{counted, rising}
use Rattle.memory_keeper.proofs.Kept.{changed}
use Rattle.memory_keeper.proofs.kept_rows.KeptRows.make.Goals as goal

pub change-requires : goal.change-requires
change-requires c = record {
  counted = ∥∥₁_map c.requires (counted (kept_rows c.args.self.now));
  rising = ∥∥₁_map c.requires (rising (kept_rows c.args.self.now));
}

pub change-requires-in-Enable : goal.change-requires-in-Enable
change-requires-in-Enable c = record {
  counted = ∥∥₁_map c.requires (counted (kept_rows c.args.self.now));
  rising = ∥∥₁_map c.requires (rising (kept_rows c.args.self.now));
}

pub change-requires-in-Disable : goal.change-requires-in-Disable
change-requires-in-Disable c = record {
  counted = ∥∥₁_map c.requires (counted (kept_rows c.args.self.now));
  rising = ∥∥₁_map c.requires (rising (kept_rows c.args.self.now));
}

pub change-requires-in-Expire : goal.change-requires-in-Expire
change-requires-in-Expire c = record {
  counted = ∥∥₁_map c.requires (counted (kept_rows c.args.self.now));
  rising = ∥∥₁_map c.requires (rising (kept_rows c.args.self.now));
}

pub returns-in-Remove-clause-ok : goal.returns-in-Remove-clause-ok
returns-in-Remove-clause-ok c =
    changed c.change.result c.in-Remove.selector Remove (change_of c.args.change.now) (kept_rows c.args.self.now) (kept_rows c.change.new.self)
    (plain_receipt c.in_ok-receipt.receipt) (ap content_of c.in-Remove.is) c.in_ok-receipt.ensures (c.change.ensures.ok c.args.change.now.number)

pub returns-in-Enable-clause-ok : goal.returns-in-Enable-clause-ok
returns-in-Enable-clause-ok c =
    changed c.change-in-Enable.result c.in-Enable.selector Enable (change_of c.args.change.now) (kept_rows c.args.self.now) (kept_rows c.change-in-Enable.new.self)
    (plain_receipt c.in_ok-receipt.receipt) (ap content_of c.in-Enable.is) c.in_ok-receipt.ensures (c.change-in-Enable.ensures.ok c.args.change.now.number)

pub returns-in-Disable-clause-ok : goal.returns-in-Disable-clause-ok
returns-in-Disable-clause-ok c =
    changed c.change-in-Disable.result c.in-Disable.selector Disable (change_of c.args.change.now) (kept_rows c.args.self.now) (kept_rows c.change-in-Disable.new.self)
    (plain_receipt c.in_ok-receipt.receipt) (ap content_of c.in-Disable.is) c.in_ok-receipt.ensures (c.change-in-Disable.ensures.ok c.args.change.now.number)

pub returns-in-Expire-clause-ok : goal.returns-in-Expire-clause-ok
returns-in-Expire-clause-ok c =
    changed c.change-in-Expire.result c.in-Expire.selector (Expire c.in-Expire.end) (change_of c.args.change.now) (kept_rows c.args.self.now) (kept_rows c.change-in-Expire.new.self)
    (plain_receipt c.in_ok-receipt.receipt) (ap content_of c.in-Expire.is) c.in_ok-receipt.ensures (c.change-in-Expire.ensures.ok c.args.change.now.number)
