use Rattle.std.proofs.Common.{◌≡◌, Bool, true, false, below_more}
use Rattle.std.specs.Bool.{MatchBool}
use Rattle.code_directory.specs.Agreement.{PageAgrees}
use Rattle.code_directory.proofs.pages.check_pages.Goals as goal

when_true : (b : Bool) (P Q : Type 0) → MatchBool b P Q → b ≡ true → P
when_true true P Q h is = h
when_true false P Q h is = cc

pub loop-slot-preserved : goal.loop-slot-preserved
loop-slot-preserved c =
    below_more (PageAgrees c.args.directory.now.bytes c.args.code.now) c.loop-slot.slot c.loop-slot.invariant
    (when_true c.has_page.result (PageAgrees c.args.directory.now.bytes c.args.code.now c.loop-slot.slot) _ c.has_page.ensures c.if-not-has_page.false)
