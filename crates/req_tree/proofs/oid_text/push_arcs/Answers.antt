use Rattle.std.proofs.Common.{sym}
use Rattle.req_tree.proofs.OidTexts.{arc_written, arcs_written}
use Rattle.req_tree.proofs.oid_text.push_arcs.Goals as goal

pub loop-number-preserved : goal.loop-number-preserved
loop-number-preserved c = λ ns w.
    arc_written _ _ _ _ ns _ _ _ (sym c.in-Some.ensures.number) c.in_ok-push.ensures.items c.in_ok-push_decimal.ensures (c.loop-number.invariant ns w)

pub returns : goal.returns
returns c = λ ns w. arcs_written _ _ ns _ (sym c.in_default.ensures.number) (c.loop-number.invariant ns w)
