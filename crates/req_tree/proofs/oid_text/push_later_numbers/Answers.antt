use Rattle.std.proofs.Common.{sym}
use Rattle.req_tree.proofs.OidTexts.{pushing_more}
use Rattle.req_tree.proofs.oid_text.push_later_numbers.Goals as goal

pub loop-rest-preserved : goal.loop-rest-preserved
loop-rest-preserved c =
    pushing_more _ _ _ _ c.in-Some.text.now _ _ _ (rw c.in-Some.is at c.loop-rest.invariant) c.cut_word.ensures.words (sym c.in_ok-arc_number.ensures) c.in_ok-push_number.ensures
