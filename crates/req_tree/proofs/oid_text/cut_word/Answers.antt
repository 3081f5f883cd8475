use Rattle.std.proofs.Common.{arith}
use Rattle.std.proofs.lemmas.List.Elements.{All-more}
use Rattle.req_tree.proofs.OidNumbers.{not_eq}
use Rattle.req_tree.proofs.OidTexts.{NoDot, words_at_dot, one_word_when}
use Rattle.req_tree.proofs.oid_text.cut_word.Goals as goal

pub returns-then-byte-eq46-clause-words : goal.returns-then-byte-eq46-clause-words
returns-then-byte-eq46-clause-words c =
    words_at_dot _ _ _ c.loop-at.at (omega arith) c.if-byte-eq46.true c.loop-at.invariant c.split_at.ensures.front c.split_at-then-byte-eq46.ensures.back

pub loop-at-preserved : goal.loop-at-preserved
loop-at-preserved c = All-more NoDot c.args.text.now c.loop-at.at 0 (omega arith) c.loop-at.invariant (not_eq _ 46 c.if-byte-eq46.false)

pub returns-clause-words : goal.returns-clause-words
returns-clause-words c = one_word_when _ c.loop-at.at (omega arith) c.loop-at.invariant
