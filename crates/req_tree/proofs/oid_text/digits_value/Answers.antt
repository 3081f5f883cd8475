use Rattle.std.proofs.Common.{arith, sym, ◌∙◌}
use Rattle.req_tree.proofs.OidTexts.{digits_more, no_digit, capped_more}
use Rattle.req_tree.proofs.oid_text.digits_value.Goals as goal

pub returns-then-not-is_ascii_digit : goal.returns-then-not-is_ascii_digit
returns-then-not-is_ascii_digit c = no_digit c.args.word.now c.loop-byte.byte-index (omega arith) (sym c.is_ascii_digit.ensures.value ∙ c.if-not-is_ascii_digit.true)

pub loop-byte-preserved : goal.loop-byte-preserved
loop-byte-preserved c =
    let digit = sym c.is_ascii_digit.ensures.value ∙ c.if-not-is_ascii_digit.false in
    record {
      digits = digits_more c.args.word.now c.loop-byte.byte-index (omega arith) c.loop-byte.invariant.digits digit;
      value = capped_more c.args.word.now c.loop-byte.byte-index c.loop-byte.value _ _ (omega arith) c.from.ensures c.loop-byte.invariant.value c.min-value.ensures;
    }
