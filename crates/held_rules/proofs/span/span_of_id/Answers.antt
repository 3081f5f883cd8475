use Rattle.std.proofs.Common.{◌+◌, arith}
use Rattle.held_rules.proofs.Spanned.{id_span}
use Rattle.held_rules.proofs.span.span_of_id.Goals as goal

pub returns-then-from-rules : goal.returns-then-from-rules
returns-then-from-rules c = λ s e.
    id_span s c.args.id c.args.rules.now c.place_of-from.result (c.place_of-from.result + 1) e c.requires c.place_of-from.ensures.place (omega arith) (omega (arith, c.if-from-rules.true))
    (λ k le lt. omega (arith, le))

pub returns-else-from-rules : goal.returns-else-from-rules
returns-else-from-rules c = λ s e.
    id_span s c.args.id c.args.rules.now c.place_of-from.result c.place_of-from.result e c.requires c.place_of-from.ensures.place (omega arith) c.place_of-from.ensures.within
    (λ k le lt. omega (arith, le, lt, c.if-from-rules.false))
