use Rattle.std.proofs.Common.{ap, ◌∙◌}
use Rattle.std.specs.Ordering.{nat_cmp}
use Rattle.req_tree.specs.NumericOrder.{number_of}
use Rattle.fact_values.proofs.NumericLemmas.{runs_tied, runs_apart}
use Rattle.fact_values.proofs.numeric.run_order.Goals as goal

pub returns-in-Equal : goal.returns-in-Equal
returns-in-Equal c =
    let a = c.without_zeros-a.ensures in
    let b = c.without_zeros-b.ensures in
    runs_tied c.without_zeros-a.result.now c.without_zeros-b.result.now c.cmp.result c.cmp-in-Equal.result a.digits b.digits c.cmp.ensures c.in-Equal.is c.cmp-in-Equal.ensures
    ∙ ap (λ n. nat_cmp n (number_of c.without_zeros-b.result.now)) a.number ∙ ap (λ n. nat_cmp (number_of c.args.a.now) n) b.number

pub returns-in_default : goal.returns-in_default
returns-in_default c =
    let a = c.without_zeros-a.ensures in
    let b = c.without_zeros-b.ensures in
    runs_apart c.without_zeros-a.result.now c.without_zeros-b.result.now c.cmp.result a.digits b.digits a.front b.front c.cmp.ensures c.in_default.not-Equal
    ∙ ap (λ n. nat_cmp n (number_of c.without_zeros-b.result.now)) a.number ∙ ap (λ n. nat_cmp (number_of c.args.a.now) n) b.number
