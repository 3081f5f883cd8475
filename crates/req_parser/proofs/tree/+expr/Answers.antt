use Rattle.std.proofs.Common.{◌≡◌, ◌-◌, ◌+◌, suc, length, sym, arith}
use Rattle.std.proofs.lemmas.List.{length-map}
use Rattle.std.proofs.lemmas.Result.{err_from_is_err_and}
use Rattle.req_tree.specs.Tree as t
use Rattle.req_tokens.specs.Terminals.{plain, plains}
use Rattle.req_primary.specs.Keys.{outcome_of}
use Rattle.req_parser.specs.Reading.{and_at, or_at, factor_at, term_at, expr_at, inside_at}
use Rattle.req_parser.proofs.Chains.{IsOnTheWay, term_begun, expr_begun, went_on, chain_ended, chain_fault, chain_full}
use Rattle.req_parser.proofs.Outcomes.{both_outcome, either_outcome, factor_outcome}
use Rattle.req_parser.proofs.tree.+expr.Goals as goal

pub and_factor-returns-in_ok-value-in-Ok : goal.and_factor-returns-in_ok-value-in-Ok
and_factor-returns-in_ok-value-in-Ok g c =
    λ x tells. both_outcome x (outcome_of c.args.left) (outcome_of c.in-Ok.right) (outcome_of c.in_ok-value-in-Ok.value) (factor_at c.args.size (inside_at c.args.size c.args.depth)) (plains c.args.here.now)
    (plains c.in-Ok.rest.now) tells c.in-Ok.ensures c.in_ok-value-in-Ok.ensures

pub or_term-returns-in_ok-value-in-Ok : goal.or_term-returns-in_ok-value-in-Ok
or_term-returns-in_ok-value-in-Ok g c =
    λ x tells. either_outcome x (outcome_of c.args.left) (outcome_of c.in-Ok.right) (outcome_of c.in_ok-value-in-Ok.value) (term_at c.args.size (inside_at c.args.size c.args.depth)) (plains c.args.here.now)
    (plains c.in-Ok.rest.now) tells c.in-Ok.ensures c.in_ok-value-in-Ok.ensures

pub factor_at-returns : goal.factor_at-returns
factor_at-returns g c =
    factor_outcome c.args.size (inside_at c.args.size c.args.depth) (plains c.args.here.now) (plains c.bangs-count.result.1.now) (plains c.in_ok-inner.rest.now) c.bangs-count.result.0
    (outcome_of c.in_ok-inner.inner) (outcome_of c.in_ok-value.value) c.bangs-count.ensures.count c.bangs-count.ensures.rest c.in_ok-inner.ensures c.in_ok-value.ensures

pub expr_at-loop-init : goal.expr_at-loop-init
expr_at-loop-init g c =
    let same : length c.args.here.now - 0 ≡ length (plains c.args.here.now) = omega (arith, length-map c.args.here.now plain) in
    expr_begun c.args.size (length c.args.here.now - 0) (inside_at c.args.size c.args.depth) (plains c.args.here.now) (plains c.in_ok-first.after.now) (outcome_of c.in_ok-first.first) same c.in_ok-first.ensures

pub expr_at-loop-preserved : goal.expr_at-loop-preserved
expr_at-loop-preserved g c =
    let f : IsOnTheWay (length c.args.here.now - c.loop.counter) or_at t.either (term_at c.args.size (inside_at c.args.size c.args.depth)) (expr_at c.args.size (inside_at c.args.size c.args.depth) (plains c.args.here.now)) (outcome_of c.loop.value) (plains c.loop.rest.now) = c.loop.invariant in
    let one_less : length c.args.here.now - c.loop.counter ≡ suc (length c.args.here.now - (c.loop.counter + 1)) = omega arith in
    went_on (length c.args.here.now - c.loop.counter) (length c.args.here.now - (c.loop.counter + 1)) or_at t.either (term_at c.args.size (inside_at c.args.size c.args.depth)) (expr_at c.args.size (inside_at c.args.size c.args.depth) (plains c.args.here.now)) (outcome_of c.loop.value) (outcome_of c.in_ok-next.next) (plains c.loop.rest.now) (plains c.in-Some.behind.now) (plains c.in_ok-next.left.now)
    f one_less (sym c.in-Some.ensures) (c.in_ok-next.ensures f.tree f.tells)

pub expr_at-returns-in_default : goal.expr_at-returns-in_default
expr_at-returns-in_default g c =
    chain_ended (length c.args.here.now - c.loop.counter) or_at t.either (term_at c.args.size (inside_at c.args.size c.args.depth)) (expr_at c.args.size (inside_at c.args.size c.args.depth) (plains c.args.here.now)) (outcome_of c.loop.value) (plains c.loop.rest.now) c.loop.invariant (sym c.in_default.ensures)

pub expr_at-returns-in_err-next : goal.expr_at-returns-in_err-next
expr_at-returns-in_err-next g c =
    let p = err_from_is_err_and c.from_residual-in_err-next.result c.from_residual-in_err-next.ensures.1 in
    let f : IsOnTheWay (length c.args.here.now - c.loop.counter) or_at t.either (term_at c.args.size (inside_at c.args.size c.args.depth)) (expr_at c.args.size (inside_at c.args.size c.args.depth) (plains c.args.here.now)) (outcome_of c.loop.value) (plains c.loop.rest.now) = c.loop.invariant in
    let one_less : length c.args.here.now - c.loop.counter ≡ suc (length c.args.here.now - (c.loop.counter + 1)) = omega arith in
    rw (p.1, p.2)
    (chain_fault (length c.args.here.now - c.loop.counter) (length c.args.here.now - (c.loop.counter + 1)) or_at t.either (term_at c.args.size (inside_at c.args.size c.args.depth)) (expr_at c.args.size (inside_at c.args.size c.args.depth) (plains c.args.here.now)) (outcome_of c.loop.value) (plains c.loop.rest.now) (plains c.in-Some.behind.now) _ f one_less (sym c.in-Some.ensures) (c.in_err-next.ensures f.tree f.tells))

pub expr_at-returns : goal.expr_at-returns
expr_at-returns g c =
    let none : length c.args.here.now - c.loop.counter ≡ 0 = omega arith in
    chain_full (length c.args.here.now - c.loop.counter) or_at t.either (term_at c.args.size (inside_at c.args.size c.args.depth)) (expr_at c.args.size (inside_at c.args.size c.args.depth) (plains c.args.here.now)) (outcome_of c.loop.value) (plains c.loop.rest.now) c.loop.invariant none

pub term_at-loop-init : goal.term_at-loop-init
term_at-loop-init g c =
    let same : length c.args.here.now - 0 ≡ length (plains c.args.here.now) = omega (arith, length-map c.args.here.now plain) in
    term_begun c.args.size (length c.args.here.now - 0) (inside_at c.args.size c.args.depth) (plains c.args.here.now) (plains c.in_ok-first.after.now) (outcome_of c.in_ok-first.first) same c.in_ok-first.ensures

pub term_at-loop-preserved : goal.term_at-loop-preserved
term_at-loop-preserved g c =
    let f : IsOnTheWay (length c.args.here.now - c.loop.counter) and_at t.both (factor_at c.args.size (inside_at c.args.size c.args.depth)) (term_at c.args.size (inside_at c.args.size c.args.depth) (plains c.args.here.now)) (outcome_of c.loop.value) (plains c.loop.rest.now) = c.loop.invariant in
    let one_less : length c.args.here.now - c.loop.counter ≡ suc (length c.args.here.now - (c.loop.counter + 1)) = omega arith in
    went_on (length c.args.here.now - c.loop.counter) (length c.args.here.now - (c.loop.counter + 1)) and_at t.both (factor_at c.args.size (inside_at c.args.size c.args.depth)) (term_at c.args.size (inside_at c.args.size c.args.depth) (plains c.args.here.now)) (outcome_of c.loop.value) (outcome_of c.in_ok-next.next) (plains c.loop.rest.now) (plains c.in-Some.behind.now) (plains c.in_ok-next.left.now)
    f one_less (sym c.in-Some.ensures) (c.in_ok-next.ensures f.tree f.tells)

pub term_at-returns-in_default : goal.term_at-returns-in_default
term_at-returns-in_default g c =
    chain_ended (length c.args.here.now - c.loop.counter) and_at t.both (factor_at c.args.size (inside_at c.args.size c.args.depth)) (term_at c.args.size (inside_at c.args.size c.args.depth) (plains c.args.here.now)) (outcome_of c.loop.value) (plains c.loop.rest.now) c.loop.invariant (sym c.in_default.ensures)

pub term_at-returns-in_err-next : goal.term_at-returns-in_err-next
term_at-returns-in_err-next g c =
    let p = err_from_is_err_and c.from_residual-in_err-next.result c.from_residual-in_err-next.ensures.1 in
    let f : IsOnTheWay (length c.args.here.now - c.loop.counter) and_at t.both (factor_at c.args.size (inside_at c.args.size c.args.depth)) (term_at c.args.size (inside_at c.args.size c.args.depth) (plains c.args.here.now)) (outcome_of c.loop.value) (plains c.loop.rest.now) = c.loop.invariant in
    let one_less : length c.args.here.now - c.loop.counter ≡ suc (length c.args.here.now - (c.loop.counter + 1)) = omega arith in
    rw (p.1, p.2)
    (chain_fault (length c.args.here.now - c.loop.counter) (length c.args.here.now - (c.loop.counter + 1)) and_at t.both (factor_at c.args.size (inside_at c.args.size c.args.depth)) (term_at c.args.size (inside_at c.args.size c.args.depth) (plains c.args.here.now)) (outcome_of c.loop.value) (plains c.loop.rest.now) (plains c.in-Some.behind.now) _ f one_less (sym c.in-Some.ensures) (c.in_err-next.ensures f.tree f.tells))

pub term_at-returns : goal.term_at-returns
term_at-returns g c =
    let none : length c.args.here.now - c.loop.counter ≡ 0 = omega arith in
    chain_full (length c.args.here.now - c.loop.counter) and_at t.both (factor_at c.args.size (inside_at c.args.size c.args.depth)) (term_at c.args.size (inside_at c.args.size c.args.depth) (plains c.args.here.now)) (outcome_of c.loop.value) (plains c.loop.rest.now) c.loop.invariant none
