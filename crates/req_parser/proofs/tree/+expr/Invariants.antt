use Rattle.std.proofs.Common.{◌+◌, ◌*◌, ◌-◌, length}
use Rattle.req_tree.specs.Tree as t
use Rattle.req_tokens.specs.Terminals.{plains}
use Rattle.req_primary.specs.Keys.{outcome_of}
use Rattle.req_parser.specs.Reading.{and_at, or_at, factor_at, term_at, expr_at, inside_at}
use Rattle.req_parser.proofs.Chains.{IsOnTheWay}
use Rattle.req_parser.proofs.tree.+expr.Given as goal

abbrev pub decreases-inside_at : goal.decreases-inside_at
decreases-inside_at l = 10 * l.depth + 0

abbrev pub decreases-closed_at : goal.decreases-closed_at
decreases-closed_at l = 10 * l.depth + 1

abbrev pub decreases-paren_at : goal.decreases-paren_at
decreases-paren_at l = 10 * l.depth + 2

abbrev pub decreases-operand_of_sign : goal.decreases-operand_of_sign
decreases-operand_of_sign l = 10 * l.depth + 3

abbrev pub decreases-operand_at : goal.decreases-operand_at
decreases-operand_at l = 10 * l.depth + 4

abbrev pub decreases-factor_at : goal.decreases-factor_at
decreases-factor_at l = 10 * l.depth + 5

abbrev pub decreases-and_factor : goal.decreases-and_factor
decreases-and_factor l = 10 * l.depth + 6

abbrev pub decreases-term_at : goal.decreases-term_at
decreases-term_at l = 10 * l.depth + 7

abbrev pub decreases-or_term : goal.decreases-or_term
decreases-or_term l = 10 * l.depth + 8

abbrev pub decreases-expr_at : goal.decreases-expr_at
decreases-expr_at l = 10 * l.depth + 9

-- the operators that are left give what the whole expression gives
abbrev pub invariant-expr_at-loop : goal.invariant-expr_at-loop
invariant-expr_at-loop l =
    IsOnTheWay (length l.here - l.counter) or_at t.either (term_at l.size (inside_at l.size l.depth)) (expr_at l.size (inside_at l.size l.depth) (plains l.here)) (outcome_of l.value) (plains l.rest)

abbrev pub invariant-term_at-loop : goal.invariant-term_at-loop
invariant-term_at-loop l =
    IsOnTheWay (length l.here - l.counter) and_at t.both (factor_at l.size (inside_at l.size l.depth)) (term_at l.size (inside_at l.size l.depth) (plains l.here)) (outcome_of l.value) (plains l.rest)
