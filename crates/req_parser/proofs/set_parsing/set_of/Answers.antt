use Rattle.std.proofs.Common.{sym, ◌∙◌, inl}
use Rattle.req_tokens.specs.Terminals.{plains}
use Rattle.req_parser.proofs.OpenFronts.{few_has, many_has}
use Rattle.req_parser.proofs.SetJudged.{set_reading_fails}
use Rattle.req_parser.proofs.set_parsing.set_of.Goals as goal

pub returns-then-not-has_few_open : goal.returns-then-not-has_few_open
returns-then-not-has_few_open c = inl (many_has (plains c.args.list.now) (sym c.has_few_open.ensures ∙ c.if-not-has_few_open.true))

pub with_good_keys-requires-clause-few : goal.with_good_keys-requires-clause-few
with_good_keys-requires-clause-few c = few_has (plains c.args.list.now) (sym c.has_few_open.ensures ∙ c.if-not-has_few_open.false)

pub returns-in-Err : goal.returns-in-Err
returns-in-Err c =
    rw c.fault_of.ensures
    (set_reading_fails (record { operand = c.operands_stop_where_the_machine_does.ensures.operand; close = c.operands_stop_where_the_machine_does.ensures.close; even = c.ways_are_balanced.ensures })
    c.operands_are_read.ensures c.parentheses_balance.ensures.tree (plains c.args.list.now) c.in-Err.fault (few_has (plains c.args.list.now) (sym c.has_few_open.ensures ∙ c.if-not-has_few_open.false))
    c.in-Err.ensures)
