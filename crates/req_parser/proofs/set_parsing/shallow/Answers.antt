use Rattle.std.proofs.Common.{sym}
use Rattle.req_tokens.specs.Terminals.{plains}
use Rattle.req_parser.proofs.SetJudged.{made}
use Rattle.req_parser.proofs.set_parsing.shallow.Goals as goal

pub gathered-requires : goal.gathered-requires
gathered-requires c =
    (made c.operands_are_read.ensures c.parentheses_balance.ensures.tree c.plain_readings_stand_for_readings.ensures.plain c.plain_readings_stand_for_readings.ensures.stands
    c.what_is_read_is_an_operand.ensures c.good_shapes_are_read.ensures.set c.terminals_have_one_reading.ensures.tree (plains c.args.list.now) c.args.parts.items
    c.requires.few c.requires.keys c.requires.once c.requires.parts).fit

pub returns-in-Some : goal.returns-in-Some
returns-in-Some c =
    (made c.operands_are_read.ensures c.parentheses_balance.ensures.tree c.plain_readings_stand_for_readings.ensures.plain c.plain_readings_stand_for_readings.ensures.stands
    c.what_is_read_is_an_operand.ensures c.good_shapes_are_read.ensures.set c.terminals_have_one_reading.ensures.tree (plains c.args.list.now) c.args.parts.items
    c.requires.few c.requires.keys c.requires.once c.requires.parts).some
    c.in-Some.set (sym c.in-Some.ensures)

pub returns-in-None : goal.returns-in-None
returns-in-None c =
    (made c.operands_are_read.ensures c.parentheses_balance.ensures.tree c.plain_readings_stand_for_readings.ensures.plain c.plain_readings_stand_for_readings.ensures.stands
    c.what_is_read_is_an_operand.ensures c.good_shapes_are_read.ensures.set c.terminals_have_one_reading.ensures.tree (plains c.args.list.now) c.args.parts.items
    c.requires.few c.requires.keys c.requires.once c.requires.parts).none
    (sym c.in-None.ensures)
