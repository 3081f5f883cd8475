use Rattle.req_tokens.specs.Terminals.{plains}
use Rattle.req_primary.specs.Keys.{outcome_of}
use Rattle.req_tree.specs.Tree.{tree_of}
use Rattle.req_parser.proofs.Judged.{fine_found, deep_fails, no_good_keys, shape_of, bad_key_fails}
use Rattle.req_parser.proofs.parsing.judged.Goals as goal

pub returns-in-Fine : goal.returns-in-Fine
returns-in-Fine c =
    rw c.into_inner.ensures
    (fine_found c.what_is_read_is_an_operand.ensures c.plain_readings_stand_for_readings.ensures.stands (plains c.args.list.now) (tree_of c.in-Fine.tree.value) c.in-Fine.depth c.requires.few
    (rw c.in-Fine.is at c.requires.outcome))

pub returns-in-Deep : goal.returns-in-Deep
returns-in-Deep c =
    deep_fails c.what_is_read_is_an_operand.ensures c.plain_readings_stand_for_readings.ensures.stands (plains c.args.list.now) c.requires.few (rw c.in-Deep.is at c.requires.outcome)

pub bad_key-requires-clause-bad : goal.bad_key-requires-clause-bad
bad_key-requires-clause-bad c =
    no_good_keys c.operands_are_read.ensures c.parentheses_balance.ensures.tree c.what_is_read_is_an_operand.ensures c.plain_readings_stand_for_readings.ensures.plain
    c.good_shapes_are_read.ensures.tree (plains c.args.list.now) c.requires.few (rw c.in-BadKey.is at c.requires.outcome)

pub returns-in-BadKey : goal.returns-in-BadKey
returns-in-BadKey c =
    bad_key_fails (plains c.args.list.now) c.bad_key.result c.requires.few (shape_of c.what_is_read_is_an_operand.ensures (plains c.args.list.now) (outcome_of c.args.built) c.requires.outcome)
    c.bad_key.ensures
