use Rattle.req_tokens.specs.Terminals.{plains}
use Rattle.req_tokens.specs.Words.{plain_word}
use Rattle.req_primary.specs.Keys.{operand_tree}
use Rattle.req_primary.specs.Laws.{IsOperand}
use Rattle.req_parser.proofs.tree.worded_at.Goals as goal

pub returns : goal.returns
returns c =
    let operand : IsOperand (plain_word c.args.word) (plains c.args.rest.now) (plains c.in_ok-req.rest.now) (operand_tree c.in_ok-req.req) =
    c.what_is_read_is_an_operand.ensures c.args.size (plain_word c.args.word) (plains c.args.here.now) (plains c.args.rest.now) (plains c.in_ok-req.rest.now) (operand_tree c.in_ok-req.req)
    c.in_ok-req.ensures in
    record { tree = operand_tree c.in_ok-req.req; reads = c.in_ok-req.ensures; tells = c.in_ok-value.ensures operand.plain }
