use Rattle.std.proofs.Common.{sym}
use Rattle.req_tokens.specs.Terminals.{plains}
use Rattle.req_parser.proofs.SetJudged.{shape_of, twice_fails}
use Rattle.req_parser.proofs.set_parsing.with_kinds_once.Goals as goal

pub returns-in-Some : goal.returns-in-Some
returns-in-Some c =
    twice_fails (plains c.args.list.now) c.in-Some.token c.requires.few
    (shape_of c.what_is_read_is_an_operand.ensures (plains c.args.list.now) c.args.parts.items c.requires.parts) c.requires.keys (sym c.in-Some.ensures)
