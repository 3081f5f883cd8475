use Rattle.req_tokens.specs.Terminals.{plains}
use Rattle.req_parser.proofs.SetJudged.{first_told, shape_of}
use Rattle.req_parser.proofs.set_parsing.with_good_keys.Goals as goal

pub returns-in-Ok-Some : goal.returns-in-Ok-Some
returns-in-Ok-Some c = (
  c.requires.few,
  shape_of c.what_is_read_is_an_operand.ensures (plains c.args.list.now) c.args.parts.items c.requires.parts,
  first_told (plains c.args.list.now) c.in-Ok-Some.field-0 c.in-Ok-Some.token c.in-Ok-Some.field-0-is c.in-Ok-Some.ensures,
)
