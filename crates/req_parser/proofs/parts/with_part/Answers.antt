use Rattle.req_tokens.specs.Terminals.{plains}
use Rattle.req_parser.specs.SetReading.{part_at}
use Rattle.req_parser.proofs.PartLoops.{part_more}
use Rattle.req_parser.proofs.parts.with_part.Goals as goal

pub returns-in_ok-push-in-Ok : goal.returns-in_ok-push-in-Ok
returns-in_ok-push-in-Ok c =
    λ some tell. part_more (part_at c.args.size (plains c.args.here.now)) some c.args.parts.items c.push.new.self.items c.in-Ok.part (plains c.in-Ok.rest.now) tell c.in-Ok.ensures
    c.in_ok-push-in-Ok.ensures.items
