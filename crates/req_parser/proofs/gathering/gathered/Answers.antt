use Rattle.std.proofs.Common.{sym}
use Rattle.req_parser.proofs.SetMade.{last_fits, none_gathered}
use Rattle.req_parser.proofs.gathering.gathered.Goals as goal

pub returns-in_default-requirement_in : goal.returns-in_default-requirement_in
returns-in_default-requirement_in c =
    sym
    (none_gathered c.args.parts.items c.loop-part.parts.items c.loop-part.set c.in-Some.part c.pop.new.self.items c.loop-part.invariant c.in-Some.ensures.items
    (sym c.in_default-requirement_in.ensures))

pub put-requires-clause-kind : goal.put-requires-clause-kind
put-requires-clause-kind c =
    (last_fits c.args.parts.items c.loop-part.parts.items c.loop-part.set c.in-Some.part c.pop.new.self.items c.requires c.loop-part.invariant c.in-Some.ensures.items).0

pub put-requires-clause-free : goal.put-requires-clause-free
put-requires-clause-free c =
    (last_fits c.args.parts.items c.loop-part.parts.items c.loop-part.set c.in-Some.part c.pop.new.self.items c.requires c.loop-part.invariant c.in-Some.ensures.items).1
