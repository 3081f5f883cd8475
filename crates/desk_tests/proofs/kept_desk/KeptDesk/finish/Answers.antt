use Rattle.std.proofs.Common.{Some}
use Rattle.memory_keeper.specs.Memory.{kept}
use Rattle.desk_ticket.specs.Ticket.{ticket_of}
use Rattle.desk_state.specs.Stands.{plain}
use Rattle.desk_tests.proofs.StillMirrored.{still_mirrored}
use Rattle.desk_tests.proofs.kept_desk.KeptDesk.finish.Goals as goal

pub invariant_of-self : goal.invariant_of-self
invariant_of-self c = record {
  mirrors = still_mirrored (Some (kept c.args.self.now.keeper)) (ticket_of c.args.ticket) (plain c.args.self.now.desk) (plain c.finish.new.self) c.finish.ensures.leaves c.args.self.now.mirrors;
}
