use Rattle.desk_ticket.specs.Ticket.{ticket_of}
use Rattle.desk_state.specs.Stands.{plain}
use Rattle.desk_state.proofs.Assessed.{finishes_after, stands_finished}
use Rattle.desk_state.proofs.OfDesk.{finished_keeps}
use Rattle.desk_state.proofs.desk.Desk.finish.Goals as goal

pub returns-clause-after : goal.returns-clause-after
returns-clause-after c = λ o h k s of.
    finishes_after c.a_ticket_is_enough.ensures.answers c.a_desk_goes_on_standing.ensures.finish (plain c.args.self.now) o h k (ticket_of c.args.ticket) s of c.finish_now.result c.finish_now.ensures.finished

pub returns-clause-stands : goal.returns-clause-stands
returns-clause-stands c = λ o h k s of. stands_finished c.a_desk_goes_on_standing.ensures.finish (plain c.args.self.now) _ o h k (ticket_of c.args.ticket) c.finish_now.ensures.leaves s of

pub returns-clause-of_desk : goal.returns-clause-of_desk
returns-clause-of_desk c = finished_keeps c.what_was_judged_is_of_the_desk.ensures.entries (plain c.args.self.now) _ (ticket_of c.args.ticket) c.finish_now.ensures.leaves
