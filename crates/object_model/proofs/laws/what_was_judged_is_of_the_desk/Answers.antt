use Rattle.object_model.proofs.OfDesk.{begins_of_desk, tick_keeps_of, edit_keeps_of, entries_keep_of, ticket_is_of_desk}
use Rattle.object_model.proofs.laws.what_was_judged_is_of_the_desk.Goals as goal

pub returns-clause-begin : goal.returns-clause-begin
returns-clause-begin c = begins_of_desk

pub returns-clause-tick : goal.returns-clause-tick
returns-clause-tick c = tick_keeps_of

pub returns-clause-edit : goal.returns-clause-edit
returns-clause-edit c = edit_keeps_of

pub returns-clause-entries : goal.returns-clause-entries
returns-clause-entries c = entries_keep_of

pub returns-clause-ticket : goal.returns-clause-ticket
returns-clause-ticket c = ticket_is_of_desk
