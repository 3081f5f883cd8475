use Rattle.std.proofs.Common.{ap, ◌∙◌}
use Rattle.std.specs.Prelude.{not}
use Rattle.policy_model.specs.Outcomes.{Outcome}
use Rattle.policy_model.specs.History.{Entry}
use Rattle.object_model.specs.Tickets.{Ticket, judged}
use Rattle.object_cache.specs.Offered.{offered_of}
use Rattle.desk_ticket.specs.Ticket.{ticket_of}
use Rattle.desk_state.specs.Stands.{tables, facts_of, moment_of}
use Rattle.desk_state.proofs.StaysFresh.{IsOffered, offer_fresh}
use Rattle.desk_state.proofs.desk.Desk.finish_now.Goals as goal

pub invariant_of-self-clause-fresh : goal.invariant_of-self-clause-fresh
invariant_of-self-clause-fresh c =
    let d = c.args.self.now in
    let t : Ticket = ticket_of c.args.ticket in
    let entry : Outcome → Entry = λ o. record { kind = t.kind; subject = t.subject; outcome = o } in
    let is : IsOffered t.kind t.subject t.keep t.mark (moment_of d) (judged t) d.objects c.offer-offered.new.self (offered_of c.offer-offered.result) = record {
      entry = _;
      since = _;
      inhibit = _;
      entry_is = c.entry-entry.ensures ∙ ap entry c.requires.outcome;
      since_is = c.mark-since.ensures;
      inhibit_is = ap not c.keeps-inhibit.ensures;
      gives = c.offer-offered.ensures.gives;
      entries = c.offer-offered.ensures.entries;
      counts_are = c.offer-offered.ensures.counts;
      rings_are = c.offer-offered.ensures.rings;
    } in
    offer_fresh c.a_desk_is_fresh.ensures.offer (tables d) (facts_of d) (moment_of d) d.objects c.offer-offered.new.self t.kind t.subject t.keep t.at t.mark (judged t) (offered_of c.offer-offered.result) d.room d.own_ids c.requires.of_desk d.fresh is
