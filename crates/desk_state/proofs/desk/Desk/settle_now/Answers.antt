use Rattle.std.proofs.Common.{refl}
use Rattle.req_tree.specs.Subject.{subject_of}
use Rattle.rule_values.specs.Kind.{kind_of}
use Rattle.rule_values.specs.Outcome.{outcome_of}
use Rattle.object_cache.specs.Offered.{offered_of}
use Rattle.desk_state.specs.Stands.{tables, facts_of, moment_of}
use Rattle.desk_state.proofs.StaysFresh.{IsOffered, offer_fresh}
use Rattle.desk_state.proofs.desk.Desk.settle_now.Goals as goal

pub invariant_of-self-clause-fresh : goal.invariant_of-self-clause-fresh
invariant_of-self-clause-fresh c =
    let d = c.args.self.now in
    let j = c.args.judged in
    let is : IsOffered (kind_of j.kind) (subject_of j.subject) j.keep j.mark (moment_of d) (outcome_of j.outcome) d.objects c.offer-offered.new.self (offered_of c.offer-offered.result) = record {
      entry = _;
      since = _;
      inhibit = _;
      entry_is = c.entry_of-entry.ensures;
      since_is = refl;
      inhibit_is = refl;
      gives = c.offer-offered.ensures.gives;
      entries = c.offer-offered.ensures.entries;
      counts_are = c.offer-offered.ensures.counts;
      rings_are = c.offer-offered.ensures.rings;
    } in
    offer_fresh c.a_desk_is_fresh.ensures.offer (tables d) (facts_of d) (moment_of d) d.objects c.offer-offered.new.self (kind_of j.kind) (subject_of j.subject) j.keep j.at j.mark (outcome_of j.outcome) (offered_of c.offer-offered.result) d.room d.own_ids c.requires d.fresh is
