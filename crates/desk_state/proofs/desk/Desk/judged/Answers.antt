use Rattle.std.proofs.Common.{refl, sym}
use Rattle.req_tree.specs.Subject.{subject_of}
use Rattle.rule_values.specs.Kind.{kind_of}
use Rattle.desk_state.specs.Stands.{facts_of}
use Rattle.desk_state.proofs.Judges.{found_outcome}
use Rattle.desk_state.proofs.desk.Desk.judged.Goals as goal

pub returns : goal.returns
returns c = record {
  kind = refl;
  subject = c.copied.ensures;
  keep = refl;
  at = refl;
  enabled = refl;
  mark = c.mark.ensures;
  outcome = found_outcome c.one_outcome.ensures.outcome c.args.self.now (kind_of c.args.kind) (subject_of c.args.subject.now) c.find-found.result _ c.args.self.now.own_ids
      (c.find-found.ensures (facts_of c.args.self.now) (sym c.facts_on-facts.ensures)) c.decided_by.ensures;
}
