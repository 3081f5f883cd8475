use Rattle.std.proofs.Common.{◌≡◌, Ok, refl, sym, ◌∙◌, subst}
use Rattle.run_status.specs.declared.status.Status.TheVariants.{Fine, WriteFault}
use Rattle.spctl_cli.specs.LastLines.{IsEndedBy}
use Rattle.spctl_cli.proofs.Starved.{starved}
use Rattle.spctl_cli.proofs.Own.{rehearsal_own}
use Rattle.spctl_cli.proofs.speaking.on_rehearsal.Goals as goal

pub end_with-requires : goal.end_with-requires
end_with-requires g c = λ is. let apart : Fine ≡ WriteFault = sym c.in-Ok.ensures.status_is ∙ is in cc

pub returns-in-Ok-clause-ends : goal.returns-in-Ok-clause-ends
returns-in-Ok-clause-ends g c left tally = record {
  unread = refl;
  answer = Ok c.in-Ok.said;
  answers = c.in-Ok.ensures;
  counted = tt;
  concludes = subst (λ text. IsEndedBy c.in-Ok.said.status text (g.W.Sink.written c.args.output.now) (g.W.Sink.written c.end_with.new.output) c.end_with.result) c.as_slice.ensures c.end_with.ensures.put;
}

pub returns-in-Ok-clause-own : goal.returns-in-Ok-clause-own
returns-in-Ok-clause-own g c =
    rehearsal_own (Ok c.in-Ok.said) c.args.steps (g.W.Sink.written c.args.output.now) (g.W.Sink.written c.end_with.new.output) c.end_with.result c.in-Ok.ensures
    (subst (λ text. IsEndedBy c.in-Ok.said.status text (g.W.Sink.written c.args.output.now) (g.W.Sink.written c.end_with.new.output) c.end_with.result) c.as_slice.ensures c.end_with.ensures.put)

pub returns-in-Err-clause-ends : goal.returns-in-Err-clause-ends
returns-in-Err-clause-ends g c left tally = starved _ tally left _ refl
