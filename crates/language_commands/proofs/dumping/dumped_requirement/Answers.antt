use Rattle.language_commands.specs.Refusals.{ops_refusal}
use Rattle.language_commands.specs.Dumping.{SaysTree, RefusesBlob}
use Rattle.language_commands.proofs.TakenOrRefused.{refusal_of, ok_or_err}
use Rattle.language_commands.proofs.dumping.dumped_requirement.Goals as goal

pub returns-in-Err-clause-says : goal.returns-in-Err-clause-says
returns-in-Err-clause-says c =
    let bytes = c.args.bytes.now in
    refusal_of (SaysTree bytes) (RefusesBlob bytes) (ops_refusal c.in-Err.fault) c.refuse_ops.result
    (λ said known line. record { none = λ tree is. ok_or_err tree c.in-Err.fault (c.in-Err.ensures.only tree is known); fault = c.in-Err.fault; fails = c.in-Err.ensures.exact known; line = line })
    c.refuse_ops.ensures.known c.refuse_ops.ensures.status c.refuse_ops.ensures.text
