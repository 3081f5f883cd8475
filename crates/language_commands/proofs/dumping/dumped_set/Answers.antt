use Rattle.language_commands.specs.Refusals.{set_refusal}
use Rattle.language_commands.specs.Dumping.{SaysSet, RefusesSet}
use Rattle.language_commands.proofs.TakenOrRefused.{refusal_of}
use Rattle.language_commands.proofs.dumping.dumped_set.Goals as goal

pub returns-in-Err-clause-says : goal.returns-in-Err-clause-says
returns-in-Err-clause-says c =
    let bytes = c.args.bytes.now in
    refusal_of (SaysSet bytes) (RefusesSet bytes) (set_refusal c.in-Err.fault) c.refuse_set.result
    (λ said known line. record { none = λ set is. known (c.in-Err.ensures.only set is); fault = c.in-Err.fault; known = known; fails = c.in-Err.ensures.exact; line = line })
    c.refuse_set.ensures.known c.refuse_set.ensures.status c.refuse_set.ensures.text
