use Rattle.code_facts.proofs.OidBytes.{oid_read}
use Rattle.code_facts.proofs.words.read_oid.Goals as goal

pub returns-in-Ok : goal.returns-in-Ok
returns-in-Ok c =
    let numbers = c.in-Ok.ensures.numbers in
    oid_read c.args.key.now numbers.0 _ numbers.1 numbers.2
