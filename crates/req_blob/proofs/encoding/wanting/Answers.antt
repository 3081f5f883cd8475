use Rattle.std.proofs.Common.{arith, refl}
use Rattle.req_blob.proofs.Written.{long_size, short_size}
use Rattle.req_blob.proofs.encoding.wanting.Goals as goal

pub returns-then-plain_size-gt-MOST_BYTES-clause-long :
    goal.returns-then-plain_size-gt-MOST_BYTES-clause-long
returns-then-plain_size-gt-MOST_BYTES-clause-long c =
    let long = long_size _ _ c.plain_size.ensures (omega arith) in
    (λ _. long, λ _. refl)

pub returns-clause-long : goal.returns-clause-long
returns-clause-long c =
    let short = short_size _ _ c.plain_size.ensures (omega arith) in
    (λ e. cc, λ long. absurd (omega (arith, long, short)))
