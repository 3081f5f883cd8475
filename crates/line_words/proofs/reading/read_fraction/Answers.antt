-- A number below a million, and as many zeros as a fraction has at most.
use Rattle.std.proofs.Common.{◌≤◌, ◌<◌, ◌-◌, ◌*◌, ◌^◌, length, zero, arith}
use Rattle.std.proofs.Math.Nat.{pow-le-pow_right, mul-le-mul}
use Rattle.line_words.proofs.reading.read_fraction.Goals as goal

pub returns-clause-most : goal.returns-clause-most
returns-clause-most c =
    let some : zero < 10 = omega arith in
    let few : 6 - length c.args.word.now ≤ 6 = omega arith in
    let zeros : 10 ^ (6 - length c.args.word.now) ≤ 10 ^ 6 = pow-le-pow_right some few in
    let below : c.in_ok-number.number ≤ 999999 = c.in_ok-number.ensures.within in
    let product : c.in_ok-number.number * 10 ^ (6 - length c.args.word.now) ≤ 999999 * 10 ^ 6 = mul-le-mul below zeros in
    rw c.pow.ensures omega (arith, product)
