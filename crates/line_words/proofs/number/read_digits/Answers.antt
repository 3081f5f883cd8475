-- A number of fewer than 19 digits has room for one more.
use Rattle.std.proofs.Common.{◌<◌, ◌^◌, arith}
use Rattle.line_words.proofs.FewDigits.{fits_more}
use Rattle.line_words.proofs.number.read_digits.Goals as goal

pub overflow_mul-number : goal.overflow_mul-number
overflow_mul-number c =
    let inside : c.loop-digit.digit-index < 19 = omega arith in
    let bound : c.loop-digit.number < 10 ^ 18 = fits_more c.loop-digit.number c.loop-digit.digit-index inside c.loop-digit.invariant.bound in
    omega arith

pub overflow_add-number : goal.overflow_add-number
overflow_add-number c =
    let inside : c.loop-digit.digit-index < 19 = omega arith in
    let bound : c.loop-digit.number < 10 ^ 18 = fits_more c.loop-digit.number c.loop-digit.digit-index inside c.loop-digit.invariant.bound in
    omega (arith, c.if-not-is_ascii_digit.ensures.bound)
