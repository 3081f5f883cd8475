-- A number of fewer than 19 digits has room for one more.
use Rattle.std.proofs.Common.{◌<◌, ◌^◌, ◌+◌, ◌*◌, ◌≡◌, get_or, take, refl, sym, ap, ◌∙◌, arith}
use Rattle.std.proofs.lemmas.Int.Digits.{digits_value_more}
use Rattle.std.proofs.lemmas.List.Folds.{list_all_more}
use Rattle.std.proofs.lemmas.Str.{digit_value_digit}
use Rattle.std.specs.Char.{is_ascii_digit, digit_value}
use Rattle.std.specs.Str.Parse.{digits_value}
use Rattle.http_fields.proofs.FewDigits.{fits_more, next_power}
use Rattle.http_fields.proofs.digits.read_digits.Goals as goal

pub overflow_mul-number : goal.overflow_mul-number
overflow_mul-number c =
    let inside : c.loop-digit.digit-index < 19 = omega arith in
    let bound : c.loop-digit.number < 10 ^ 18 = fits_more c.loop-digit.number c.loop-digit.digit-index inside c.loop-digit.invariant.bound in
    omega arith

pub overflow_add-number : goal.overflow_add-number
overflow_add-number c =
    let inside : c.loop-digit.digit-index < 19 = omega arith in
    let bound : c.loop-digit.number < 10 ^ 18 = fits_more c.loop-digit.number c.loop-digit.digit-index inside c.loop-digit.invariant.bound in
    omega (arith, c.if-not-is_ascii_digit.ensures.bound)

pub loop-digit-preserved : goal.loop-digit-preserved
loop-digit-preserved c =
    let at = c.loop-digit.digit-index in
    let digit = get_or c.args.bytes.now at 0 in
    let value : digit_value digit + 48 ≡ digit = digit_value_digit digit c.if-not-is_ascii_digit.ensures.cases in
    record {
      digits = list_all_more is_ascii_digit c.args.bytes.now at 0 c.loop-digit-test.true ∙ rw (c.loop-digit.invariant.digits, sym c.if-not-is_ascii_digit.ensures.value) refl;
      value = rw (c.loop-digit.invariant.value, c.from.ensures) (ap (λ n. digits_value 10 (take at c.args.bytes.now) * 10 + n) (omega (arith, value)) ∙ sym (digits_value_more 10 c.args.bytes.now at c.loop-digit-test.true));
      bound = omega (arith, c.loop-digit.invariant.bound, c.if-not-is_ascii_digit.ensures.bound, value, c.from.ensures, next_power at);
    }
