-- How large a number of few digits is.
use Rattle.std.proofs.Common.{◌≡◌, ℕ, zero, ◌+◌, ◌*◌, ◌<◌, ◌≤◌, ◌^◌, ap, ◌∙◌, arith}
use Rattle.std.proofs.Math.Nat.{pow-le-pow_right, pow-suc}

-- a number of at most 18 digits is below 10 ^ 18
pub fits_more : (n digits : ℕ) → digits < 19 → n < 10 ^ digits → n < 10 ^ 18
fits_more n digits few bound =
    let some : zero < 10 = omega arith in
    let most : digits ≤ 18 = omega arith in
    let larger : 10 ^ digits ≤ 10 ^ 18 = pow-le-pow_right some most in
    omega (arith, larger, bound)

pub next_power : (digits : ℕ) → 10 ^ (digits + 1) ≡ 10 ^ digits * 10
next_power digits = ap (λ n. 10 ^ n) (omega arith) ∙ pow-suc 10 digits
