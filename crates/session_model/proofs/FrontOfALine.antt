-- The front of a line asks for what the line asks for.
use Rattle.std.proofs.Common.{◌≡◌, ℕ, suc, ◌≤◌, List, length, take, Bool, true, false, nat_le, if◌then◌else◌, Err, arith, refl, sym, ◌∙◌, ap}
use Rattle.std.proofs.lemmas.List.{take_all, length-take}
use Rattle.std.proofs.lemmas.Bool.Decides.{nat_tests}
use Rattle.line_model.specs.LineFaults.{bad_line}
use Rattle.line_model.specs.Left.{all_of}
use Rattle.session_model.specs.Lines.{lined_at, lined}

-- a longer line is too long
longer : (line : List ℕ) → nat_le (length line) 8192 ≡ false → lined line ≡ Err (bad_line 8193)
longer line long = ap (λ (b : Bool). if b then lined_at (all_of line) else Err (bad_line 8193)) long

still_longer : (n : ℕ) (whole : List ℕ) → nat_le (length whole) n ≡ false → nat_le (length (take (suc n) whole)) n ≡ false
still_longer n whole long = grind (arith, nat_tests, length-take (suc n) whole)

front_by_length : (n : ℕ) (whole : List ℕ) (short : Bool) → n ≡ 8192 → nat_le (length whole) n ≡ short → lined (take (suc n) whole) ≡ lined whole
front_by_length n whole true is short =
    let all : length whole ≤ suc n = grind (arith, nat_tests, short) in
    ap lined (take_all (suc n) whole all)
front_by_length n whole false is long =
    longer (take (suc n) whole) (ap (nat_le (length (take (suc n) whole))) (sym is) ∙ still_longer n whole long)
    ∙ sym (longer whole (ap (nat_le (length whole)) (sym is) ∙ long))

-- the first bytes of a line, one more than a line may have, ask for what the line asks for
front_lined : (n : ℕ) (whole : List ℕ) → n ≡ 8192 → lined (take (suc n) whole) ≡ lined whole
front_lined n whole is = front_by_length n whole (nat_le (length whole) n) is refl

-- the first 8,193 bytes of a line ask for what the line asks for
pub lined-front : (line : List ℕ) → lined (take 8193 line) ≡ lined line
lined-front line = front_lined 8192 line refl
