-- A number is read back from its decimal digits.
use Rattle.std.proofs.Common.{◌≡◌, ℕ, ◌+◌, ◌*◌, ◌-◌, ◌^◌, ◌<◌, ◌≤◌, Bool, true, false, nat_le, List, length, Option, Some, None, codes, decimal, refl, sym, ap, subst, ◌∙◌, arith, rules}
use Rattle.std.specs.Prelude.{IfSome}
use Rattle.std.specs.List.{fold, list_all}
use Rattle.std.specs.Char.{is_ascii_digit}
use Rattle.std.specs.Str.{bytes_eq}
use Rattle.std.proofs.lemmas.Bool.Decides.{nat_tests}
use Rattle.std.proofs.lemmas.Slice.Eq.{bytes_eq-Decides}
use Rattle.std.proofs.lemmas.Str.Parse.{IsNumeralModel, IsDigitsTest, FoldsDigits, numerals_by_fold}
use Rattle.std.proofs.lemmas.Fmt.{digits_decimal, digits_value-decimal, decimal_nonempty, length-decimal-le}
use Rattle.req_tree.specs.NumericOrder.{number_of}
use Rattle.policy_model.specs.Texts.{expiry_text}
use Rattle.line_model.specs.Words.{number_word, moment_word, expiry_word}

abbrev value_from : ℕ → List ℕ → ℕ
value_from n digits = fold (λ k b. 10 * k + (b - 48)) n digits

folds : FoldsDigits value_from
folds = record { empty = λ n. refl; more = λ n c cs digit. ap (λ k. value_from k cs) (ten n c) }
  where
    ten : (n c : ℕ) → 10 * n + (c - 48) ≡ n * 10 + (c - 48)
    ten n c = omega arith

abbrev pub AreDigits : List ℕ → Type 0
AreDigits ds = list_all is_ascii_digit ds ≡ true

tells : IsDigitsTest AreDigits
tells = search rules

own : IsNumeralModel AreDigits number_of
own = numerals_by_fold _ tells value_from folds

pub are_digits : (n : ℕ) → n < 2 ^ 64 → AreDigits (decimal n)
are_digits n h = digits_decimal own n h

pub number_is : (n : ℕ) → n < 2 ^ 64 → number_of (decimal n) ≡ n
number_is n h = digits_value-decimal own n h

pub at_least_one : (n : ℕ) → n < 2 ^ 64 → 0 < length (decimal n)
at_least_one n h = decimal_nonempty n h

-- digits of the right number and value are that number
pub number_reads : (most greatest : ℕ) (word : List ℕ) → 0 < length word → length word ≤ most → AreDigits word → number_of word ≤ greatest → number_word most greatest word ≡ Some (number_of word)
number_reads most greatest word some few digits small =
    let a : nat_le 1 (length word) ≡ true = grind (arith, nat_tests) in
    let b : nat_le (length word) most ≡ true = grind (arith, nat_tests) in
    let c : nat_le (number_of word) greatest ≡ true = grind (arith, nat_tests) in
    rw (a, b, digits, c) refl

pub number_back : (most greatest n : ℕ) → 0 < most → n < 10 ^ most → n < 2 ^ 64 → n ≤ greatest → number_word most greatest (decimal n) ≡ Some n
number_back most greatest n some few fits small =
    number_reads most greatest (decimal n) (at_least_one n fits) (length-decimal-le most n some few fits) (are_digits n fits) (subst (λ k. k ≤ greatest) (sym (number_is n fits)) small)
    ∙ ap Some (number_is n fits)

pub moment_back : (m : ℕ) → m ≤ 253402300799 → moment_word (decimal m) ≡ Some m
moment_back m h = number_back 12 253402300799 m (omega arith) (omega (arith, h)) (omega (arith, h)) h

no_never : (m : ℕ) → m < 2 ^ 64 → bytes_eq (decimal m) (codes "never") ≡ false
no_never m h = by_case (bytes_eq (decimal m) (codes "never")) refl
  where
    by_case : (same : Bool) → bytes_eq (decimal m) (codes "never") ≡ same → same ≡ false
    by_case false e = refl
    by_case true e =
        let is : decimal m ≡ codes "never" = (bytes_eq-Decides (decimal m) (codes "never")).0 e in
        let digits : AreDigits (codes "never") = subst AreDigits is (are_digits m h) in
        absurd (cc digits)

pub expiry_back : (e : Option ℕ) → IfSome e (λ m. m ≤ 253402300799) → expiry_word (expiry_text e) ≡ Some e
expiry_back None h = refl
expiry_back (Some m) h = rw (no_never m (omega (arith, h)), moment_back m h) refl
