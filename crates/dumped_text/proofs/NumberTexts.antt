-- Numbers in decimal, and places in the chain of certificates.
use Rattle.std.proofs.Common.{◌≡◌, ℕ, zero, suc, ℤ, pos, negsuc, ◌+◌, ◌-◌, ◌*◌, ◌/◌, ◌%◌, ◌^◌, ◌<◌, ◌≤◌, Bool, true, false, ◌||◌, ◌==◌, nat_le, nat_lt, nat_eq, if◌then◌else◌, List, [], ◌∷◌, ◌++◌, codes, decimal, refl, sym, ap, subst, ◌∙◌, true≢false, arith}
use Rattle.std.specs.Prelude.{FitsSigned}
use Rattle.std.specs.Int.{w32}
use Rattle.std.specs.Fmt.{digits, digits_onto, digit_glyph, signed_decimal}
use Rattle.std.specs.List.{list_all, starts_with, fold}
use Rattle.std.specs.Str.{all_ascii_digits}
use Rattle.std.proofs.lemmas.Bool.Decides.{nat_tests}
use Rattle.std.proofs.lemmas.Str.Parse.{IsNumeralModel, FoldsDigits, numerals_by_fold, tells_all_ascii_digits}
use Rattle.std.proofs.lemmas.Fmt.{digits_value-decimal}
use Rattle.req_tree.specs.NumericOrder.{is_digit, number_of}
use Rattle.req_grammar.specs.Words as w
use Rattle.req_grammar.specs.Tokens as k
use Rattle.req_grammar.specs.Tokens.{hex_mark, is_integer, is_letter, is_letter_or_digit, is_run, goes_on}
use Rattle.req_grammar.specs.Terminals.{Terminal, sign, int, terminal_of}
use Rattle.dumped_text.specs.Dumped.{slot_text}
use Rattle.dumped_text.specs.Said.{number_said, slot_said}
use Rattle.dumped_text.proofs.Bools.{both_hold, and_is, was_false, not_so}
use Rattle.dumped_text.proofs.Cutting.{Cut, token}
use Rattle.dumped_text.proofs.Pieces.{sticks, Stops, Piece, loose_piece, second, starts, word_piece, lone, is_lone}
use Rattle.dumped_text.proofs.OidText.{then_is}

-- the value of digits, one by one from a number on
abbrev value_from : ℕ → List ℕ → ℕ
value_from n digits = fold (λ k b. 10 * k + (b - 48)) n digits

folds : FoldsDigits value_from
folds = record {
  empty = λ n. refl;
  more = λ n c cs digit. ap (λ k. value_from k cs) (ten n c);
}
  where
    ten : (n c : ℕ) → 10 * n + (c - 48) ≡ n * 10 + (c - 48)
    ten n c = omega arith

own : IsNumeralModel (λ ds. all_ascii_digits ds ≡ true) number_of
own = numerals_by_fold _ tells_all_ascii_digits value_from folds

number_of-decimal : (n : ℕ) → n < 2 ^ 32 → number_of (decimal n) ≡ n
number_of-decimal n h = digits_value-decimal own n (omega arith)

-- a number is a token whose terminal is that number
number_back : (n : ℕ) → n < 2 ^ 32 → terminal_of k.integer (decimal n) ≡ int n
number_back n h = ap int (number_of-decimal n h)

-- ---- the digits of any number

glyph_is : (d : ℕ) → d < 10 → is_digit (digit_glyph false d) ≡ true
glyph_is d h =
    let small : nat_lt d 10 ≡ true = grind (arith, nat_tests, h) in
    let low : nat_le 48 (48 + d) ≡ true = grind (arith, nat_tests, h) in
    let high : nat_le (48 + d) 57 ≡ true = grind (arith, nat_tests, h) in
    ap is_digit (then_is (nat_lt d 10) (48 + d) (87 + d) small) ∙ and_is _ _ low high

run_onto : (front : ℕ) (rest : List ℕ) → is_digit front ≡ true → list_all is_digit rest ≡ true → is_run is_digit (front ∷ rest) ≡ true
run_onto b rest h k = and_is _ _ h (and_is _ _ h k)

either_run : (q : Bool) (now later : List ℕ) → is_run is_digit now ≡ true → is_run is_digit later ≡ true → is_run is_digit (if q then now else later) ≡ true
either_run true now later h k = h
either_run false now later h k = k

glyph_last : (n : ℕ) → is_digit (digit_glyph false (n % 10)) ≡ true
glyph_last n = glyph_is (n % 10) (omega arith)

-- digits before digits are digits, and there is one
digits_onto-run : (fuel n b : ℕ) (rest : List ℕ) → is_digit b ≡ true → list_all is_digit rest ≡ true → is_run is_digit (digits_onto fuel 10 false n (b ∷ rest)) ≡ true
digits_onto-run zero n b rest h k = run_onto b rest h k
digits_onto-run (suc fuel) n b rest h k =
    either_run (n / 10 == 0) (digit_glyph false (n % 10) ∷ b ∷ rest) (digits_onto fuel 10 false (n / 10) (digit_glyph false (n % 10) ∷ b ∷ rest))
    (run_onto (digit_glyph false (n % 10)) (b ∷ rest) (glyph_last n) (and_is _ _ h k))
    (digits_onto-run fuel (n / 10) (digit_glyph false (n % 10)) (b ∷ rest) (glyph_last n) (and_is _ _ h k))

first_digits : (fuel n : ℕ) → is_run is_digit (digits_onto (suc fuel) 10 false n []) ≡ true
first_digits fuel n =
    either_run (n / 10 == 0) (digit_glyph false (n % 10) ∷ []) (digits_onto fuel 10 false (n / 10) (digit_glyph false (n % 10) ∷ []))
    (run_onto (digit_glyph false (n % 10)) [] (glyph_last n) refl)
    (digits_onto-run fuel (n / 10) (digit_glyph false (n % 10)) [] (glyph_last n) refl)

pub decimal_run : (n : ℕ) → is_run is_digit (decimal n) ≡ true
unfolding digits
decimal_run n = first_digits 63 n

-- digits and what stops behind them don't begin with 0x
no_hex : (front rest : List ℕ) → is_run is_digit front ≡ true → Stops rest → starts_with nat_eq (front ++ rest) hex_mark ≡ false
no_hex front rest h s = not_so _ (λ e. at front rest h s (ap second (starts hex_mark (front ++ rest) e)))
  where
    at : (front rest : List ℕ) → is_run is_digit front ≡ true → Stops rest → second (front ++ rest) ≡ 120 → ⊥
    at [] rest h s e = true≢false (sym h)
    at (b ∷ []) [] h s e = omega (arith, e)
    at (b ∷ []) (c ∷ rest) h s e = true≢false (subst (λ (n : ℕ). sticks n ≡ false) e s)
    at (b ∷ c ∷ front) rest h s e =
        true≢false (sym (subst (λ (n : ℕ). is_digit n ≡ true) e (both_hold (is_digit c) _ (both_hold (is_digit b) _ (both_hold (is_digit b) _ h).1).1).0))

no_digit : (rest : List ℕ) → Stops rest → goes_on is_digit rest ≡ false
no_digit [] h = refl
no_digit (b ∷ rest) h = (was_false_last (is_letter b) (is_digit b) (was_false (is_letter_or_digit b) (b == 46) (was_false _ (b == 34) h).0).0)
  where
    was_false_last : (x y : Bool) → (x || y) ≡ false → y ≡ false
    was_false_last x y h = (was_false x y h).1

pub number_piece : (n : ℕ) → n ≤ 2 ^ 31 → Piece (decimal n) (int n ∷ [])
number_piece n h rest ts stop cut =
    let value : number_of (decimal n) ≡ n = number_of-decimal n (omega (arith, h)) in
    let small : nat_le (number_of (decimal n)) 2147483648 ≡ true = grind (arith, nat_tests, value, h) in
    subst (λ (t : Terminal). Cut (decimal n ++ rest) (t ∷ ts)) (ap int value)
    (token k.integer (decimal n) rest ts (and_is _ _ (decimal_run n) small, no_digit rest stop, no_hex (decimal n) rest (decimal_run n) stop) cut)

-- a number with its sign
pub signed_piece : (n : ℤ) → FitsSigned w32 n → Piece (signed_decimal n) (number_said n)
signed_piece (pos n) h = let small : n < 2 ^ 31 = h.sfits in number_piece n (omega (arith, small))
signed_piece (negsuc n) h =
    let small : n < 2 ^ 31 = h.sfits in
    loose_piece (45 ∷ []) (decimal (suc n)) (sign w.dash ∷ []) (int (suc n) ∷ [])
    (lone 45 (is_lone 45 refl refl refl refl refl refl)) (number_piece (suc n) (omega (arith, small)))

pub slot_piece : (slot : ℤ) → FitsSigned w32 slot → Piece (slot_text slot) (slot_said slot)
unfolding slot_text
slot_piece (pos zero) h = word_piece (codes "leaf") refl
slot_piece (negsuc zero) h = word_piece (codes "root") refl
slot_piece (pos (suc n)) h = signed_piece (pos (suc n)) h
slot_piece (negsuc (suc n)) h = signed_piece (negsuc (suc n)) h
