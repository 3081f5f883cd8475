-- The bytes of a word's text are read back from it.
use Rattle.std.proofs.Common.{◌≡◌, ℕ, ◌+◌, ◌*◌, ◌/◌, ◌%◌, ◌<◌, ◌==◌, Bool, true, false, List, [], ◌∷◌, ◌++◌, All, Some, None, Ok, if◌then◌else◌, codes, refl, sym, ap, ◌∙◌, arith}
use Rattle.std.specs.Str.{bytes_eq}
use Rattle.std.specs.List.{flat_map}
use Rattle.std.specs.Result.{result_ok}
use Rattle.std.proofs.lemmas.Bool.Decides.{nat_tests}
use Rattle.std.proofs.lemmas.Slice.Eq.{bytes_eq-Decides}
use Rattle.std.proofs.lemmas.List.Elements.{All-head, All-tail}
use Rattle.hex.specs.Hex.{hex_digit_value, digit_or_error, value_at, pair_value, decode_pairs}
use Rattle.hex.proofs.Pairs.{decode_pairs-ok_pair}
use Rattle.line_text.specs.WordText.{hex_digit, is_plain, byte_text, word_text}
use Rattle.line_model.specs.WordTexts.{is_itself, itself, pair_byte, joined, bytes_in, pair_in, bytes_of_word}

abbrev pub IsByte : ℕ → Type 0
IsByte b = b < 256

digit_back : (n : ℕ) → n < 16 → hex_digit_value (hex_digit n) ≡ Some n
digit_back n h = grind (arith, nat_tests)

pair_back : (b : ℕ) → b < 256 → pair_byte (hex_digit (b / 16)) (hex_digit (b % 16)) ≡ Some (b ∷ [])
unfolding decode_pairs
pair_back b h =
    let high : b / 16 < 16 = omega arith in
    let low : b % 16 < 16 = omega arith in
    let whole : b / 16 * 16 + b % 16 ≡ b = omega arith in
    let ha : value_at (hex_digit (b / 16)) 0 ≡ Ok (b / 16) = ap (digit_or_error (hex_digit (b / 16)) 0) (digit_back (b / 16) high) in
    let hb : value_at (hex_digit (b % 16)) 1 ≡ Ok (b % 16) = ap (digit_or_error (hex_digit (b % 16)) 1) (digit_back (b % 16) low) in
    let pair : pair_value (hex_digit (b / 16)) (hex_digit (b % 16)) 0 ≡ Ok (b / 16 * 16 + b % 16) = rw (ha, hb) refl in
    ap result_ok (decode_pairs-ok_pair 0 (hex_digit (b / 16)) (hex_digit (b % 16)) (b / 16 * 16 + b % 16) [] pair) ∙ ap (λ v. Some (v ∷ [])) whole

-- a byte's text, and what stands behind it
byte_back : (b : ℕ) (behind bytes : List ℕ) → b < 256 → bytes_in behind ≡ Some bytes → bytes_in (byte_text b ++ behind) ≡ Some (b ∷ bytes)
byte_back b behind bytes h rest = by_case (is_plain b) refl
  where
    not_percent : is_plain b ≡ true → (b == 37) ≡ false
    not_percent p = grind (arith, nat_tests, p)

    is_plain_itself : is_plain b ≡ true → is_itself b ≡ true
    is_plain_itself p = grind (arith, nat_tests, p)

    plain : is_plain b ≡ true → bytes_in (b ∷ behind) ≡ Some (b ∷ bytes)
    plain p =
        ap (λ (c : Bool). if c then pair_in behind else joined (itself b) (bytes_in behind)) (not_percent p)
        ∙ ap (λ (c : Bool). joined (if c then Some (b ∷ []) else None) (bytes_in behind)) (is_plain_itself p)
        ∙ ap (joined (Some (b ∷ []))) rest

    by_case : (plain : Bool) → is_plain b ≡ plain → bytes_in ((if plain then b ∷ [] else 37 ∷ hex_digit (b / 16) ∷ hex_digit (b % 16) ∷ []) ++ behind) ≡ Some (b ∷ bytes)
    by_case true p = plain p
    by_case false p = ap (λ o. joined o (bytes_in behind)) (pair_back b h) ∙ ap (joined (Some (b ∷ []))) rest

bytes_back : (bytes : List ℕ) → All IsByte bytes → bytes_in (flat_map byte_text bytes) ≡ Some bytes
bytes_back [] h = refl
bytes_back (b ∷ rest) h = byte_back b (flat_map byte_text rest) rest (All-head IsByte b rest h) (bytes_back rest (All-tail IsByte b rest h))

-- a text of other bytes than none and than one dash is no dash and not empty
plain_word : (text bytes : List ℕ) → bytes_in text ≡ Some bytes → bytes_eq bytes [] ≡ false → bytes_eq bytes (codes "-") ≡ false → bytes_of_word text ≡ Some bytes
plain_word text bytes is some no_dash = by_cases (bytes_eq text []) (bytes_eq text (codes "-")) refl refl
  where
    same : (other : List ℕ) → bytes_eq text other ≡ true → bytes_in other ≡ Some bytes
    same other e = ap bytes_in (sym ((bytes_eq-Decides text other).0 e)) ∙ is

    differs : (other : List ℕ) → bytes_eq bytes other ≡ false → Some other ≡ Some bytes → ⊥
    differs other apart e =
        let is : bytes ≡ other = cc in
        let yes : bytes_eq bytes other ≡ true = (bytes_eq-Decides bytes other).1 is in
        cc

    by_cases : (none dash : Bool) → bytes_eq text [] ≡ none → bytes_eq text (codes "-") ≡ dash → (if none then None else if dash then Some [] else bytes_in text) ≡ Some bytes
    by_cases true dash e f = absurd (differs [] some (same [] e))
    by_cases false true e f = absurd (differs (codes "-") no_dash (same (codes "-") f))
    by_cases false false e f = is

pub word_back : (bytes : List ℕ) → All IsByte bytes → bytes_of_word (word_text bytes) ≡ Some bytes
unfolding decode_pairs
word_back bytes h = by_case (bytes_eq bytes []) (bytes_eq bytes (45 ∷ [])) refl refl
  where
    by_case : (none dash : Bool) → bytes_eq bytes [] ≡ none → bytes_eq bytes (45 ∷ []) ≡ dash
        → bytes_of_word (if none then 45 ∷ [] else (if dash then 37 ∷ 50 ∷ 68 ∷ [] else flat_map byte_text bytes)) ≡ Some bytes
    by_case true dash e f = ap Some (sym ((bytes_eq-Decides bytes []).0 e))
    by_case false true e f = ap Some (sym ((bytes_eq-Decides bytes (45 ∷ [])).0 f))
    by_case false false e f = plain_word (flat_map byte_text bytes) bytes (bytes_back bytes h) e f
