-- The bytes that a word of bytes stands for are bytes.
use Rattle.std.proofs.Common.{◌≡◌, ℕ, ◌+◌, ◌*◌, ◌-◌, ◌<◌, ◌≤◌, ◌==◌, List, [], ◌∷◌, ◌++◌, length, Bool, true, false, ◌&&◌, nat_le, Option, Some, None, Ok, if◌then◌else◌, codes, refl, ap, subst, arith}
use Rattle.std.specs.Str.{bytes_eq}
use Rattle.std.specs.Result.{result_ok}
use Rattle.std.proofs.lemmas.Bool.Decides.{nat_tests}
use Rattle.std.proofs.lemmas.List.Elements.{All-nil, All-cons, All-head, All-tail, All-append}
use Rattle.hex.specs.Hex.{hex_digit_value, digit_or_error, decode_pairs, ◌>>=◌}
use Rattle.line_model.specs.WordTexts.{is_itself, itself, pair_byte, joined, bytes_in, pair_in, bytes_of_word, only}
use Rattle.line_model.specs.Words.{label_word, name_word}
use Rattle.policy_model.specs.declared.limits.TheConstants.{MOST_LABEL_BYTES}
use Rattle.line_laws.specs.Limits.{AreBytes, IsLabel, IsName}
use Rattle.policy_model.specs.Contents.{by_label}
use Rattle.asked_edits.proofs.Readings.{some_is, not_some, tested}

abbrev IsByte : ℕ → Type 0
IsByte b = b < 256

one_byte : (b : ℕ) → b < 256 → AreBytes (b ∷ [])
one_byte b h = All-cons IsByte b [] h (All-nil IsByte)

-- a digit is below 16
upper : (c : ℕ) → (nat_le 65 c && nat_le c 70) ≡ true → c - 55 < 16
upper c h = grind (arith, nat_tests, h)

lower : (c : ℕ) → (nat_le 97 c && nat_le c 102) ≡ true → c - 87 < 16
lower c h = grind (arith, nat_tests, h)

decimal : (c : ℕ) → (nat_le 48 c && nat_le c 57) ≡ true → c - 48 < 16
decimal c h = grind (arith, nat_tests, h)

one_of_these : (a b c : Bool) (x y z v : ℕ) → (if a then Some x else if b then Some y else if c then Some z else None) ≡ Some v
    → (a ≡ true → x < 16) → (b ≡ true → y < 16) → (c ≡ true → z < 16) → v < 16
one_of_these true b c x y z v e h k l = subst (λ n. n < 16) (some_is x v e) (h refl)
one_of_these false true c x y z v e h k l = subst (λ n. n < 16) (some_is y v e) (k refl)
one_of_these false false true x y z v e h k l = subst (λ n. n < 16) (some_is z v e) (l refl)
one_of_these false false false x y z v e h k l = absurd (not_some v e)

digit_below : (c v : ℕ) → hex_digit_value c ≡ Some v → v < 16
digit_below c v e = one_of_these _ _ _ (c - 55) (c - 87) (c - 48) v e (upper c) (lower c) (decimal c)

-- the byte of two digits
pair_bytes : (high low : ℕ) (bytes : List ℕ) → pair_byte high low ≡ Some bytes → AreBytes bytes
unfolding decode_pairs
pair_bytes high low bytes e = by_digits (hex_digit_value high) (hex_digit_value low) refl refl e
  where
    by_digits : (h l : Option ℕ) → hex_digit_value high ≡ h → hex_digit_value low ≡ l
        → result_ok ((digit_or_error high 0 h >>= (λ a. digit_or_error low 1 l >>= (λ b. Ok (a * 16 + b)))) >>= (λ byte. Ok [] >>= (λ more. Ok (byte ∷ more)))) ≡ Some bytes → AreBytes bytes
    by_digits (Some a) (Some b) eh el e =
        let ha = digit_below high a eh in
        let lb = digit_below low b el in
        subst AreBytes (some_is ((a * 16 + b) ∷ []) bytes e) (one_byte (a * 16 + b) (omega (arith, ha, lb)))
    by_digits None l eh el e = absurd (not_some bytes e)
    by_digits (Some a) None eh el e = absurd (not_some bytes e)

itself_bytes : (b : ℕ) (bytes : List ℕ) → b < 256 → itself b ≡ Some bytes → AreBytes bytes
itself_bytes b bytes h e = subst AreBytes (tested (is_itself b) (b ∷ []) bytes e).1 (one_byte b h)

joined_bytes : (a b : Option (List ℕ)) (bytes : List ℕ) → joined a b ≡ Some bytes → ((x : List ℕ) → a ≡ Some x → AreBytes x) → ((y : List ℕ) → b ≡ Some y → AreBytes y) → AreBytes bytes
joined_bytes (Some x) (Some y) bytes e h k = subst AreBytes (some_is (x ++ y) bytes e) (All-append IsByte x y (h x refl) (k y refl))
joined_bytes None b bytes e h k = absurd (not_some bytes e)
joined_bytes (Some x) None bytes e h k = absurd (not_some bytes e)

-- of two ways to go on, the one that was taken
either_way : (test : Bool) (a b : Option (List ℕ)) (bytes : List ℕ) → (if test then a else b) ≡ Some bytes → (a ≡ Some bytes → AreBytes bytes) → (b ≡ Some bytes → AreBytes bytes) → AreBytes bytes
either_way true a b bytes e h k = h e
either_way false a b bytes e h k = k e

mutual
  text_bytes : (text bytes : List ℕ) → AreBytes text → bytes_in text ≡ Some bytes → AreBytes bytes
  text_bytes [] bytes h e = subst AreBytes (some_is [] bytes e) (All-nil IsByte)
  text_bytes (b ∷ rest) bytes h e =
      either_way (b == 37) (pair_in rest) (joined (itself b) (bytes_in rest)) bytes e
      (λ pair. behind_sign rest bytes (All-tail IsByte b rest h) pair)
      (λ plain. joined_bytes (itself b) (bytes_in rest) bytes plain (λ x is. itself_bytes b x (All-head IsByte b rest h) is) (λ y is. text_bytes rest y (All-tail IsByte b rest h) is))

  behind_sign : (text bytes : List ℕ) → AreBytes text → pair_in text ≡ Some bytes → AreBytes bytes
  behind_sign [] bytes h e = absurd (not_some bytes e)
  behind_sign (high ∷ []) bytes h e = absurd (not_some bytes e)
  behind_sign (high ∷ low ∷ rest) bytes h e =
      joined_bytes (pair_byte high low) (bytes_in rest) bytes e (λ x is. pair_bytes high low x is)
      (λ y is. text_bytes rest y (All-tail IsByte low rest (All-tail IsByte high (low ∷ rest) h)) is)

word_stands_for_bytes : (word bytes : List ℕ) → AreBytes word → bytes_of_word word ≡ Some bytes → AreBytes bytes
word_stands_for_bytes word bytes h e =
    either_way (bytes_eq word []) None (if bytes_eq word (codes "-") then Some [] else bytes_in word) bytes e
    (λ none. absurd (not_some bytes none))
    (λ more. either_way (bytes_eq word (codes "-")) (Some []) (bytes_in word) bytes more
    (λ is. subst AreBytes (some_is [] bytes is) (All-nil IsByte))
    (λ text. text_bytes word bytes h text))

-- bytes that were looked at and hold
held : (holds : List ℕ → Bool) (o : Option (List ℕ)) (bytes : List ℕ) → only holds o ≡ Some bytes → (o ≡ Some bytes) × (holds bytes ≡ true)
held holds None bytes e = absurd (not_some bytes e)
held holds (Some text) bytes e =
    let is = tested (holds text) text bytes e in
    (ap Some is.1, subst (λ t. holds t ≡ true) is.1 is.0)

few_bytes : (bytes : List ℕ) → nat_le (length bytes) MOST_LABEL_BYTES ≡ true → length bytes ≤ MOST_LABEL_BYTES
few_bytes bytes h = grind (arith, nat_tests, h)

-- what a word of bytes reads as is a label
pub label_fits : (word label : List ℕ) → AreBytes word → label_word word ≡ Some label → IsLabel label
label_fits word label h e =
    let is = held (λ text. nat_le (length text) MOST_LABEL_BYTES) (bytes_of_word word) label e in
    record { bytes = word_stands_for_bytes word label h is.0; few = few_bytes label is.1 }

not_empty : (bytes : List ℕ) → nat_le 1 (length bytes) ≡ true → bytes ≡ [] → ⊥
not_empty bytes h e = let none : nat_le 1 (length {A = ℕ} []) ≡ true = subst (λ l. nat_le 1 (length l) ≡ true) e h in cc

-- and as the name of rules, one that isn't empty
pub name_fits : (word label : List ℕ) → AreBytes word → name_word word ≡ Some label → IsName (by_label label)
name_fits word label h e =
    let is = held (λ bytes. nat_le 1 (length bytes)) (label_word word) label e in
    (not_empty label is.1, label_fits word label h is.0)
