-- Hexadecimal digits are read as the bytes of the definitions.
use Rattle.std.proofs.Common.{◌≡◌, ℕ, suc, ◌+◌, ◌*◌, ◌/◌, ◌%◌, ◌≤◌, true, false, ◌&&◌, ◌||◌, ◌==◌, nat_le, nat_eq, List, [], ◌∷◌, length, take, drop, cond, Option, Some, None, Result, Ok, Err, refl, sym, ap, ◌∙◌, inl, inr, arith}
use Rattle.std.specs.List.{list_all, starts_with}
use Rattle.std.specs.Str.{bytes_eq}
use Rattle.std.specs.Result.{result_ok, result_unwrap_or}
use Rattle.std.proofs.lemmas.Bool.{and_parts, or_cases, eqb-true, leb-true, le-leb, lt-leb}
use Rattle.std.proofs.lemmas.List.{length-drop, length-take}
use Rattle.std.proofs.lemmas.Slice.Eq.{bytes_eq-Decides}
use Rattle.hex.specs.Hex.{◌>>=◌, decode_of, decode_pairs, digit_or_error, hex_digit_value, pair_value}
use Rattle.hex.specs.declared.error.FromHexError.{FromHexError}
use Rattle.hex.specs.declared.error.FromHexError.TheVariants.{OddLength, InvalidStringLength}
use Rattle.req_grammar.specs.Tokens.{goes_on, hash_mark, hex_mark, is_hex_digit, is_hash, is_hex, is_run}
use Rattle.req_grammar.specs.Terminals.{digit_value, hex_bytes}
use Rattle.req_tree.specs.HashWord.{hash_word}
use Rattle.req_tree.specs.NumericOrder.{is_digit}
use Rattle.req_tokens.proofs.FirstBytes.{starts}

value_of-digit : (b : ℕ) → 48 ≤ b → b ≤ 57 → hex_digit_value b ≡ Some (digit_value b)
value_of-digit b low high =
    let p : nat_le 65 b ≡ false = lt-leb 65 b (omega (arith, high)) in
    let q : nat_le 97 b ≡ false = lt-leb 97 b (omega (arith, high)) in
    let r : nat_le 48 b ≡ true = le-leb 48 b low in
    let s : nat_le b 57 ≡ true = le-leb b 57 high in
    simp (p, q, r, s)

value_of-upper : (b : ℕ) → 65 ≤ b → b ≤ 70 → hex_digit_value b ≡ Some (digit_value b)
value_of-upper b low high =
    let p : nat_le 65 b ≡ true = le-leb 65 b low in
    let q : nat_le b 70 ≡ true = le-leb b 70 high in
    let r : nat_le 97 b ≡ false = lt-leb 97 b (omega (arith, high)) in
    let s : nat_le b 57 ≡ false = lt-leb b 57 (omega (arith, low)) in
    let t : nat_le 48 b ≡ true = le-leb 48 b (omega (arith, low)) in
    simp (p, q, r, s, t)

value_of-lower : (b : ℕ) → 97 ≤ b → b ≤ 102 → hex_digit_value b ≡ Some (digit_value b)
value_of-lower b low high =
    let p : nat_le 65 b ≡ true = le-leb 65 b (omega (arith, low)) in
    let q : nat_le b 70 ≡ false = lt-leb b 70 (omega (arith, low)) in
    let r : nat_le 97 b ≡ true = le-leb 97 b low in
    let s : nat_le b 102 ≡ true = le-leb b 102 high in
    let t : nat_le 48 b ≡ true = le-leb 48 b (omega (arith, low)) in
    let u : nat_le b 57 ≡ false = lt-leb b 57 (omega (arith, low)) in
    simp (p, q, r, s, t, u)

digit_is : (b : ℕ) → is_hex_digit b ≡ true → hex_digit_value b ≡ Some (digit_value b)
digit_is b is =
    elim (or_cases (is_digit b || nat_le 65 b && nat_le b 70) (nat_le 97 b && nat_le b 102) is) [
      | inl early ↦
          elim (or_cases (is_digit b) (nat_le 65 b && nat_le b 70) early) [
            | inl digit ↦
                let parts = and_parts (nat_le 48 b) (nat_le b 57) digit in
                value_of-digit b (leb-true 48 b parts.0) (leb-true b 57 parts.1)
            | inr upper ↦
                let parts = and_parts (nat_le 65 b) (nat_le b 70) upper in
                value_of-upper b (leb-true 65 b parts.0) (leb-true b 70 parts.1)
          ]
      | inr lower ↦
          let parts = and_parts (nat_le 97 b) (nat_le b 102) lower in
          value_of-lower b (leb-true 97 b parts.0) (leb-true b 102 parts.1)
    ]

pair_is : (high low i : ℕ) → is_hex_digit high ≡ true → is_hex_digit low ≡ true → pair_value high low i ≡ Ok (16 * digit_value high + digit_value low)
pair_is high low i p q =
    ap (λ (v : Option ℕ). digit_or_error high i v >>= λ (x : ℕ). digit_or_error low (i + 1) (hex_digit_value low) >>= λ (y : ℕ). Ok (x * 16 + y)) (digit_is high p)
    ∙ ap (λ (v : Option ℕ). digit_or_error low (i + 1) v >>= λ (y : ℕ). Ok (digit_value high * 16 + y)) (digit_is low q)
    ∙ ap Ok (let same : digit_value high * 16 + digit_value low ≡ 16 * digit_value high + digit_value low = omega arith in same)

less_two : (n : ℕ) → suc (suc n) % 2 ≡ 0 → n % 2 ≡ 0
less_two n e = omega (arith, e)

-- an even number of digits
pub pairs_are : (i : ℕ) (digits : List ℕ) → list_all is_hex_digit digits ≡ true → length digits % 2 ≡ 0 → decode_pairs i digits ≡ Ok (hex_bytes digits)
unfolding decode_pairs
pairs_are i [] all even = refl
pairs_are i (digit ∷ []) all even = absurd (omega (arith, even))
pairs_are i (high ∷ low ∷ rest) all even =
    let first = and_parts (is_hex_digit high) (is_hex_digit low && list_all is_hex_digit rest) all in
    let second = and_parts (is_hex_digit low) (list_all is_hex_digit rest) first.1 in
    ap (λ (r : Result ℕ FromHexError). r >>= λ (byte : ℕ). decode_pairs (i + 2) rest >>= λ (bytes : List ℕ). Ok (byte ∷ bytes)) (pair_is high low i first.0 second.0)
    ∙ ap (λ (r : Result (List ℕ) FromHexError). r >>= λ (bytes : List ℕ). Ok ((16 * digit_value high + digit_value low) ∷ bytes)) (pairs_are (i + 2) rest second.1 (less_two (length rest) even))

-- the digits of a hash
pub hash_word_is : (digits : List ℕ) → list_all is_hex_digit digits ≡ true → length digits ≡ 40 → hash_word digits ≡ Some (hex_bytes digits)
hash_word_is digits all size =
    ap (λ (n : ℕ). result_ok (cond (n % 2 == 1) (Err OddLength) (cond (n / 2 == 20) (decode_pairs 0 digits) (Err InvalidStringLength)))) size
    ∙ ap result_ok (pairs_are 0 digits all (ap (λ (n : ℕ). n % 2) size))

-- the digits of bytes
pub decode_is : (digits : List ℕ) → list_all is_hex_digit digits ≡ true → length digits % 2 ≡ 0 → decode_of digits ≡ Ok (hex_bytes digits)
decode_is digits all even =
    ap (λ (n : ℕ). cond (n == 1) (Err OddLength) (decode_pairs 0 digits)) even ∙ pairs_are 0 digits all even

-- ---- of whole tokens

pub bytes_of_hex : (text digits items : List ℕ) → is_hex text ≡ true → digits ≡ drop 2 text → decode_of digits ≡ Ok items → items ≡ hex_bytes (drop 2 text)
bytes_of_hex text digits items is digits_are read =
    let even_parts = and_parts (starts_with nat_eq text hex_mark && is_run is_hex_digit (drop 2 text)) (length text % 2 == 0) is in
    let run_parts = and_parts (starts_with nat_eq text hex_mark) (is_run is_hex_digit (drop 2 text)) even_parts.0 in
    let all = and_parts (goes_on is_hex_digit (drop 2 text)) (list_all is_hex_digit (drop 2 text)) run_parts.1 in
    let size : length text ≡ suc (suc (length (drop 2 text))) = ap length (starts hex_mark text run_parts.0) in
    let even : length text % 2 ≡ 0 = eqb-true (length text % 2) 0 even_parts.1 in
    let rest_even : length (drop 2 text) % 2 ≡ 0 = less_two (length (drop 2 text)) (ap (λ (n : ℕ). n % 2) (sym size) ∙ even) in
    ap (λ (r : Result (List ℕ) FromHexError). result_unwrap_or r []) (sym read ∙ ap decode_of digits_are ∙ decode_is (drop 2 text) all.1 rest_even)

hash_digits : (text : List ℕ) → is_hash text ≡ true → hash_word (take 40 (drop 2 text)) ≡ Some (hex_bytes (take 40 (drop 2 text)))
hash_digits text is =
    let end_parts = and_parts (starts_with nat_eq text hash_mark && list_all is_hex_digit (take 40 (drop 2 text))) (bytes_eq (drop 42 text) (34 ∷ [])) is in
    let all = and_parts (starts_with nat_eq text hash_mark) (list_all is_hex_digit (take 40 (drop 2 text))) end_parts.0 in
    let end : drop 42 text ≡ 34 ∷ [] = (bytes_eq-Decides (drop 42 text) (34 ∷ [])).0 end_parts.1 in
    let one : length (drop 42 text) ≡ 1 = ap length end in
    let size : length (take 40 (drop 2 text)) ≡ 40 = omega (arith, one, length-drop 42 text, length-drop 2 text, length-take 40 (drop 2 text)) in
    hash_word_is (take 40 (drop 2 text)) all.1 size

pub bytes_of_hash : (text word bytes : List ℕ) → is_hash text ≡ true → word ≡ take 40 (drop 2 text) → Some bytes ≡ hash_word word → bytes ≡ hex_bytes (take 40 (drop 2 text))
bytes_of_hash text word bytes is word_is read =
    same_some bytes (hex_bytes (take 40 (drop 2 text))) (read ∙ ap hash_word word_is ∙ hash_digits text is)
  where
    same_some : (a b : List ℕ) → Some a ≡ Some b → a ≡ b
    same_some a b e = cc

pub some_hash : (text word : List ℕ) → is_hash text ≡ true → word ≡ take 40 (drop 2 text) → None ≡ hash_word word → ⊥
some_hash text word is word_is read = none_some (hex_bytes (take 40 (drop 2 text))) (read ∙ ap hash_word word_is ∙ hash_digits text is)
  where
    none_some : (a : List ℕ) → None ≡ Some a → ⊥
    none_some a e = cc
