-- What is wrong first with a text that has no tokens, and where: behind its last cut stands a text with no
-- front that is a token, a separator or a comment. This project's own.
use Rattle.std.specs.Prelude.{ℕ, ◌≡◌, ◌≢◌, ◌<◌, ◌+◌, ◌^◌, Bool, true, false, not, ◌&&◌, ◌||◌, ◌==◌, nat_eq, List, [], ◌∷◌, ◌++◌, length, take, flat_map, codes}
use Rattle.std.specs.List.{list_all, starts_with}
use Rattle.req_tree.specs.NumericOrder.{is_digit, number_of}
use Rattle.req_tree.specs.Meaning.{has_part}
use Rattle.req_grammar.specs.Sorts.{is_blank}
use Rattle.req_grammar.specs.Tokens.{IsGap, IsToken, Kind, escaped, goes_on, hash_mark, hex_mark, is_hash, is_hex, is_letter_or_digit, is_run, is_symbol}

-- a byte that begins nothing or a stray backslash, a string or comment without an end, digits that are no bytes in
-- hexadecimal, an integer over 2^31
pub data TokenFault : Type 0 where
  bad_byte : TokenFault
  open_string : TokenFault
  open_comment : TokenFault
  bad_hex : TokenFault
  int_too_large : TokenFault

-- the quote "
abbrev pub is_quote : ℕ → Bool
is_quote b = b == 34

-- some quote in the bytes follows no backslash; the byte before them is given
abbrev pub has_end : ℕ → List ℕ → Bool
has_end before [] = false
has_end before (b ∷ rest) = is_quote b && not (before == 92) || has_end b rest

-- the text begins as a token, a separator or a comment does
abbrev pub begins : List ℕ → Bool
begins text =
    goes_on is_letter_or_digit text || goes_on is_quote text || is_symbol (take 1 text)
    || goes_on is_blank text
    || starts_with nat_eq text (codes "/*") || starts_with nat_eq text (codes "//") || starts_with nat_eq text (codes "#")

-- what is wrong at the front of a text, and how many bytes behind its first
pub data Stops (text : List ℕ) : TokenFault → ℕ → Type 0 where
  -- the first byte begins nothing
  other : text ≢ [] → begins text ≡ false → Stops text bad_byte 0
  -- /* and no */ behind it
  comment : (inside : List ℕ) → text ≡ codes "/*" ++ inside → has_part inside (codes "*/") ≡ false → Stops text open_comment 0
  -- H" and no quote behind it
  hash_open : (inside : List ℕ) → text ≡ hash_mark ++ inside → list_all (λ b. not (is_quote b)) inside ≡ true → Stops text open_string 0
  -- H", and up to the next quote no 40 hexadecimal digits
  hash_digits : (inside rest : List ℕ) → text ≡ hash_mark ++ inside ++ 34 ∷ rest → list_all (λ b. not (is_quote b)) inside ≡ true
      → is_hash (hash_mark ++ inside ++ 34 ∷ []) ≡ false → Stops text bad_hex 0
  -- 0x, and then letters and digits that are no bytes in hexadecimal
  hex_digits : (run rest : List ℕ) → text ≡ hex_mark ++ run ++ rest → list_all is_letter_or_digit run ≡ true
      → goes_on is_letter_or_digit rest ≡ false → is_hex (hex_mark ++ run) ≡ false → Stops text bad_hex 0
  -- digits whose number is too large
  large : (run rest : List ℕ) → text ≡ run ++ rest → starts_with nat_eq text hex_mark ≡ false → is_run is_digit run ≡ true → goes_on is_digit rest ≡ false
      → 2 ^ 31 < number_of run → Stops text int_too_large 0
  -- a quote without an end
  quoted_open : (inside : List ℕ) → text ≡ 34 ∷ inside → has_end 34 inside ≡ false → Stops text open_string 0
  -- a quote with an end, and before that a backslash with no quote behind it, the first such one
  backslash : (value rest : List ℕ) → text ≡ 34 ∷ flat_map escaped value ++ 92 ∷ rest → list_all (λ b. not (b == 92)) value ≡ true
      → goes_on is_quote rest ≡ false → has_end 92 rest ≡ true → Stops text bad_byte (1 + length (flat_map escaped value))

-- the first fault of a text that begins at a place, and the place of the fault: it stands at the front, or
-- it is that of what follows a front that is dropped or is a token
pub data FirstFault : ℕ → List ℕ → TokenFault → ℕ → Type 0 where
  here : (at n : ℕ) (text : List ℕ) (fault : TokenFault) → Stops text fault n → FirstFault at text fault (at + n)
  behind_gap : (at place : ℕ) (text front rest : List ℕ) (fault : TokenFault) → text ≡ front ++ rest → IsGap front rest
      → FirstFault (at + length front) rest fault place → FirstFault at text fault place
  behind_token : (at place : ℕ) (text front rest : List ℕ) (fault : TokenFault) (kind : Kind) → text ≡ front ++ rest
      → IsToken kind front rest → FirstFault (at + length front) rest fault place → FirstFault at text fault place
