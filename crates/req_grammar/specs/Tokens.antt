-- Requirement text cut into tokens. This project's own, after Apple's Code Signing Requirement Language.
use Rattle.std.specs.Prelude.{ℕ, ◌≡◌, ◌≢◌, ◌+◌, ◌-◌, ◌%◌, Bool, true, false, not, ◌&&◌, ◌||◌, ◌==◌, ◌⊎◌, nat_le, nat_eq, List, [], ◌∷◌, ◌++◌, length, take, drop, filter, flat_map, is_some, if◌then◌else◌, codes}
use Rattle.std.specs.List.{list_all, starts_with, slice_split}
use Rattle.std.specs.Str.{bytes_eq}
use Rattle.req_tree.specs.NumericOrder.{is_digit, number_of}
use Rattle.req_tree.specs.Meaning.{has_part}
use Rattle.req_grammar.specs.Words.{signs, under}

-- the six forms of a token
pub data Kind : Type 0 where
  symbol : Kind
  hash : Kind
  hex : Kind
  integer : Kind
  quoted : Kind
  word : Kind

-- a token: its kind, the place of its first byte, and how many bytes it has
pub record Token : Type 0 where
  pub kind : Kind
  pub at : ℕ
  pub length : ℕ

-- A to Z and a to z
abbrev pub is_letter : ℕ → Bool
is_letter b = nat_le 65 b && nat_le b 90 || nat_le 97 b && nat_le b 122

-- A to Z, a to z and 0 to 9
abbrev pub is_letter_or_digit : ℕ → Bool
is_letter_or_digit b = is_letter b || is_digit b

-- 0 to 9, A to F and a to f
abbrev pub is_hex_digit : ℕ → Bool
is_hex_digit b = is_digit b || nat_le 65 b && nat_le b 70 || nat_le 97 b && nat_le b 102

-- the text goes on with a byte of this sort
abbrev pub goes_on : (ℕ → Bool) → List ℕ → Bool
goes_on sort [] = false
goes_on sort (b ∷ rest) = sort b

-- one or more bytes of this sort, and no others
abbrev pub is_run : (ℕ → Bool) → List ℕ → Bool
is_run sort text = goes_on sort text && list_all sort text

-- H"
abbrev pub hash_mark : List ℕ
hash_mark = codes "H" ++ 34 ∷ []

-- 0x
abbrev pub hex_mark : List ℕ
hex_mark = codes "0x"

-- H", 40 hexadecimal digits and "
abbrev pub is_hash : List ℕ → Bool
is_hash text = starts_with nat_eq text hash_mark && list_all is_hex_digit (take 40 (drop 2 text)) && bytes_eq (drop 42 text) (34 ∷ [])

-- 0x and an even number of hexadecimal digits, at least two
abbrev pub is_hex : List ℕ → Bool
is_hex text = starts_with nat_eq text hex_mark && is_run is_hex_digit (drop 2 text) && length text % 2 == 0

-- digits of value at most 2^31
abbrev pub is_integer : List ℕ → Bool
is_integer text = is_run is_digit text && nat_le (number_of text) 2147483648

-- one of the fourteen symbols
abbrev pub is_symbol : List ℕ → Bool
is_symbol text = is_some (under text signs)

-- a letter first, and letters and digits between the dots
abbrev pub is_word : List ℕ → Bool
is_word text = goes_on is_letter text && list_all (is_run is_letter_or_digit) (slice_split (λ b. b == 46) text)

-- the bytes between the quotes, without the backslashes
abbrev pub quoted_value : List ℕ → List ℕ
quoted_value text = filter (λ b. not (b == 92)) (take (length text - 2) (drop 1 text))

-- a byte between quotes: a quote has a backslash before it
abbrev pub escaped : ℕ → List ℕ
escaped b = if b == 34 then 92 ∷ 34 ∷ [] else b ∷ []

-- bytes, none of them a backslash, between quotes
abbrev pub quoted_text : List ℕ → List ℕ
quoted_text value = 34 ∷ flat_map escaped value ++ 34 ∷ []

-- the text that its own value has between quotes
abbrev pub is_quoted : List ℕ → Bool
is_quoted text = bytes_eq (quoted_text (quoted_value text)) text

-- a symbol, a quoted text or a word: the forms among which the longest is taken
abbrev pub is_plain : List ℕ → Bool
is_plain text = is_symbol text || is_quoted text || is_word text

-- the front is of a form, and no longer front of the text is of any
abbrev pub IsLongest : (List ℕ → Bool) → List ℕ → List ℕ → Type 0
IsLongest form front rest = (form front ≡ true) × ((more others : List ℕ) → rest ≡ more ++ others → more ≢ [] → is_plain (front ++ more) ≡ false)

-- the text begins with H" or a digit, for which the longest token isn't asked
abbrev pub is_marked : List ℕ → Bool
is_marked text = starts_with nat_eq text hash_mark || goes_on is_digit text

-- the front of a text is its first token
abbrev pub IsToken : Kind → List ℕ → List ℕ → Type 0
IsToken hash front rest = is_hash front ≡ true
IsToken hex front rest = (is_hex front ≡ true) × (goes_on is_letter_or_digit rest ≡ false)
IsToken integer front rest = (is_integer front ≡ true) × (goes_on is_digit rest ≡ false) × (starts_with nat_eq (front ++ rest) hex_mark ≡ false)
IsToken symbol front rest = (is_marked (front ++ rest) ≡ false) × IsLongest is_symbol front rest
IsToken quoted front rest = (is_marked (front ++ rest) ≡ false) × IsLongest is_quoted front rest
IsToken word front rest = (is_marked (front ++ rest) ≡ false) × IsLongest is_word front rest

-- one space, tab, LF or CR
abbrev pub IsBlank : List ℕ → Type 0
IsBlank front = (b : ℕ) × (front ≡ b ∷ []) × ((b == 32 || b == 9 || b == 10 || b == 13) ≡ true)

-- /* and what follows, up to the next */
abbrev pub IsBlock : List ℕ → Type 0
IsBlock front = (inside : List ℕ) × (front ≡ codes "/*" ++ inside ++ codes "*/") × (has_part (inside ++ codes "*") (codes "*/") ≡ false)

-- // or #, and what follows up to a LF or the end
abbrev pub IsLine : List ℕ → List ℕ → Type 0
IsLine front rest =
    ((starts_with nat_eq front (codes "//") || starts_with nat_eq front (codes "#")) ≡ true)
    × (list_all (λ b. not (b == 10)) front ≡ true) × (goes_on (λ b. not (b == 10)) rest ≡ false)

-- the front of a text is dropped: a separator or a comment
abbrev pub IsGap : List ℕ → List ℕ → Type 0
IsGap front rest = IsBlank front ⊎ IsBlock front ⊎ IsLine front rest

-- the tokens of a text that begins at a place: there are no bytes; or its front is dropped, or is a
-- token, and then come the tokens of the rest
pub data Tokens : ℕ → List ℕ → List Token → Type 0 where
  none : (at : ℕ) → Tokens at [] []
  dropped : (at : ℕ) (text front rest : List ℕ) (tokens : List Token) → text ≡ front ++ rest → IsGap front rest
      → Tokens (at + length front) rest tokens → Tokens at text tokens
  one : (at : ℕ) (text front rest : List ℕ) (tokens : List Token) (kind : Kind) → text ≡ front ++ rest → IsToken kind front rest
      → Tokens (at + length front) rest tokens → Tokens at text (record { kind = kind; at = at; length = length front } ∷ tokens)
