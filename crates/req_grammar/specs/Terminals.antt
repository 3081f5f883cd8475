-- What the grammar sees of a token: a symbol, a reserved word, the bytes of a string or a hash, a number.
-- This project's own.
use Rattle.std.specs.Prelude.{ℕ, ◌+◌, ◌-◌, ◌*◌, nat_le, List, [], ◌∷◌, take, drop, map, Option, Some, None, if◌then◌else◌}
use Rattle.req_tree.specs.NumericOrder.{is_digit, number_of}
use Rattle.req_grammar.specs.Words.{Sign, Word, signs, reserved, under}
use Rattle.req_grammar.specs.Tokens as k
use Rattle.req_grammar.specs.Tokens.{Kind, Token, quoted_value}

-- a symbol, a reserved word, a string, a hash or a number
pub data Terminal : Type 0 where
  sign : Sign → Terminal
  word : Word → Terminal
  str : List ℕ → Terminal
  hash : List ℕ → Terminal
  int : ℕ → Terminal

-- the value of a hexadecimal digit, in either case
abbrev pub digit_value : ℕ → ℕ
digit_value b = if is_digit b then b - 48 else if nat_le 97 b then b - 87 else b - 55

-- two digits a byte, the high four bits first
abbrev pub hex_bytes : List ℕ → List ℕ
hex_bytes (high ∷ low ∷ rest) = (16 * digit_value high + digit_value low) ∷ hex_bytes rest
hex_bytes rest = []

-- a symbol, or a string where the text is none
abbrev pub sign_or : List ℕ → Option Sign → Terminal
sign_or text (Some s) = sign s
sign_or text None = str text

-- a reserved word, or else a string
abbrev pub word_or : List ℕ → Option Word → Terminal
word_or text (Some w) = word w
word_or text None = str text

-- a token's terminal, by its kind and its text
abbrev pub terminal_of : Kind → List ℕ → Terminal
terminal_of k.symbol text = sign_or text (under text signs)
terminal_of k.hash text = hash (hex_bytes (take 40 (drop 2 text)))
terminal_of k.hex text = str (hex_bytes (drop 2 text))
terminal_of k.integer text = int (number_of text)
terminal_of k.quoted text = str (quoted_value text)
terminal_of k.word text = word_or text (under text reserved)

-- the bytes of a token of the text
abbrev pub bytes_of : List ℕ → Token → List ℕ
bytes_of text token = take token.length (drop token.at text)

-- one terminal for each token, so that a place in one list is the same place in the other
abbrev pub terminals : List ℕ → List Token → List Terminal
terminals text tokens = map (λ (token : Token). terminal_of token.kind (bytes_of text token)) tokens
