-- What is true of each token of a text: where its bytes are, and what the grammar sees of it. This project's own.
use Rattle.std.specs.Prelude.{ℕ, ◌≡◌, ◌≤◌, ◌^◌, List, ◌++◌, length, drop, Some, None}
use Rattle.req_grammar.specs.Words.{Sign, Word, reserved, signs, under}
use Rattle.req_grammar.specs.Tokens as k
use Rattle.req_grammar.specs.Tokens.{IsToken, Kind, Token}
use Rattle.req_grammar.specs.Terminals as t
use Rattle.req_grammar.specs.Terminals.{Terminal, bytes_of, terminal_of}

-- the terminals that tokens of a kind have, by their bytes
pub data FitsKind (bytes : List ℕ) : Kind → Terminal → Type 0 where
  symbol : (s : Sign) → under bytes signs ≡ Some s → FitsKind bytes k.symbol (t.sign s)
  hash : (h : List ℕ) → length h ≡ 20 → FitsKind bytes k.hash (t.hash h)
  hex : (s : List ℕ) → FitsKind bytes k.hex (t.str s)
  integer : (n : ℕ) → n ≤ 2 ^ 31 → FitsKind bytes k.integer (t.int n)
  quoted : (s : List ℕ) → FitsKind bytes k.quoted (t.str s)
  reserved_word : (w : Word) → under bytes reserved ≡ Some w → FitsKind bytes k.word (t.word w)
  free_word : under bytes reserved ≡ None → FitsKind bytes k.word (t.str bytes)

-- the token's bytes stand at its place in the text and are a token there, and its terminal is one of its kind
pub record IsPlaced (text : List ℕ) (token : Token) : Type 0 where
  pub rest : List ℕ
  pub stands : drop token.at text ≡ bytes_of text token ++ rest
  pub is : IsToken token.kind (bytes_of text token) rest
  pub fits : FitsKind (bytes_of text token) token.kind (terminal_of token.kind (bytes_of text token))
