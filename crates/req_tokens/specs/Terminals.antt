-- The program's terminals as those of the definitions.
use Rattle.std.specs.Prelude.{ℕ, ◌≡◌, Bool, true, List, map, Option, Some, None}
use Rattle.req_grammar.specs.Tokens as k
use Rattle.req_grammar.specs.Readings.{HasTokens}
use Rattle.req_grammar.specs.Tokens.{Kind, Token, is_hash, is_hex, is_integer}
use Rattle.req_grammar.specs.Terminals as g
use Rattle.req_tokens.specs.Words.{plain_sign, plain_word}
use Rattle.req_tokens.specs.Strings.{str_value}
use Rattle.req_tokens.specs.declared.terminal.Terminal.{Terminal}
use Rattle.req_tokens.specs.declared.terminal.Terminal.TheVariants.{Sign, Word, Str, Hash, Int}

-- the definitions' terminal for the program's
abbrev pub plain : Terminal → g.Terminal
plain (Sign sign) = g.sign (plain_sign sign)
plain (Word word) = g.word (plain_word word)
plain (Str string) = g.str (str_value string)
plain (Hash hash) = g.hash hash.bytes
plain (Int number) = g.int number

-- the definitions' terminals for the program's, in order
abbrev pub plains : List Terminal → List g.Terminal
plains terminals = map plain terminals

-- the terminals are those of the text's tokens
pub record AreTerminals (text : List ℕ) (list : List g.Terminal) : Type 0 where
  pub tokens : List Token
  pub cut : HasTokens text tokens
  pub are : list ≡ g.terminals text tokens

-- what the terminal of a token needs to know of its text
abbrev pub is_kind : Kind → List ℕ → Bool
is_kind k.hash text = is_hash text
is_kind k.hex text = is_hex text
is_kind k.integer text = is_integer text
is_kind other text = true

-- what is_kind asks, where there is a kind; of what is dropped nothing needs to be known
abbrev pub is_kind_in : Option Kind → List ℕ → Bool
is_kind_in None text = true
is_kind_in (Some kind) text = is_kind kind text
