-- The program's tokens as those of the definitions.
use Rattle.std.specs.Prelude.{List, map}
use Rattle.req_grammar.specs.Tokens as k
use Rattle.req_tokens.specs.declared.token.TokenKind.{TokenKind}
use Rattle.req_tokens.specs.declared.token.TokenKind.TheVariants.{Symbol, Hash, Hex, Integer, Quoted, Word}
use Rattle.req_tokens.specs.declared.token.Token.{Token}

-- the definitions' kind of a token for the program's
abbrev pub kind_of : TokenKind → k.Kind
kind_of Symbol = k.symbol
kind_of Hash = k.hash
kind_of Hex = k.hex
kind_of Integer = k.integer
kind_of Quoted = k.quoted
kind_of Word = k.word

-- the definitions' token for the program's
abbrev pub token_of : Token → k.Token
token_of token = record { kind = kind_of token.kind; at = token.at; length = token.length }

-- the definitions' tokens for the program's, in order
abbrev pub tokens_of : List Token → List k.Token
tokens_of tokens = map token_of tokens
