-- The bytes that a string stands for.
use Rattle.std.specs.Prelude.{ℕ, List, drop}
use Rattle.req_grammar.specs.Tokens.{quoted_value}
use Rattle.req_grammar.specs.Terminals.{hex_bytes}
use Rattle.req_tokens.specs.declared.string.Form.{Form}
use Rattle.req_tokens.specs.declared.string.Form.TheVariants.{Bare, Quoted, Hex}
use Rattle.req_tokens.specs.declared.string.StrToken.{StrToken}

-- the bytes that a text stands for in a form
abbrev pub value_in : Form → List ℕ → List ℕ
value_in Bare text = text
value_in Quoted text = quoted_value text
value_in Hex text = hex_bytes (drop 2 text)

-- the bytes that a string's token stands for
abbrev pub str_value : StrToken → List ℕ
str_value string = value_in string.form string.text.now
