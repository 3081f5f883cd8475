-- What the text of a string's token is known to be.
use Rattle.std.specs.Prelude.{ℕ, Bool, true, List}
use Rattle.req_grammar.specs.Tokens.{is_hex}
use Rattle.req_tokens.specs.declared.string.Form.{Form}
use Rattle.req_tokens.specs.declared.string.Form.TheVariants.{Bare, Quoted, Hex}

-- what is known of a text in a form: of hex, that it is a hex string; of the others, nothing
abbrev pub is_form : Form → List ℕ → Bool
is_form Bare text = true
is_form Quoted text = true
is_form Hex text = is_hex text
