-- The program's sorts as those of the definitions, and what is added to the tokens for each.
use Rattle.std.specs.Prelude.{ℕ, List, [], ◌∷◌, Option, Some, None}
use Rattle.req_grammar.specs.Tokens as k
use Rattle.req_grammar.specs.Tokens.{Kind, Token}
use Rattle.req_grammar.specs.Terminals.{Terminal, terminal_of}
use Rattle.req_grammar.specs.Sorts as g
use Rattle.req_tokens.specs.declared.sort.Sort.{Sort}
use Rattle.req_tokens.specs.declared.sort.Sort.TheVariants.{Hash, Hex, Integer, Word, Quoted, Symbol, Blank, Block, Line}

-- the definitions' sort for the program's
abbrev pub plain_sort : Sort → g.Sort
plain_sort Hash = g.hash
plain_sort Hex = g.hex
plain_sort Integer = g.integer
plain_sort Word = g.word
plain_sort Quoted = g.quoted
plain_sort Symbol = g.symbol
plain_sort Blank = g.blank
plain_sort Block = g.block
plain_sort Line = g.line

-- the kind of the token; none for what is dropped
abbrev pub kind_in : g.Sort → Option Kind
kind_in g.hash = Some k.hash
kind_in g.hex = Some k.hex
kind_in g.integer = Some k.integer
kind_in g.word = Some k.word
kind_in g.quoted = Some k.quoted
kind_in g.symbol = Some k.symbol
kind_in g.blank = None
kind_in g.block = None
kind_in g.line = None

-- the token that is added, if one is
abbrev pub added : Option Kind → ℕ → ℕ → List Token
added None at length = []
added (Some kind) at length = record { kind = kind; at = at; length = length } ∷ []

-- the terminal that is added, if one is
abbrev pub added_terminal : Option Kind → List ℕ → List Terminal
added_terminal None text = []
added_terminal (Some kind) text = terminal_of kind text ∷ []
