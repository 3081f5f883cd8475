-- How far the front of a text goes: up to the first byte that ends it, which is told by that byte and what follows
-- it. This project's own.
use Rattle.std.specs.Prelude.{ℕ, suc, Bool, not, ◌&&◌, ◌==◌, nat_eq, if◌then◌else◌, List, [], ◌∷◌, take, drop, codes}
use Rattle.std.specs.List.{starts_with}
use Rattle.req_tree.specs.NumericOrder.{is_digit}
use Rattle.req_grammar.specs.Tokens.{goes_on, is_letter_or_digit}
use Rattle.req_grammar.specs.TokenFaults.{is_quote}
use Rattle.req_tokens.specs.declared.reach.End.{End}
use Rattle.req_tokens.specs.declared.reach.End.TheVariants.{Digits, Run, Word, Hash, Quoted, Escapes, Block, Line}

-- a dot with a letter or a digit behind it
abbrev pub is_dot_in_word : ℕ → List ℕ → Bool
is_dot_in_word b rest = b == 46 && goes_on is_letter_or_digit rest

-- the byte, with what follows it, is beyond the front
abbrev pub ends : End → ℕ → List ℕ → Bool
ends Digits b rest = not (is_digit b)
ends Run b rest = not (is_letter_or_digit b)
ends Word b rest = not (is_letter_or_digit b) && not (is_dot_in_word b rest)
ends Hash b rest = is_quote b
ends Quoted b rest = goes_on is_quote rest && not (b == 92)
ends Escapes b rest = b == 92 && not (goes_on is_quote rest)
ends Block b rest = starts_with nat_eq (b ∷ rest) (codes "*/")
ends Line b rest = b == 10

-- how many bytes the front has; all, where none ends it
abbrev pub reach : End → List ℕ → ℕ
reach end [] = 0
reach end (b ∷ rest) = if ends end b rest then 0 else suc (reach end rest)

-- the front of a text, up to the byte that ends it
abbrev pub before : End → List ℕ → List ℕ
before end text = take (reach end text) text

-- what is left of a text, from the byte that ends its front
abbrev pub after : End → List ℕ → List ℕ
after end text = drop (reach end text) text
