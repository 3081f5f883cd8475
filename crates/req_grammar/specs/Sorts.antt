-- What the front of a text is: a token of one of six kinds, or one of three things that are dropped. The first byte
-- or two tell which. This project's own.
use Rattle.std.specs.Prelude.{ℕ, Bool, if◌then◌else◌, ◌||◌, ◌==◌, nat_eq, List, codes}
use Rattle.std.specs.List.{starts_with}
use Rattle.req_tree.specs.NumericOrder.{is_digit}
use Rattle.req_grammar.specs.Tokens as k
use Rattle.req_grammar.specs.Tokens.{IsToken, IsBlank, IsBlock, IsLine, goes_on, hash_mark, hex_mark, is_letter}

-- the six kinds of token, and the three sorts of what is dropped
pub data Sort : Type 0 where
  hash : Sort
  hex : Sort
  integer : Sort
  word : Sort
  quoted : Sort
  symbol : Sort
  blank : Sort
  block : Sort
  line : Sort

-- the front of a text is cut off as one of this sort
abbrev pub IsCut : Sort → List ℕ → List ℕ → Type 0
IsCut hash front rest = IsToken k.hash front rest
IsCut hex front rest = IsToken k.hex front rest
IsCut integer front rest = IsToken k.integer front rest
IsCut word front rest = IsToken k.word front rest
IsCut quoted front rest = IsToken k.quoted front rest
IsCut symbol front rest = IsToken k.symbol front rest
IsCut blank front rest = IsBlank front
IsCut block front rest = IsBlock front
IsCut line front rest = IsLine front rest

-- space, tab, LF or CR
abbrev pub is_blank : ℕ → Bool
is_blank b = b == 32 || b == 9 || b == 10 || b == 13

-- the first of eight tests that holds, or else symbol
abbrev pub pick : Bool → Bool → Bool → Bool → Bool → Bool → Bool → Bool → Sort
pick a b c d e f g h =
    if a then hash else (if b then hex else (if c then integer else (if d then word else (if e then quoted else (if f then blank else (if g then block else (if h then line else symbol)))))))

-- by the first byte or two
unfoldable pub sort_of : List ℕ → Sort
sort_of text = pick (starts_with nat_eq text hash_mark) (starts_with nat_eq text hex_mark) (goes_on is_digit text) (goes_on is_letter text)
    (goes_on (λ b. nat_eq 34 b) text) (goes_on is_blank text) (starts_with nat_eq text (codes "/*"))
    (starts_with nat_eq text (codes "//") || starts_with nat_eq text (codes "#"))
