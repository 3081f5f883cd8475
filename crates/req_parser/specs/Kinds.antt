-- Words for kinds, and the first one in a list that stands before it too.
use Rattle.std.specs.Prelude.{ℕ, ◌+◌, Bool, false, nat_lt, if◌then◌else◌, List, [], ◌∷◌, Option, Some, None, get_or, set}
use Rattle.req_grammar.specs.Words as w
use Rattle.req_grammar.specs.Words.{Word}
use Rattle.req_grammar.specs.Terminals.{Terminal, word}

-- the number of the kind that a word names: host 1, guest 2, designated 3, library 4, plugin 5, any other word 0
abbrev pub kind_of_word : Word → ℕ
kind_of_word w.host = 1
kind_of_word w.guest = 2
kind_of_word w.designated = 3
kind_of_word w.library = 4
kind_of_word w.plugin = 5
kind_of_word other = 0

-- the number of the kind that a terminal names, or 0
abbrev pub kind_of : Terminal → ℕ
kind_of (word c) = kind_of_word c
kind_of other = 0

-- the first place of a word for a kind that was seen, counted on from a place, where these kinds were seen before it
abbrev pub repeated_from : ℕ → List Bool → List Terminal → Option ℕ
repeated_from at seen [] = None
repeated_from at seen (first ∷ rest) =
    if get_or seen (kind_of first) false then Some at
    else repeated_from (at + 1) (set seen (kind_of first) (nat_lt 0 (kind_of first))) rest

-- the first place of a word for a kind that stands before it too
abbrev pub first_repeated : List Terminal → Option ℕ
first_repeated list = repeated_from 0 (false ∷ false ∷ false ∷ false ∷ false ∷ false ∷ []) list
