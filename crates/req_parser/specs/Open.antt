-- How many more left parentheses than right ones stand before a place, counted from the front.
use Rattle.std.specs.Prelude.{ℕ, ◌+◌, Bool, false, if◌then◌else◌, nat_le, List, [], ◌∷◌}
use Rattle.req_grammar.specs.Words as w
use Rattle.req_grammar.specs.Words.{Sign}
use Rattle.req_grammar.specs.Terminals.{Terminal, sign}
use Rattle.req_grammar.specs.declared.limits.TheConstants.{MOST_OPEN_PARENTHESES}

-- how many left parentheses a sign is, and how many right ones
abbrev pub sides_of : Sign → ℕ × ℕ
sides_of w.left_paren = (1, 0)
sides_of w.right_paren = (0, 1)
sides_of other = (0, 0)

-- how many left parentheses a terminal is, and how many right ones
abbrev pub sides : Terminal → ℕ × ℕ
sides (sign s) = sides_of s
sides other = (0, 0)

-- after so many of each, in no front do the left ones outnumber the right ones by more than may be open
abbrev pub few_open : ℕ → ℕ → List Terminal → Bool
few_open left right [] = nat_le left (MOST_OPEN_PARENTHESES + right)
few_open left right (first ∷ rest) =
    if nat_le left (MOST_OPEN_PARENTHESES + right) then few_open (left + (sides first).0) (right + (sides first).1) rest else false
