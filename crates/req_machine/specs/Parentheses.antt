-- How many right parentheses are still to come, by the symbols that are open.
use Rattle.std.specs.Prelude.{ℕ, ◌≡◌, ◌+◌, List, [], ◌∷◌, ◌++◌, count_by}
use Rattle.req_grammar.specs.Terminals.{Terminal}
use Rattle.req_grammar.specs.Readings.{is_left, is_right}
use Rattle.req_machine.specs.Machine.{Symbol, paren, right_paren, State}

-- how many an open symbol asks for, whatever comes
abbrev pub closes : Symbol → ℕ
closes paren = 1
closes right_paren = 1
closes other = 0

-- how many all of them ask for
abbrev pub to_close : List Symbol → ℕ
to_close [] = 0
to_close (symbol ∷ others) = closes symbol + to_close others

-- from a state to a state a front is taken off, and with what is still to come left and right parentheses are even
pub record IsBalanced (s e : State) : Type 0 where
  pub front : List Terminal
  pub parts : s.1 ≡ front ++ e.1
  pub even : count_by is_left front + to_close s.0 ≡ count_by is_right front + to_close e.0
