-- A reader and the machine go the same way: where a value is read the machine comes to what is left, and where a terminal
-- is refused the machine stops before it.
use Rattle.std.specs.Prelude.{ℕ, ◌≡◌, ◌<◌, List, ◌∷◌, None, Ok, Err, Result}
use Rattle.req_grammar.specs.declared.limits.TheConstants.{MOST_OPEN_PARENTHESES}
use Rattle.req_grammar.specs.Words.{Word}
use Rattle.req_grammar.specs.Terminals.{Terminal, word}
use Rattle.req_machine.specs.Machine.{Symbol, factor, right_paren, State, Goes, step}
use Rattle.req_machine.specs.Parentheses.{to_close}
use Rattle.req_primary.specs.declared.fault.ReadingFault.{ReadingFault}
use Rattle.req_primary.specs.declared.fault.ReadingFault.TheVariants.{Syntax, OutOfMemory}
use Rattle.req_primary.specs.Steps.{place, close_at}
use Rattle.req_primary.specs.Primaries.{primary_at}

-- from the state the machine stops at this place; or it comes to where more parentheses are open than may be, at which a
-- reader stops before the machine does
pub data Ends (size : ℕ) (s : State) (n : ℕ) : Type 0 where
  halted : (e : State) → Goes s e → step e ≡ None → n ≡ place size e.1 → Ends size s n
  crowded : (e : State) → Goes s e → MOST_OPEN_PARENTHESES < to_close e.0 → Ends size s n

-- what was read leads from these symbols to those, and a refusal to its end; left says what a value leaves
abbrev pub Leads : {A : Type 0} → (A → List Terminal) → ℕ → List Symbol → List Symbol → List Terminal → Result A ReadingFault → Type 0
Leads left size from to here (Ok x) = Goes (from, here) (to, left x)
Leads left size from to here (Err (Syntax n)) = Ends size (from, here) n
Leads left size from to here (Err OutOfMemory) = Unit {0}

-- a value and what it leaves
abbrev pub behind : {A : Type 0} → A × List Terminal → List Terminal
behind x = x.1

-- what is left alone
abbrev pub alone : List Terminal → List Terminal
alone left = left

-- a word and what it begins lead over a factor
abbrev pub OperandsLead : Type 0
OperandsLead = (size : ℕ) (c : Word) (others : List Symbol) (rest : List Terminal)
    → Leads behind size (factor ∷ others) others (word c ∷ rest) (primary_at size c (word c ∷ rest) rest)

-- a right parenthesis leads over its symbol
abbrev pub RightParenthesesLead : Type 0
RightParenthesesLead = (size : ℕ) (others : List Symbol) (here : List Terminal) → Leads alone size (right_paren ∷ others) others here (close_at size here)
