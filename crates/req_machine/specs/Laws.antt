-- What follows from the definitions alone; each is proved on a function of src/laws.rt.
use Rattle.std.specs.Prelude.{ℕ, ◌≡◌, ◌≤◌, ◌↔◌, List, take, length}
use Rattle.req_grammar.specs.Terminals.{Terminal}
use Rattle.req_grammar.specs.Readings.{Shape, ShapeSet, IsViable, IsViableSet}
use Rattle.req_machine.specs.Machine.{Symbol, State, Goes, IsTaken, IsAllTaken, expr, set}
use Rattle.req_machine.specs.Parentheses.{IsBalanced}

-- a list has a shape exactly where the machine takes all of it off and no symbol is open then
abbrev pub TakesShapes : Type 0
TakesShapes = (list : List Terminal) → Shape list ↔ IsAllTaken expr list

-- the same for sets
abbrev pub TakesSetShapes : Type 0
TakesSetShapes = (list : List Terminal) → ShapeSet list ↔ IsAllTaken set list

-- the front of so many terminals can go on, and no longer front can
pub record IsLongest (CanGoOn : List Terminal → Type 0) (list : List Terminal) (n : ℕ) : Type 0 where
  pub fits : n ≤ length list
  pub goes_on : CanGoOn (take n list)
  pub longest : (m : ℕ) → m ≤ length list → CanGoOn (take m list) → m ≤ n

-- what the machine takes off is the longest front that some requirement goes on from
abbrev pub TakesLongest : Type 0
TakesLongest = (list : List Terminal) (n : ℕ) → IsTaken expr list n → IsLongest IsViable list n

-- the same for sets
abbrev pub TakesLongestOfSets : Type 0
TakesLongestOfSets = (list : List Terminal) (n : ℕ) → IsTaken set list n → IsLongest IsViableSet list n

-- two numbers that are taken off one list are the same
abbrev pub TakesOnce : Type 0
TakesOnce = (symbol : Symbol) (list : List Terminal) (n m : ℕ) → IsTaken symbol list n → IsTaken symbol list m → n ≡ m

-- of each list some number is taken off
abbrev pub TakesSome : Type 0
TakesSome = (symbol : Symbol) (list : List Terminal) → (n : ℕ) × IsTaken symbol list n

-- on every way the parentheses are even
abbrev pub WaysAreBalanced : Type 0
WaysAreBalanced = (s e : State) → Goes s e → IsBalanced s e
