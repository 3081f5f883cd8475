-- What the code gives back of an expression: what it has built is the outcome of the tree with plain keys that was read.
use Rattle.std.specs.Prelude.{◌≡◌, ◌≢◌, List, Result, Ok, Err}
use Rattle.req_tree.specs.Tree.{Tree}
use Rattle.req_grammar.specs.Terminals.{Terminal}
use Rattle.req_primary.specs.declared.fault.ReadingFault.{ReadingFault}
use Rattle.req_primary.specs.declared.fault.ReadingFault.TheVariants.{OutOfMemory}
use Rattle.req_primary.specs.Steps.{Reading}
use Rattle.req_primary.specs.Keys.{Outcome, Tells}

-- what was built of a tree with plain keys
pub record IsOutcome (read : Reading Tree) (outcome : Outcome) (rest : List Terminal) : Type 0 where
  pub tree : Tree
  pub reads : read ≡ Ok (tree, rest)
  pub tells : Tells tree outcome

-- the same of all terminals
pub record IsWholeOutcome (read : Result Tree ReadingFault) (outcome : Outcome) : Type 0 where
  pub tree : Tree
  pub reads : read ≡ Ok tree
  pub tells : Tells tree outcome

-- a fault is the reading's, unless there was no memory
abbrev pub IsFault : {A : Type 0} → Result A ReadingFault → ReadingFault → Type 0
IsFault read fault = fault ≢ OutOfMemory → read ≡ Err fault
