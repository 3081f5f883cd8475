-- Which fault a text has, and where: the first of the checks that fails.
use Rattle.std.specs.Prelude.{ℕ, ◌≡◌, ◌<◌, ◌+◌, ◌⊎◌, List, ◌++◌, count_by}
use Rattle.req_tree.specs.declared.limits.TheConstants.{MOST_DEPTH}
use Rattle.req_tree.specs.Tree.{Tree}
use Rattle.req_tree.specs.Depth.{depth_of}
use Rattle.req_tree.specs.Spellable.{IsShallow}
use Rattle.req_grammar.specs.declared.limits.TheConstants.{MOST_OPEN_PARENTHESES}
use Rattle.req_grammar.specs.Terminals.{Terminal}
use Rattle.req_grammar.specs.Readings.{HasFewOpen, Reads, Shape, is_left, is_right}
use Rattle.req_grammar.specs.ReadingFaults.{IsFirstBadKey}
use Rattle.req_machine.specs.Machine.{IsTaken, expr}
use Rattle.req_primary.specs.declared.fault.ReadingFault.{ReadingFault}
use Rattle.req_primary.specs.declared.fault.ReadingFault.TheVariants as r
use Rattle.req_tokens.specs.Terminals.{AreTerminals}
use Rattle.req_tokens.specs.Failures.{FailsTokens}
use Rattle.req_tokens.specs.declared.fault.TextFault.{TextFault}
use Rattle.req_tokens.specs.declared.fault.TextFault.TheVariants.{Syntax, TooDeep, BadKey, OutOfMemory}

-- in a front of the list left parentheses outnumber right ones by more than may be open
pub record HasManyOpen (list : List Terminal) : Type 0 where
  pub front : List Terminal
  pub rest : List Terminal
  pub parts : list ≡ front ++ rest
  pub many : MOST_OPEN_PARENTHESES + count_by is_right front < count_by is_left front

-- a tree that is read, and is deeper than a requirement may be
pub record ReadsTooDeep (list : List Terminal) : Type 0 where
  pub tree : Tree
  pub reads : Reads list tree
  pub deep : MOST_DEPTH < depth_of tree

-- which fault the terminals have; a Syntax fault names the first that the machine doesn't take off, or their number
abbrev pub FailsTerminals : List Terminal → TextFault → Type 0
FailsTerminals list (Syntax token) = HasFewOpen list × IsTaken expr list token × (Shape list → ⊥)
FailsTerminals list (BadKey token) = HasFewOpen list × Shape list × IsFirstBadKey list token
FailsTerminals list TooDeep = HasManyOpen list ⊎ (HasFewOpen list × ReadsTooDeep list)
FailsTerminals list OutOfMemory = Unit {0}
FailsTerminals list other = ⊥

-- which fault the text has, where it has terminals
pub record FailsBehind (text : List ℕ) (fault : TextFault) : Type 0 where
  pub list : List Terminal
  pub are : AreTerminals text list
  pub fails : FailsTerminals list fault

-- which fault the text has
abbrev pub FailsText : List ℕ → TextFault → Type 0
FailsText text OutOfMemory = Unit {0}
FailsText text fault = FailsTokens text fault ⊎ FailsBehind text fault

-- the terminals are a requirement's, and this is its tree
pub record IsRequirementList (list : List Terminal) (x : Tree) : Type 0 where
  pub opens : HasFewOpen list
  pub reads : Reads list x
  pub shallow : IsShallow x

-- the fault names the first bad key, unless there was no memory
abbrev pub IsBadKeyFault : List Terminal → TextFault → Type 0
IsBadKeyFault list (BadKey token) = IsFirstBadKey list token
IsBadKeyFault list OutOfMemory = Unit {0}
IsBadKeyFault list other = ⊥

-- the fault of a text whose terminals stop being read
abbrev pub text_fault_of : ReadingFault → TextFault
text_fault_of (r.Syntax token) = Syntax token
text_fault_of r.OutOfMemory = OutOfMemory
