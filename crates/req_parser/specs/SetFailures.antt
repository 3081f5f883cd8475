-- Which fault the text of a set has, and where: the first of the checks that fails.
use Rattle.std.specs.Prelude.{ℕ, ◌≡◌, ◌<◌, ◌⊎◌, List, Some, IfSome}
use Rattle.req_tree.specs.declared.limits.TheConstants.{MOST_DEPTH}
use Rattle.req_tree.specs.Tree.{Tree}
use Rattle.req_tree.specs.TreeSet.{TreeSet, part_of}
use Rattle.req_tree.specs.Depth.{depth_of}
use Rattle.req_tree.specs.Spellable.{IsShallow}
use Rattle.req_grammar.specs.Terminals.{Terminal}
use Rattle.req_grammar.specs.Readings.{HasFewOpen, ReadsSet, ShapeSet}
use Rattle.req_grammar.specs.ReadingFaults.{IsFirstBadKey, IsFirstRepeated}
use Rattle.req_grammar.specs.Laws.{HasGoodKeys}
use Rattle.req_machine.specs.Machine as machine
use Rattle.req_machine.specs.Machine.{IsTaken}
use Rattle.req_tokens.specs.Terminals.{AreTerminals}
use Rattle.req_tokens.specs.Failures.{FailsTokens}
use Rattle.req_tokens.specs.declared.fault.TextFault.{TextFault}
use Rattle.req_tokens.specs.declared.fault.TextFault.TheVariants.{Syntax, TooDeep, BadKey, KindTwice, OutOfMemory}
use Rattle.req_parser.specs.Failures.{HasManyOpen}

-- a tree of the set is deeper than a requirement may be
pub record HasDeepPart (set : TreeSet) : Type 0 where
  pub kind : ℕ
  pub tree : Tree
  pub stands : part_of kind set ≡ Some tree
  pub deep : MOST_DEPTH < depth_of tree

-- a set that is read, and has a tree deeper than a requirement may be
pub record ReadsDeepSet (list : List Terminal) : Type 0 where
  pub set : TreeSet
  pub reads : ReadsSet list set
  pub deep : HasDeepPart set

-- which fault the terminals of a set have; a Syntax fault names the first that the machine doesn't take off, or their number
abbrev pub FailsSetTerminals : List Terminal → TextFault → Type 0
FailsSetTerminals list (Syntax token) = HasFewOpen list × IsTaken machine.set list token × (ShapeSet list → ⊥)
FailsSetTerminals list (BadKey token) = HasFewOpen list × ShapeSet list × IsFirstBadKey list token
FailsSetTerminals list (KindTwice token) = HasFewOpen list × ShapeSet list × HasGoodKeys list × IsFirstRepeated list token
FailsSetTerminals list TooDeep = HasManyOpen list ⊎ (HasFewOpen list × ReadsDeepSet list)
FailsSetTerminals list OutOfMemory = Unit {0}
FailsSetTerminals list other = ⊥

-- which fault the text of a set has, where it has terminals
pub record FailsSetBehind (text : List ℕ) (fault : TextFault) : Type 0 where
  pub list : List Terminal
  pub are : AreTerminals text list
  pub fails : FailsSetTerminals list fault

-- which fault the text of a set has
abbrev pub FailsSetText : List ℕ → TextFault → Type 0
FailsSetText text OutOfMemory = Unit {0}
FailsSetText text fault = FailsTokens text fault ⊎ FailsSetBehind text fault

-- each tree of the set is as deep as a requirement may be, or less
abbrev pub AreShallow : TreeSet → Type 0
AreShallow set = (kind : ℕ) → IfSome (part_of kind set) IsShallow

-- the terminals are a set's, and this is the set
pub record IsSetList (list : List Terminal) (set : TreeSet) : Type 0 where
  pub opens : HasFewOpen list
  pub reads : ReadsSet list set
  pub shallow : AreShallow set
