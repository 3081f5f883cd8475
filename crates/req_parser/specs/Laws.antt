-- What follows from the definitions alone; each is proved on a function of src/laws.rt.
use Rattle.std.specs.Prelude.{ℕ, ◌≡◌, ◌≢◌, List}
use Rattle.req_tree.specs.Tree.{Tree}
use Rattle.req_tree.specs.TreeSet.{TreeSet}
use Rattle.req_grammar.specs.Terminals.{Terminal}
use Rattle.req_grammar.specs.Readings.{IsRequirementText, IsSetText, IsViable, IsViableSet}
use Rattle.req_machine.specs.Laws.{IsLongest}
use Rattle.req_tokens.specs.Terminals.{AreTerminals}
use Rattle.req_tokens.specs.declared.fault.TextFault.{TextFault}
use Rattle.req_tokens.specs.declared.fault.TextFault.TheVariants.{Syntax, OutOfMemory}
use Rattle.req_parser.specs.Failures.{FailsText}
use Rattle.req_parser.specs.SetFailures.{FailsSetText}

-- memory aside, a text has one fault at most, its place or number included
abbrev pub OneFault : Type 0
OneFault = (text : List ℕ) (a b : TextFault) → a ≢ OutOfMemory → b ≢ OutOfMemory → FailsText text a → FailsText text b → a ≡ b

-- the same for the text of a set
abbrev pub OneSetFault : Type 0
OneSetFault = (text : List ℕ) (a b : TextFault) → a ≢ OutOfMemory → b ≢ OutOfMemory → FailsSetText text a → FailsSetText text b → a ≡ b

-- no text is neither a requirement nor has a fault
abbrev pub NoTextIsNeither : Type 0
NoTextIsNeither = (text : List ℕ) → ((x : Tree) → IsRequirementText text x → ⊥) → ((fault : TextFault) → fault ≢ OutOfMemory → FailsText text fault → ⊥) → ⊥

-- no text is neither a set nor has a fault as one
abbrev pub NoSetTextIsNeither : Type 0
NoSetTextIsNeither =
    (text : List ℕ) → ((set : TreeSet) → IsSetText text set → ⊥) → ((fault : TextFault) → fault ≢ OutOfMemory → FailsSetText text fault → ⊥) → ⊥

-- the terminals before the token are the longest front that can go on
pub record StopsAt (CanGoOn : List Terminal → Type 0) (text : List ℕ) (token : ℕ) : Type 0 where
  pub list : List Terminal
  pub are : AreTerminals text list
  pub longest : IsLongest CanGoOn list token

-- the token of a Syntax fault is the first with which no requirement goes on, or the number of tokens where none is
abbrev pub SyntaxStopsThere : Type 0
SyntaxStopsThere = (text : List ℕ) (token : ℕ) → FailsText text (Syntax token) → StopsAt IsViable text token

-- the same for the text of a set
abbrev pub SetSyntaxStopsThere : Type 0
SetSyntaxStopsThere = (text : List ℕ) (token : ℕ) → FailsSetText text (Syntax token) → StopsAt IsViableSet text token
