-- What follows from the definitions alone; each is proved on a function of src/laws.rt.
use Rattle.std.specs.Prelude.{ℕ, ◌≡◌, ◌≤◌, List, length, IfSome}
use Rattle.req_tree.specs.Tree.{Tree}
use Rattle.req_tree.specs.TreeSet.{TreeSet, part_of}
use Rattle.req_tree.specs.Normal.{normal}
use Rattle.req_tree.specs.Spellable.{IsShallow}
use Rattle.req_tree.specs.Oid.{IsOidBytes, IsOidText}
use Rattle.req_grammar.specs.declared.limits.TheConstants.{MOST_TEXT_BYTES}
use Rattle.req_grammar.specs.Tokens.{Token, Tokens}
use Rattle.req_grammar.specs.Terminals.{terminals}
use Rattle.req_grammar.specs.Readings.{Reads, ReadsSet, HasFewOpen, IsRequirementText, IsSetText}
use Rattle.dumped_text.specs.Dumped.{oid_text, dumped, dumped_set}
use Rattle.dumped_text.specs.Said.{said, set_said}
use Rattle.dumped_text.specs.Sayable.{IsSayable}
use Rattle.dumped_text.specs.Sets.{normal_set, IsSayableSet}

-- an object identifier's text is that of its arcs
abbrev pub OidsHaveTexts : Type 0
OidsHaveTexts = (oid : List ℕ) → IsOidBytes oid → IsOidText oid (oid_text oid)

-- the terminals of a tree's text are read as its normal form
abbrev pub ReadBackNormal : Type 0
ReadBackNormal = (tree : Tree) → IsSayable tree → Reads (said tree) (normal tree)

-- the terminals of a set's text are read as its normal form
abbrev pub SetReadBackNormal : Type 0
SetReadBackNormal = (set : TreeSet) → IsSayableSet set → ReadsSet (set_said set) (normal_set set)

-- the text has tokens, and their terminals are the tree's
abbrev pub TextsSayTheirTrees : Type 0
TextsSayTheirTrees =
    (tree : Tree) → IsSayable tree → (tokens : List Token) × Tokens 0 (dumped tree) tokens × (terminals (dumped tree) tokens ≡ said tree)

-- the same of sets
abbrev pub TextsSayTheirSets : Type 0
TextsSayTheirSets =
    (set : TreeSet) → IsSayableSet set
    → (tokens : List Token) × Tokens 0 (dumped_set set) tokens × (terminals (dumped_set set) tokens ≡ set_said set)

-- a tree whose normal form is no deeper than a requirement may be has no more open parentheses than a text may have
abbrev pub FewAreOpen : Type 0
FewAreOpen = (tree : Tree) → IsShallow (normal tree) → HasFewOpen (said tree)

-- the same of sets
abbrev pub FewAreOpenInSets : Type 0
FewAreOpenInSets = (set : TreeSet) → ((kind : ℕ) → IfSome (part_of kind (normal_set set)) IsShallow) → HasFewOpen (set_said set)

-- a text that isn't too long is that of the normal form, where that isn't too deep
abbrev pub TextsAreNormalForms : Type 0
TextsAreNormalForms =
    (tree : Tree) → IsSayable tree → length (dumped tree) ≤ MOST_TEXT_BYTES → IsShallow (normal tree)
    → IsRequirementText (dumped tree) (normal tree)

-- the same of sets
abbrev pub SetTextsAreNormalForms : Type 0
SetTextsAreNormalForms =
    (set : TreeSet) → IsSayableSet set → length (dumped_set set) ≤ MOST_TEXT_BYTES
    → ((kind : ℕ) → IfSome (part_of kind (normal_set set)) IsShallow) → IsSetText (dumped_set set) (normal_set set)
