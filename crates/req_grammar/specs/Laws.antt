-- What follows from the definitions alone; each is proved on a function of src/laws.rt.
use Rattle.std.specs.Prelude.{◌≡◌, ◌↔◌, ℕ, true, List, ◌++◌, count_by}
use Rattle.std.specs.List.{AllByRecursion}
use Rattle.req_tree.specs.Tree.{Tree}
use Rattle.req_tree.specs.TreeSet.{TreeSet, IsEncodableSet}
use Rattle.req_tree.specs.Spellable.{IsEncodable}
use Rattle.req_grammar.specs.Terminals.{Terminal, terminal_of}
use Rattle.req_grammar.specs.Tokens.{IsToken, Kind, Token, Tokens}
use Rattle.req_grammar.specs.Places.{FitsKind, IsPlaced}
use Rattle.req_grammar.specs.TokenFaults.{TokenFault, FirstFault}
use Rattle.req_grammar.specs.Sorts.{Sort, IsCut, sort_of}
use Rattle.req_grammar.specs.Reader.{has_set_shape, has_shape}
use Rattle.req_grammar.specs.Readings.{IsRequirementText, IsSetText, IsViable, IsViableSet, Reads, ReadsSet, Shape, ShapeSet, is_left, is_right}
use Rattle.req_grammar.specs.ReadingFaults.{IsBadKey, IsCertKey, IsRepeated, StandsForTest}

-- a list of terminals has one reading at most
abbrev pub OneReading : Type 0
OneReading = (terminals : List Terminal) (x y : Tree) → Reads terminals x → Reads terminals y → x ≡ y

-- a list of terminals is one set's at most
abbrev pub OneSet : Type 0
OneSet = (terminals : List Terminal) (s r : TreeSet) → ReadsSet terminals s → ReadsSet terminals r → s ≡ r

-- what is read has a shape
abbrev pub ReadingsHaveShapes : Type 0
ReadingsHaveShapes = (terminals : List Terminal) (x : Tree) → Reads terminals x → Shape terminals

-- and what is read as a set has the shape of one
abbrev pub SetsHaveShapes : Type 0
SetsHaveShapes = (terminals : List Terminal) (s : TreeSet) → ReadsSet terminals s → ShapeSet terminals

-- each front of a viable list is viable
abbrev pub FrontsAreViable : Type 0
FrontsAreViable = (front rest : List Terminal) → IsViable (front ++ rest) → IsViable front

-- and so for sets
abbrev pub FrontsAreViableSets : Type 0
FrontsAreViableSets = (front rest : List Terminal) → IsViableSet (front ++ rest) → IsViableSet front

-- the first byte or two of a text tell the sort of its front
abbrev pub FrontsTellTheirSort : Type 0
FrontsTellTheirSort = (s : Sort) (front rest : List ℕ) → IsCut s front rest → sort_of (front ++ rest) ≡ s

-- a text has one list of tokens at most
abbrev pub OneTokenList : Type 0
OneTokenList = (at : ℕ) (text : List ℕ) (some others : List Token) → Tokens at text some → Tokens at text others → some ≡ others

-- a text has one first fault at most
abbrev pub OneFirstFault : Type 0
OneFirstFault =
    (at first second : ℕ) (text : List ℕ) (f g : TokenFault) → FirstFault at text f first → FirstFault at text g second
    → (f ≡ g) × (first ≡ second)

-- a text that has a first fault has no tokens
abbrev pub FaultyTextsHaveNoTokens : Type 0
FaultyTextsHaveNoTokens =
    (at place : ℕ) (text : List ℕ) (fault : TokenFault) (tokens : List Token) → FirstFault at text fault place → Tokens at text tokens → ⊥

-- a text says one tree at most
abbrev pub OneTree : Type 0
OneTree = (text : List ℕ) (x y : Tree) → IsRequirementText text x → IsRequirementText text y → x ≡ y

-- a text says one set at most
abbrev pub OneTreeSet : Type 0
OneTreeSet = (text : List ℕ) (s r : TreeSet) → IsSetText text s → IsSetText text r → s ≡ r

-- the reader tells whether a list has a shape
abbrev pub ShapesAreRead : Type 0
ShapesAreRead = (terminals : List Terminal) → (has_shape terminals ≡ true) ↔ Shape terminals

-- and whether it has the shape of a set
abbrev pub SetShapesAreRead : Type 0
SetShapesAreRead = (terminals : List Terminal) → (has_set_shape terminals ≡ true) ↔ ShapeSet terminals

-- the tree of a requirement's text can be written as a blob
abbrev pub TextsAreEncodable : Type 0
TextsAreEncodable = (text : List ℕ) (x : Tree) → IsRequirementText text x → IsEncodable x

-- and each tree of a set's text can
abbrev pub SetTextsAreEncodable : Type 0
SetTextsAreEncodable = (text : List ℕ) (set : TreeSet) → IsSetText text set → IsEncodableSet set

-- each token of a text stands at its place, and its terminal is one of its kind
abbrev pub TokensArePlaced : Type 0
TokensArePlaced = (text : List ℕ) (tokens : List Token) → Tokens 0 text tokens → AllByRecursion (IsPlaced text) tokens

-- a token's terminal is one of its kind
abbrev pub TerminalsFitTheirKind : Type 0
TerminalsFitTheirKind = (kind : Kind) (front rest : List ℕ) → IsToken kind front rest → FitsKind front kind (terminal_of kind front)

-- what has a shape holds as many left parentheses as right ones
abbrev pub ParenthesesBalance : Type 0
ParenthesesBalance = (list : List Terminal) → Shape list → count_by is_left list ≡ count_by is_right list

-- and so for sets
abbrev pub ParenthesesOfSetsBalance : Type 0
ParenthesesOfSetsBalance = (list : List Terminal) → ShapeSet list → count_by is_left list ≡ count_by is_right list

-- what is read has no bad key
abbrev pub ReadingsHaveNoBadKey : Type 0
ReadingsHaveNoBadKey =
    (list : List Terminal) (x : Tree) (place : ℕ) (key : List ℕ) → Reads list x → IsCertKey list place key → IsBadKey key → ⊥

-- and nor has what is read as a set
abbrev pub SetsHaveNoBadKey : Type 0
SetsHaveNoBadKey =
    (list : List Terminal) (set : TreeSet) (place : ℕ) (key : List ℕ) → ReadsSet list set → IsCertKey list place key → IsBadKey key → ⊥

-- what is read as a set has no word for a kind twice
abbrev pub SetsRepeatNoKind : Type 0
SetsRepeatNoKind = (list : List Terminal) (set : TreeSet) (place : ℕ) → ReadsSet list set → IsRepeated list place → ⊥

-- each key of a certificate's test in the list stands for one
abbrev pub HasGoodKeys : List Terminal → Type 0
HasGoodKeys list = (place : ℕ) (key : List ℕ) → IsCertKey list place key → StandsForTest key

-- a list that has a shape and good keys is read
abbrev pub GoodKeysAreRead : Type 0
GoodKeysAreRead = (list : List Terminal) → Shape list → HasGoodKeys list → (x : Tree) × Reads list x

-- a list that has the shape of a set, good keys and no word for a kind twice is read as a set
abbrev pub GoodSetsAreRead : Type 0
GoodSetsAreRead =
    (list : List Terminal) → ShapeSet list → HasGoodKeys list → ((place : ℕ) → IsRepeated list place → ⊥) → (set : TreeSet) × ReadsSet list set
