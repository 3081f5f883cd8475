-- What the code gives back of parts of a set: what it has built of each is the outcome of the tree with plain keys that was read.
use Rattle.std.specs.Prelude.{ℕ, ◌≡◌, List, [], ◌∷◌, ◌++◌, Result, Ok}
use Rattle.req_tree.specs.Tree.{Tree}
use Rattle.req_grammar.specs.Terminals.{Terminal}
use Rattle.req_primary.specs.declared.fault.ReadingFault.{ReadingFault}
use Rattle.req_primary.specs.Steps.{Reading}
use Rattle.req_primary.specs.Keys.{Tells, outcome_of}
use Rattle.req_parser.specs.declared.parts.Part.{Part}

-- a part that was built has the kind of the part that was read, and the outcome of its tree
abbrev pub PartTells : ℕ × Tree → Part → Type 0
PartTells read part = (part.kind ≡ read.0) × Tells read.1 (outcome_of part.built)

-- the same of each part in order
abbrev pub PartsTell : List (ℕ × Tree) → List Part → Type 0
PartsTell [] [] = Unit {0}
PartsTell (first ∷ some) (part ∷ parts) = PartTells first part × PartsTell some parts
PartsTell some parts = ⊥

-- what was built of the part that was read
pub record IsPart (read : Reading (ℕ × Tree)) (part : Part) (rest : List Terminal) : Type 0 where
  pub first : ℕ × Tree
  pub reads : read ≡ Ok (first, rest)
  pub tells : PartTells first part

-- the same where the part stands behind others
pub record AreMoreParts (read : Reading (ℕ × Tree)) (some : List (ℕ × Tree)) (parts : List Part) (rest : List Terminal) : Type 0 where
  pub next : ℕ × Tree
  pub reads : read ≡ Ok (next, rest)
  pub tell : PartsTell (some ++ next ∷ []) parts

-- what was built of all parts
pub record AreParts (read : Result (List (ℕ × Tree)) ReadingFault) (parts : List Part) : Type 0 where
  pub all : List (ℕ × Tree)
  pub reads : read ≡ Ok all
  pub tell : PartsTell all parts
