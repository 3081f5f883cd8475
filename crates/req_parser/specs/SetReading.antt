-- A set read from the front of a list of terminals: its parts as they stand, each the number of its kind and a tree with plain
-- keys, or the place of the first terminal that may not stand there.
use Rattle.std.specs.Prelude.{ℕ, zero, suc, ◌==◌, if◌then◌else◌, List, [], ◌∷◌, ◌++◌, length, Result, Ok}
use Rattle.req_tree.specs.Tree.{Tree}
use Rattle.req_grammar.specs.Words as w
use Rattle.req_grammar.specs.Words.{Sign}
use Rattle.req_grammar.specs.Terminals.{Terminal}
use Rattle.req_grammar.specs.declared.limits.TheConstants.{MOST_OPEN_PARENTHESES}
use Rattle.req_primary.specs.declared.fault.ReadingFault.{ReadingFault}
use Rattle.req_primary.specs.Steps.{Reading, Reader, ◌>>=◌, refused, first_at, sign_at}
use Rattle.req_parser.specs.Reading.{expr_at, inside_at}
use Rattle.req_parser.specs.Kinds.{kind_of}

-- the number of a kind, and what follows its word; 0 is refused
abbrev pub numbered : ℕ → List Terminal → ℕ → List Terminal → Reading ℕ
numbered size here kind rest = if kind == 0 then refused size here else Ok (kind, rest)

-- the number of the kind that a word at the front names
unfoldable pub kind_at : ℕ → Reader ℕ
kind_at size here = first_at size here >>= λ x. numbered size here (kind_of x.0) x.1

-- what follows the sign where it is `=>`; any other is refused
abbrev pub arrow_of : ℕ → List Terminal → Sign → List Terminal → Result (List Terminal) ReadingFault
arrow_of size here w.arrow rest = Ok rest
arrow_of size here other rest = refused size here

-- what follows a `=>`
unfoldable pub arrow_at : ℕ → List Terminal → Result (List Terminal) ReadingFault
arrow_at size here = sign_at size here >>= λ x. arrow_of size here x.0 x.1

-- an expression, read as the tree of a part of this kind
abbrev pub tree_at : ℕ → ℕ → Reader (ℕ × Tree)
tree_at size kind here = expr_at size (inside_at size MOST_OPEN_PARENTHESES) here >>= λ x. Ok ((kind, x.0), x.1)

-- a `=>` and an expression
abbrev pub told_at : ℕ → ℕ → Reader (ℕ × Tree)
told_at size kind here = arrow_at size here >>= λ rest. tree_at size kind rest

-- a word for a kind, `=>` and an expression
unfoldable pub part_at : ℕ → Reader (ℕ × Tree)
part_at size here = kind_at size here >>= λ x. told_at size x.0 x.1

-- the parts so far, where nothing is left
abbrev pub ended : ℕ → List (ℕ × Tree) → List Terminal → Result (List (ℕ × Tree)) ReadingFault
ended size parts [] = Ok parts
ended size parts (first ∷ rest) = refused size (first ∷ rest)

-- the parts so far, and at most so many more up to the end
unfoldable pub parts_from : ℕ → ℕ → List (ℕ × Tree) → List Terminal → Result (List (ℕ × Tree)) ReadingFault
parts_from size zero parts here = ended size parts here
parts_from size (suc n) parts [] = Ok parts
parts_from size (suc n) parts (first ∷ rest) = part_at size (first ∷ rest) >>= λ x. parts_from size n (parts ++ x.0 ∷ []) x.1

-- all terminals as parts
unfoldable pub parts_at : List Terminal → Result (List (ℕ × Tree)) ReadingFault
parts_at list = parts_from (length list) (length list) [] list
