-- The tree of a text, its shape, and the fronts that a text can go on from. This project's own.
use Rattle.std.specs.Prelude.{ℕ, ℤ, ◌≡◌, ◌≤◌, ◌+◌, Bool, true, false, List, [], ◌∷◌, ◌++◌, length, count_by, None, IfSome, codes}
use Rattle.req_tree.specs.declared.matching.Match.{Match}
use Rattle.req_tree.specs.Tree as t
use Rattle.req_tree.specs.Tree.{Tree}
use Rattle.req_tree.specs.TreeSet.{TreeSet, no_parts, part_of, with_part}
use Rattle.req_tree.specs.Spellable.{is_reserved, IsShallow}
use Rattle.req_tree.specs.Oid.{IsOidText}
use Rattle.req_grammar.specs.declared.limits.TheConstants.{MOST_OPEN_PARENTHESES, MOST_TEXT_BYTES}
use Rattle.req_grammar.specs.Words as w
use Rattle.req_grammar.specs.Tokens.{Token, Tokens}
use Rattle.req_grammar.specs.Terminals.{Terminal, sign, terminals}
use Rattle.req_grammar.specs.Grammar.{Expr, Parts}

-- field. and an object identifier ask for an extension, policy. and one for a policy, and a key that
-- isn't reserved for a field; no other key stands for a test
pub data CertTest (slot : ℤ) (key : List ℕ) (test : Match) : Tree → Type 0 where
  extension : (oid text : List ℕ) → key ≡ codes "field." ++ text → IsOidText oid text → CertTest slot key test (t.cert_oid slot oid test)
  policy : (oid text : List ℕ) → key ≡ codes "policy." ++ text → IsOidText oid text → CertTest slot key test (t.cert_policy slot oid test)
  field : is_reserved key ≡ false → CertTest slot key test (t.cert_field slot key test)

-- every key stands for a field
abbrev pub AnyKey : ℤ → List ℕ → Match → Tree → Type 0
AnyKey slot key test x = x ≡ t.cert_field slot key test

-- the terminals are read as this tree
abbrev pub Reads : List Terminal → Tree → Type 0
Reads terminals x = Expr CertTest terminals x

-- the terminals are read as a tree where every key is taken
abbrev pub Shape : List Terminal → Type 0
Shape terminals = (x : Tree) × Expr AnyKey terminals x

-- each kind stands in the parts once, and the set has them
abbrev pub Collects : List (ℕ × Tree) → TreeSet → Type 0
Collects [] set = set ≡ no_parts
Collects (part ∷ parts) set =
    (others : TreeSet) × Collects parts others × (part_of part.0 others ≡ None) × (set ≡ with_part part.0 part.1 others)

-- the terminals are read as this set
abbrev pub ReadsSet : List Terminal → TreeSet → Type 0
ReadsSet terminals set = (parts : List (ℕ × Tree)) × Parts CertTest terminals parts × Collects parts set

-- the same where every key and every repeated kind is taken
abbrev pub ShapeSet : List Terminal → Type 0
ShapeSet terminals = (parts : List (ℕ × Tree)) × Parts AnyKey terminals parts

-- some list that begins with the terminals has a shape
abbrev pub IsViable : List Terminal → Type 0
IsViable front = (rest : List Terminal) × Shape (front ++ rest)

-- the same for sets
abbrev pub IsViableSet : List Terminal → Type 0
IsViableSet front = (rest : List Terminal) × ShapeSet (front ++ rest)

-- (
abbrev pub is_left : Terminal → Bool
is_left (sign w.left_paren) = true
is_left other = false

-- )
abbrev pub is_right : Terminal → Bool
is_right (sign w.right_paren) = true
is_right other = false

-- in no front of the list do left parentheses outnumber right ones by more than may be open
abbrev pub HasFewOpen : List Terminal → Type 0
HasFewOpen list =
    (front rest : List Terminal) → list ≡ front ++ rest
    → count_by is_left front ≤ MOST_OPEN_PARENTHESES + count_by is_right front

-- a text of no more bytes than it may have, and its tokens
pub record HasTokens (text : List ℕ) (tokens : List Token) : Type 0 where
  pub short : length text ≤ MOST_TEXT_BYTES
  pub tokens_are : Tokens 0 text tokens

-- the text is a requirement, and this is its tree
pub record IsRequirementText (text : List ℕ) (x : Tree) : Type 0 where
  pub tokens : List Token
  pub cut : HasTokens text tokens
  pub opens : HasFewOpen (terminals text tokens)
  pub reads : Reads (terminals text tokens) x
  pub shallow : IsShallow x

-- the text is a set of requirements, and this is the set
pub record IsSetText (text : List ℕ) (set : TreeSet) : Type 0 where
  pub tokens : List Token
  pub cut : HasTokens text tokens
  pub opens : HasFewOpen (terminals text tokens)
  pub reads : ReadsSet (terminals text tokens) set
  pub shallow : (kind : ℕ) → IfSome (part_of kind set) IsShallow
