-- What is wrong first with terminals that have a shape and no reading, and where. This project's own.
-- In a list that has a shape these places are told by what stands beside them, with no reader.
use Rattle.std.specs.Prelude.{ℕ, ℤ, ◌≡◌, ◌<◌, ◌+◌, Bool, true, false, List, ◌∷◌, ◌++◌, length}
use Rattle.req_tree.specs.declared.matching.Match.{Match}
use Rattle.req_tree.specs.Tree.{Tree}
use Rattle.req_grammar.specs.Words as w
use Rattle.req_grammar.specs.Words.{Word}
use Rattle.req_grammar.specs.Terminals.{Terminal, sign, word, str}
use Rattle.req_grammar.specs.Grammar.{KindWord}
use Rattle.req_grammar.specs.Readings.{CertTest}

-- the key stands for a test of a certificate, whatever is asked of what certificate
abbrev pub StandsForTest : List ℕ → Type 0
StandsForTest key = (slot : ℤ) (test : Match) → (x : Tree) × CertTest slot key test x

-- the key stands for no test of a certificate
abbrev pub IsBadKey : List ℕ → Type 0
IsBadKey key = (slot : ℤ) (test : Match) (x : Tree) → CertTest slot key test x → ⊥

-- info and entitlement
abbrev pub is_field_word : Terminal → Bool
is_field_word (word w.info) = true
is_field_word (word w.entitlement) = true
is_field_word other = false

-- at this place stands the key of a certificate's test: a string behind a bracket that is not that of info
-- or entitlement
pub record IsCertKey (list : List Terminal) (place : ℕ) (key : List ℕ) : Type 0 where
  pub front : List Terminal
  pub before : Terminal
  pub rest : List Terminal
  pub parts : list ≡ front ++ before ∷ sign w.left_bracket ∷ str key ∷ rest
  pub certificate : is_field_word before ≡ false
  pub place_is : place ≡ length front + 2

-- the first key of a certificate's test that stands for no test
pub record IsFirstBadKey (list : List Terminal) (place : ℕ) : Type 0 where
  pub key : List ℕ
  pub stands : IsCertKey list place key
  pub bad : IsBadKey key
  pub first : (earlier : ℕ) (other : List ℕ) → IsCertKey list earlier other → earlier < place → IsBadKey other → ⊥

-- the word names a kind, and stands in the list
pub record IsKindIn (list : List Terminal) (k : Word) : Type 0 where
  pub kind : ℕ
  pub names : KindWord k kind
  pub front : List Terminal
  pub rest : List Terminal
  pub parts : list ≡ front ++ word k ∷ rest

-- at this place stands a word for a kind that stands before it too
pub record IsRepeated (list : List Terminal) (place : ℕ) : Type 0 where
  pub kind_word : Word
  pub front : List Terminal
  pub rest : List Terminal
  pub parts : list ≡ front ++ word kind_word ∷ rest
  pub earlier : IsKindIn front kind_word
  pub place_is : place ≡ length front

-- the first such place
pub record IsFirstRepeated (list : List Terminal) (place : ℕ) : Type 0 where
  pub stands : IsRepeated list place
  pub first : (earlier : ℕ) → IsRepeated list earlier → earlier < place → ⊥
