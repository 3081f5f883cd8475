-- Bad keys of certificates' tests, told from the front of a list.
use Rattle.std.specs.Prelude.{ℕ, ◌≡◌, Bool, true, false, if◌then◌else◌, List, [], ◌∷◌, Option, Some, None}
use Rattle.req_grammar.specs.Words as w
use Rattle.req_grammar.specs.Words.{Sign, Word}
use Rattle.req_grammar.specs.Terminals.{Terminal, sign, str}
use Rattle.req_grammar.specs.ReadingFaults.{IsBadKey, StandsForTest, is_field_word}

-- the word is info or entitlement, behind which a key in brackets names a field and no test of certificates
abbrev pub is_field : Word → Bool
is_field w.info = true
is_field w.entitlement = true
is_field other = false

-- the string at the front, where one stands there
abbrev pub string_at : List Terminal → Option (List ℕ)
string_at (str s ∷ rest) = Some s
string_at here = None

-- what follows a sign, where the sign is a left bracket
abbrev pub bracket_of : Sign → List Terminal → Option (List Terminal)
bracket_of w.left_bracket rest = Some rest
bracket_of other rest = None

-- what follows a left bracket at the front, where one stands there
abbrev pub bracket_at : List Terminal → Option (List Terminal)
bracket_at (sign s ∷ rest) = bracket_of s rest
bracket_at here = None

-- the string at the front of what follows a bracket, where there was a bracket and a string stands there
abbrev pub key_behind : Option (List Terminal) → Option (List ℕ)
key_behind None = None
key_behind (Some rest) = string_at rest

-- the key behind a terminal and a bracket, unless the terminal is that of info or entitlement
abbrev pub cert_key : List Terminal → Option (List ℕ)
cert_key [] = None
cert_key (before ∷ rest) = if is_field_word before then None else key_behind (bracket_at rest)

-- what the test of the key at the front says: it stands for a test, or for none
pub record IsBadKeyFront (list : List Terminal) : Type 0 where
  pub key : List ℕ
  pub stands : cert_key list ≡ Some key
  pub bad : IsBadKey key

-- a key of a certificate's test at the front of the list stands for a test
abbrev pub HasGoodFront : List Terminal → Type 0
HasGoodFront list = (key : List ℕ) → cert_key list ≡ Some key → StandsForTest key

-- what a test of the front says: true where a bad key stands there, else false
abbrev pub FrontTold : Bool → List Terminal → Type 0
FrontTold true list = IsBadKeyFront list
FrontTold false list = HasGoodFront list
