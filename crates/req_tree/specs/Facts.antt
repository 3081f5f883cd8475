-- What is known of code beside its subject: a finite list from cdhash to plain values.
-- (This project's own: it stands for what a verifier would find in signature, certificates and tickets.)
use Rattle.std.specs.Prelude.{ℕ, Bool, false, if◌then◌else◌, List, [], ◌∷◌, Option, None}
use Rattle.std.specs.Str.{bytes_eq}

-- the value of a key: a text, a truth value, or a first text and the others beside it
pub data Value : Type 0 where
  text : List ℕ → Value
  truth : Bool → Value
  texts : List ℕ → List (List ℕ) → Value

-- a certificate: its hash, whether it is trusted, and the value at each field, extension and policy
pub record Certificate : Type 0 where
  pub hash : List ℕ
  pub trusted : Bool
  pub field : List ℕ → Option Value
  pub oid : List ℕ → Option Value
  pub policy : List ℕ → Option Value

-- what is known of one cdhash: flags, the names that it has, the chain from the leaf at its head to
-- the anchor at its end, and the value at each key
pub record Known : Type 0 where
  pub apple_anchor : Bool
  pub apple_generic : Bool
  pub notarized : Bool
  pub legacy_dev_id : Bool
  pub anchor_name : List ℕ → Bool
  pub code_name : List ℕ → Bool
  pub chain : List Certificate
  pub info : List ℕ → Option Value
  pub entitlement : List ℕ → Option Value

-- what is known, by cdhash
abbrev pub Facts : Type 0
Facts = List (List ℕ × Known)

-- the table that lists nothing
abbrev pub no_facts : Facts
no_facts = []

-- of a hash that isn't listed nothing is known
abbrev pub nothing : Known
nothing = record {
  apple_anchor = false;
  apple_generic = false;
  notarized = false;
  legacy_dev_id = false;
  anchor_name = λ name. false;
  code_name = λ name. false;
  chain = [];
  info = λ key. None;
  entitlement = λ key. None;
}

-- what is known of a cdhash, by the first entry that lists it
abbrev pub known_of : Facts → List ℕ → Known
known_of [] hash = nothing
known_of (entry ∷ rest) hash = if bytes_eq entry.0 hash then entry.1 else known_of rest hash
