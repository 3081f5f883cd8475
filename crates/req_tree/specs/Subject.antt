-- Who an assessment is about, as plain data. (This project's own; the parts are those of a CodeDirectory.)
use Rattle.std.specs.Prelude.{ℕ, ◌≤◌, ◌<◌, List, length, All}
use Rattle.req_tree.specs.declared.identifier.Identifier.{Identifier}
use Rattle.req_tree.specs.declared.limits.TheConstants.{MOST_IDENTIFIER_BYTES}
use Rattle.req_tree.specs.declared.subject.Subject as code

-- a cdhash of 20 bytes, an identifier and a platform number
pub record Subject : Type 0 where
  pub cdhash : List ℕ
  pub identifier : List ℕ
  pub platform : ℕ

-- the bytes of an identifier
abbrev pub identifier_bytes : Identifier → List ℕ
identifier_bytes i = i.bytes.items

-- 1 to 256 bytes, none of them zero
pub record IsIdentifier (bytes : List ℕ) : Type 0 where
  pub some : 1 ≤ length bytes
  pub short : length bytes ≤ MOST_IDENTIFIER_BYTES
  pub no_zero : All (λ b. 0 < b) bytes

-- the program's subject as plain data
abbrev pub subject_of : code.Subject → Subject
subject_of s = record { cdhash = s.cdhash.bytes; identifier = identifier_bytes s.identifier; platform = s.platform }
