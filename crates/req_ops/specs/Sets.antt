-- The bytes of a set of requirements: a super-blob of requirement blobs (Apple's requirement.h).
-- This project's own: a set has at most 1,048,576 bytes, and parts of the five types alone.
use Rattle.std.specs.Prelude.{ℕ, ◌≡◌, ◌≢◌, ◌<◌, ◌≤◌, List, [], ◌++◌, length, Ok, Err}
use Rattle.std.specs.Option.{MatchOption}
use Rattle.req_tree.specs.Tree.{Tree}
use Rattle.req_tree.specs.TreeSet.{TreeSet, IsSetKind, part_of}
use Rattle.cs_blob.specs.SuperBlobs.{IsSuperBlob, SuperFails, IsPartOf, count_of, kind_at, part_at}
use Rattle.req_blob.specs.declared.fault.OpsFault.{OpsFault}
use Rattle.req_blob.specs.declared.fault.OpsFault.TheVariants as memory
use Rattle.req_ops.specs.declared.fault.SetFault.{SetFault}
use Rattle.req_ops.specs.declared.fault.SetFault.TheVariants.{Blob, TooLong, Trailing, BadSetKind, Part, OutOfMemory}
use Rattle.req_blob.specs.declared.limits.TheConstants.{MOST_BYTES}
use Rattle.req_blob.specs.Spelling.{IsSpelling}
use Rattle.req_blob.specs.Decoding.{decoded}

-- CSMAGIC_REQUIREMENTS of cs_blobs.h
abbrev pub set_magic : ℕ
set_magic = 0xfade0c01

-- the part of a type spells its tree, and where there is no tree there is no part
abbrev pub HasPart : List ℕ → TreeSet → ℕ → Type 0
HasPart bytes set kind = MatchOption (part_of kind set) ((part : List ℕ) → IsPartOf bytes kind part → ⊥) (λ tree. (part : List ℕ) × IsPartOf bytes kind part × IsSpelling tree part)

-- the bytes are one set of requirements
pub record IsSetSpelling (set : TreeSet) (bytes : List ℕ) : Type 0 where
  pub blob : IsSuperBlob set_magic bytes
  pub short : length bytes ≤ MOST_BYTES
  pub kinds : (index : ℕ) → index < count_of bytes → IsSetKind (kind_at bytes index)
  pub parts : (kind : ℕ) → IsSetKind kind → HasPart bytes set kind

-- the parts before an entry are requirements, of types that a set has
abbrev pub ReadTo : List ℕ → ℕ → Type 0
ReadTo whole index = (k : ℕ) → k < index → IsSetKind (kind_at whole k) × ((tree : Tree) × (decoded (part_at whole k) ≡ Ok tree))

-- what a part that isn't read makes of the whole
abbrev pub part_fault : ℕ → OpsFault → SetFault
part_fault index memory.OutOfMemory = OutOfMemory
part_fault index why = Part index why

-- what is wrong with an entry
abbrev pub PartFails : List ℕ → ℕ → SetFault → Type 0
PartFails whole at (BadSetKind index) = (index ≡ at) × (IsSetKind (kind_at whole at) → ⊥)
PartFails whole at (Part index why) = (index ≡ at) × IsSetKind (kind_at whole at) × (decoded (part_at whole at) ≡ Err why)
PartFails whole at OutOfMemory = Unit {0}
PartFails whole at (Blob why) = ⊥
PartFails whole at TooLong = ⊥
PartFails whole at (Trailing place) = ⊥

-- what is wrong with the first entry that isn't read
pub record StopsAt (whole : List ℕ) (fault : SetFault) : Type 0 where
  pub index : ℕ
  pub among : index < count_of whole
  pub before : ReadTo whole index
  pub fails : PartFails whole index fault

-- the first that is wrong with bytes that should be a set
abbrev pub SetFails : List ℕ → SetFault → Type 0
SetFails bytes (Blob why) = SuperFails set_magic bytes why
SetFails bytes TooLong = (whole rest : List ℕ) × IsSuperBlob set_magic whole × (bytes ≡ whole ++ rest) × (MOST_BYTES < length whole)
SetFails bytes (Trailing at) = (whole rest : List ℕ) × IsSuperBlob set_magic whole × (bytes ≡ whole ++ rest) × (length whole ≤ MOST_BYTES) × (rest ≢ []) × (at ≡ length whole)
SetFails bytes (BadSetKind index) = IsSuperBlob set_magic bytes × (length bytes ≤ MOST_BYTES) × StopsAt bytes (BadSetKind index)
SetFails bytes (Part index why) = IsSuperBlob set_magic bytes × (length bytes ≤ MOST_BYTES) × StopsAt bytes (Part index why)
SetFails bytes OutOfMemory = Unit {0}
