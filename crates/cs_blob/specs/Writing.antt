-- A super-blob that is written: its parts one behind the other, without gaps.
-- (CS_SuperBlob of Apple's cs_blobs.h; the limits on parts and size are this project's own.)
use Rattle.std.specs.Prelude.{ℕ, ◌≡◌, ◌+◌, ◌*◌, ◌<◌, ◌≤◌, ◌^◌, Bool, false, ◌==◌, nat_lt, nat_le, if◌then◌else◌, List, [], ◌∷◌, ◌++◌, length, Option, None, Some}
use Rattle.std.specs.List.{list_any}
use Rattle.cs_blob.specs.Numbers.{word}
use Rattle.cs_blob.specs.Blobs.{IsSized}
use Rattle.cs_blob.specs.SuperBlobs.{count_of, kind_at, part_at}
use Rattle.cs_blob.specs.declared.limits.TheConstants.{GREATEST_SIZE, MOST_PARTS}
use Rattle.cs_blob.specs.declared.fault.WriterFault.{WriterFault}
use Rattle.cs_blob.specs.declared.fault.WriterFault.TheVariants.{PartTwice, TooManyParts, TooLong}

-- a magic, and parts under their types
pub record Draft : Type 0 where
  pub magic : ℕ
  pub parts : List (ℕ × List ℕ)

-- one of the parts has this type
abbrev pub has_kind : List (ℕ × List ℕ) → ℕ → Bool
has_kind parts kind = list_any (λ part. part.0 == kind) parts

-- the bytes of the parts
abbrev pub body_bytes : List (ℕ × List ℕ) → List ℕ
body_bytes [] = []
body_bytes (part ∷ parts) = part.1 ++ body_bytes parts

-- header, index and parts
abbrev pub total_of : List (ℕ × List ℕ) → ℕ
total_of parts = 12 + 8 * length parts + length (body_bytes parts)

-- why a part can't be added: the first of these that holds
abbrev pub add_fault : List (ℕ × List ℕ) → ℕ → List ℕ → Option WriterFault
add_fault parts kind part =
    if has_kind parts kind then Some PartTwice
    else (if nat_le MOST_PARTS (length parts) then Some TooManyParts
    else (if nat_lt GREATEST_SIZE (total_of (parts ++ (kind, part) ∷ [])) then Some TooLong else None))

-- the entries of the index, where the parts begin at an offset
abbrev pub index_bytes : ℕ → List (ℕ × List ℕ) → List ℕ
index_bytes offset [] = []
index_bytes offset (part ∷ parts) = word part.0 ++ word offset ++ index_bytes (offset + length part.1) parts

-- the super-blob of a draft
abbrev pub written : Draft → List ℕ
written draft =
    word draft.magic ++ word (total_of draft.parts) ++ word (length draft.parts)
    ++ index_bytes (12 + 8 * length draft.parts) draft.parts ++ body_bytes draft.parts

-- the parts can stand in one super-blob
abbrev pub AreParts : List (ℕ × List ℕ) → Type 0
AreParts [] = Unit {0}
AreParts (part ∷ parts) = IsSized part.1 × (part.0 < 2 ^ 32) × (has_kind parts part.0 ≡ false) × AreParts parts

-- what a writer may hold: parts for one super-blob, within the limits of their number and size
pub record IsDraft (parts : List (ℕ × List ℕ)) : Type 0 where
  pub sound : AreParts parts
  pub few : length parts ≤ MOST_PARTS
  pub short : total_of parts ≤ GREATEST_SIZE

-- the super-blob has just these parts, in this order
pub record Holds (parts : List (ℕ × List ℕ)) (whole : List ℕ) : Type 0 where
  pub counted : count_of whole ≡ length parts
  pub each : (before after : List (ℕ × List ℕ)) (part : ℕ × List ℕ) → parts ≡ before ++ part ∷ after
      → (kind_at whole (length before) ≡ part.0) × (part_at whole (length before) ≡ part.1)
