-- A super-blob: CS_SuperBlob of Apple's cs_blobs.h, a blob whose body is a count, that many entries of
-- a type and an offset, and the parts.
-- This project's own: at most 64 parts; each begins behind the index and ends within the super-blob; no
-- two share a byte or have one type. Between parts there may be gaps.
use Rattle.std.specs.Prelude.{ℕ, ◌≡◌, ◌≢◌, ◌+◌, ◌*◌, ◌<◌, ◌≤◌, List, length, take, drop, ◌⊎◌, None, Some}
use Rattle.cs_blob.specs.declared.limits.TheConstants.{MOST_PARTS}
use Rattle.cs_blob.specs.Numbers.{number_at}
use Rattle.cs_blob.specs.Blobs.{IsBlob, blob_fault}
use Rattle.cs_blob.specs.declared.fault.BlobFault.{BlobFault}
use Rattle.cs_blob.specs.declared.fault.BlobFault.TheVariants.{Short, BadMagic, BadLength, TooManyParts, PartOutside, PartOverlap, PartTwice}

-- how many parts the index tells of
abbrev pub count_of : List ℕ → ℕ
count_of whole = number_at 8 whole

-- where the index ends
abbrev pub index_end : List ℕ → ℕ
index_end whole = 12 + 8 * count_of whole

-- the type of the part of an entry
abbrev pub kind_at : List ℕ → ℕ → ℕ
kind_at whole index = number_at (12 + 8 * index) whole

-- where that part begins, counted from the start of the super-blob
abbrev pub offset_at : List ℕ → ℕ → ℕ
offset_at whole index = number_at (16 + 8 * index) whole

-- how long that part is, by its own header
abbrev pub length_at : List ℕ → ℕ → ℕ
length_at whole index = number_at (offset_at whole index + 4) whole

-- the part of an entry
abbrev pub part_at : List ℕ → ℕ → List ℕ
part_at whole index = take (length_at whole index) (drop (offset_at whole index) whole)

-- the part lies behind the index and inside the whole, and is as long as a header at least
pub record IsInside (whole : List ℕ) (index : ℕ) : Type 0 where
  pub behind : index_end whole ≤ offset_at whole index
  pub header : offset_at whole index + 8 ≤ length whole
  pub sized : 8 ≤ length_at whole index
  pub ends : offset_at whole index + length_at whole index ≤ length whole

-- two parts share a byte: each begins before the other ends
pub record Overlap (whole : List ℕ) (i j : ℕ) : Type 0 where
  pub first : offset_at whole i < offset_at whole j + length_at whole j
  pub second : offset_at whole j < offset_at whole i + length_at whole i

-- nothing is wrong with an entry beside those before it
pub record IsFine (whole : List ℕ) (index : ℕ) : Type 0 where
  pub inside : IsInside whole index
  pub own_kind : (earlier : ℕ) → earlier < index → kind_at whole earlier ≢ kind_at whole index
  pub apart : (earlier : ℕ) → earlier < index → Overlap whole earlier index → ⊥

-- the index is whole and has at most 64 entries
pub record HasIndex (whole : List ℕ) : Type 0 where
  pub counted : 12 ≤ length whole
  pub few : count_of whole ≤ MOST_PARTS
  pub fits : index_end whole ≤ length whole

-- the bytes are one super-blob of this magic
pub record IsSuperBlob (magic : ℕ) (whole : List ℕ) : Type 0 where
  pub blob : IsBlob magic whole
  pub indexed : HasIndex whole
  pub fine : (index : ℕ) → index < count_of whole → IsFine whole index

-- the entries before this one are fine
pub record AreFineTo (whole : List ℕ) (index : ℕ) : Type 0 where
  pub indexed : HasIndex whole
  pub among : index < count_of whole
  pub before : (earlier : ℕ) → earlier < index → IsFine whole earlier

-- the first that is wrong with the index of a blob
abbrev pub IndexFails : List ℕ → BlobFault → Type 0
IndexFails whole Short = (length whole < 12) ⊎ ((12 ≤ length whole) × (count_of whole ≤ MOST_PARTS) × (length whole < index_end whole))
IndexFails whole BadMagic = ⊥
IndexFails whole BadLength = ⊥
IndexFails whole TooManyParts = (12 ≤ length whole) × (MOST_PARTS < count_of whole)
IndexFails whole (PartOutside index) = AreFineTo whole index × (IsInside whole index → ⊥)
IndexFails whole (PartTwice index) = AreFineTo whole index × IsInside whole index × ((earlier : ℕ) × (earlier < index) × (kind_at whole earlier ≡ kind_at whole index))
IndexFails whole (PartOverlap index) =
    AreFineTo whole index × IsInside whole index × ((earlier : ℕ) → earlier < index → kind_at whole earlier ≢ kind_at whole index)
    × ((earlier : ℕ) × (earlier < index) × Overlap whole earlier index)

-- the first that is wrong with bytes that should begin with a super-blob
abbrev pub SuperFails : ℕ → List ℕ → BlobFault → Type 0
SuperFails magic bytes fault =
    (blob_fault magic bytes ≡ Some fault) ⊎ ((blob_fault magic bytes ≡ None) × IndexFails (take (number_at 4 bytes) bytes) fault)

-- the part of a type
abbrev pub IsPartOf : List ℕ → ℕ → List ℕ → Type 0
IsPartOf whole kind part = (index : ℕ) × (index < count_of whole) × (kind_at whole index ≡ kind) × (part ≡ part_at whole index)
