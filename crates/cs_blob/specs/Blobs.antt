-- A blob: CS_GenericBlob of Apple's cs_blobs.h, a magic, a length of the whole, and the rest of it.
use Rattle.std.specs.Prelude.{ℕ, ◌≡◌, ◌==◌, ◌≤◌, nat_lt, ◌||◌, if◌then◌else◌, List, length, Option, None, Some}
use Rattle.cs_blob.specs.Numbers.{number_at}
use Rattle.cs_blob.specs.declared.fault.BlobFault.{BlobFault}
use Rattle.cs_blob.specs.declared.fault.BlobFault.TheVariants.{Short, BadMagic, BadLength}

-- what stands at the front of bytes, and what follows it
pub record Front : Type 0 where
  pub whole : List ℕ
  pub rest : List ℕ

-- the bytes are one blob, of any magic
pub record IsSized (bytes : List ℕ) : Type 0 where
  pub header : 8 ≤ length bytes
  pub sized : number_at 4 bytes ≡ length bytes

-- the bytes are one blob of this magic
pub record IsBlob (magic : ℕ) (bytes : List ℕ) : Type 0 where
  pub header : 8 ≤ length bytes
  pub kind : number_at 0 bytes ≡ magic
  pub sized : number_at 4 bytes ≡ length bytes

-- why bytes begin with no blob of this magic: the first of these that holds
abbrev pub blob_fault : ℕ → List ℕ → Option BlobFault
blob_fault magic bytes =
    if nat_lt (length bytes) 8 then Some Short
    else (if number_at 0 bytes == magic then (if nat_lt (number_at 4 bytes) 8 || nat_lt (length bytes) (number_at 4 bytes) then Some BadLength else None)
    else Some BadMagic)
