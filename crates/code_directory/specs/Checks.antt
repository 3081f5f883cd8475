-- What is wrong first with a code directory: one check a line, in their order. (This project's own.)
use Rattle.std.specs.Prelude.{ℕ, ◌≡◌, ◌≤◌, Bool, true, false, not, ◌&&◌, ◌==◌, nat_lt, nat_le, if◌then◌else◌, List, [], ◌∷◌, length, Option, None, Some}
use Rattle.cs_blob.specs.Blobs.{blob_fault}
use Rattle.cs_blob.specs.declared.fault.BlobFault.{BlobFault}
use Rattle.code_directory.specs.declared.layout.TheConstants.{DIRECTORY_MAGIC, LEAST_HEADER, SCATTER_VERSION, MOST_PAGE_EXPONENT}
use Rattle.code_directory.specs.declared.fault.CodeFault.{CodeFault}
use Rattle.code_directory.specs.declared.fault.CodeFault.TheVariants.{BadVersion, BadHashKind, BadHashSize, SlotsOutside, BadIdentifier, Scatter, SlotCount, Directory, HeaderCut, BadPageSize}
use Rattle.code_directory.specs.Directories.{version, header_size, is_version, hash_type, hash_size, scatter_offset, page_exponent, limit, code_slots, has_identifier}
use Rattle.code_directory.specs.Digests.{is_hash_type, is_hash_size}
use Rattle.code_directory.specs.Pages.{is_slot_count}
use Rattle.code_directory.specs.Slots.{are_slots_outside}

-- the first of some checks that fails
abbrev pub first_failing : List (Bool × CodeFault) → Option CodeFault
first_failing [] = None
first_failing (check ∷ rest) = if check.0 then Some check.1 else first_failing rest

-- the checks of a directory that is a blob, each by when it fails
abbrev pub checks : ℕ → List ℕ → List (Bool × CodeFault)
checks part whole =
    (nat_lt (length whole) LEAST_HEADER, HeaderCut part)
    ∷ (not (is_version (version whole)), BadVersion part)
    ∷ (nat_lt (length whole) (header_size (version whole)), HeaderCut part)
    ∷ (not (is_hash_type (hash_type whole)), BadHashKind part)
    ∷ (not (is_hash_size (hash_type whole) (hash_size whole)), BadHashSize part)
    ∷ (nat_le SCATTER_VERSION (version whole) && not (scatter_offset whole == 0), Scatter part)
    ∷ (nat_lt MOST_PAGE_EXPONENT (page_exponent whole), BadPageSize part)
    ∷ (not (is_slot_count (page_exponent whole) (limit whole) (code_slots whole)), SlotCount part)
    ∷ (are_slots_outside whole, SlotsOutside part)
    ∷ (not (has_identifier whole), BadIdentifier part)
    ∷ []

-- what is wrong with a directory as a blob, or else the first check of it that fails
abbrev pub unless_blob : ℕ → List ℕ → Option BlobFault → Option CodeFault
unless_blob part whole (Some fault) = Some (Directory part fault)
unless_blob part whole None = first_failing (checks part whole)

-- what is wrong first with the directory in a part of this type
abbrev pub directory_fault : ℕ → List ℕ → Option CodeFault
directory_fault part whole = unless_blob part whole (blob_fault DIRECTORY_MAGIC whole)

-- what the checks leave of a directory
pub record IsSound (whole : List ℕ) : Type 0 where
  pub header : LEAST_HEADER ≤ length whole
  pub sized : header_size (version whole) ≤ length whole
  pub hashes : is_hash_type (hash_type whole) ≡ true
  pub digests : is_hash_size (hash_type whole) (hash_size whole) ≡ true
  pub exponent : page_exponent whole ≤ MOST_PAGE_EXPONENT
  pub slots : are_slots_outside whole ≡ false
  pub named : has_identifier whole ≡ true
