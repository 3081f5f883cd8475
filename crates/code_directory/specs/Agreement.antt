-- Whether parts and code are those of the used directory. This project's own: a part without a slot differs.
use Rattle.std.specs.Prelude.{ℕ, ◌≡◌, ◌<◌, ◌≤◌, List, length, Some}
use Rattle.code_directory.specs.declared.fault.CodeFault.{CodeFault}
use Rattle.code_directory.specs.declared.fault.CodeFault.TheVariants as fault
use Rattle.code_directory.specs.Directories.{hash_type, code_slots, limit}
use Rattle.code_directory.specs.Digests.{digest}
use Rattle.code_directory.specs.Slots.{code_slot, special_slot}
use Rattle.code_directory.specs.Pages.{page}
use Rattle.code_directory.specs.Signatures.{View, part_of}

-- the part of this type, magic and length included, has its digest in its slot; of no part nothing is asked
abbrev pub PartAgrees : View → ℕ → Type 0
PartAgrees view kind = (part : List ℕ) → part_of view.whole kind ≡ Some part → special_slot view.directory kind ≡ Some (digest (hash_type view.directory) part)

-- why a part fails
pub record PartFails (view : View) (kind : ℕ) (why : CodeFault) : Type 0 where
  pub differs : PartAgrees view kind → ⊥
  pub named : why ≡ fault.PartDiffers kind

-- a page has its digest in its slot
abbrev pub PageAgrees : List ℕ → List ℕ → ℕ → Type 0
PageAgrees directory code i = code_slot directory i ≡ digest (hash_type directory) (page directory code i)

-- each page has
pub record PagesAgree (directory code : List ℕ) : Type 0 where
  pub long : limit directory ≤ length code
  pub each : (i : ℕ) → i < code_slots directory → PageAgrees directory code i

-- the first page that has not
pub record FirstDiffers (directory code : List ℕ) (slot : ℕ) : Type 0 where
  pub long : limit directory ≤ length code
  pub among : slot < code_slots directory
  pub differs : PageAgrees directory code slot → ⊥
  pub before : (i : ℕ) → i < slot → PageAgrees directory code i

-- why code fails
abbrev pub CodeFails : List ℕ → List ℕ → CodeFault → Type 0
CodeFails directory code fault.CodeShort = length code < limit directory
CodeFails directory code (fault.PageDiffers slot) = FirstDiffers directory code slot
CodeFails directory code other = ⊥
