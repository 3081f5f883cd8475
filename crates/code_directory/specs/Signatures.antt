-- An embedded signature: a super-blob with code directories (CS_SuperBlob of Apple's cs_blobs.h), and the one of
-- them that is used. This project's own: which one is used, and that all of them are checked.
use Rattle.std.specs.Prelude.{ℕ, ◌≡◌, ◌==◌, if◌then◌else◌, List, [], ◌∷◌, ◌++◌, ◌⊎◌, Option, None, Some, option_map, is_some, take}
use Rattle.std.specs.List.{filter, filter_map, flat_map, find, range_with_len}
use Rattle.cs_blob.specs.SuperBlobs.{IsSuperBlob, SuperFails, count_of, kind_at, part_at}
use Rattle.cs_blob.specs.declared.fault.BlobFault.{BlobFault}
use Rattle.req_tree.specs.Subject.{Subject}
use Rattle.code_directory.specs.declared.layout.TheConstants.{SIGNATURE_MAGIC}
use Rattle.code_directory.specs.declared.fault.CodeFault.{CodeFault}
use Rattle.code_directory.specs.declared.fault.CodeFault.TheVariants.{Super, NoDirectory}
use Rattle.code_directory.specs.Directories.{hash_type, identifier, platform}
use Rattle.code_directory.specs.Digests.{digest}
use Rattle.code_directory.specs.Checks.{directory_fault}

-- the types of code directories: 0, and 0x1000 to 0x1004
abbrev pub directory_kinds : List ℕ
directory_kinds = 0 ∷ 4096 ∷ 4097 ∷ 4098 ∷ 4099 ∷ 4100 ∷ []

-- the part of a type
abbrev pub part_of : List ℕ → ℕ → Option (List ℕ)
part_of whole kind = option_map (λ index. part_at whole index) (find (λ index. kind_at whole index == kind) (range_with_len 0 (count_of whole)))

-- a directory with the type of its part
pub record Placed : Type 0 where
  pub kind : ℕ
  pub bytes : List ℕ

-- the bytes of a part as a directory, with the type of the part
abbrev pub placed : ℕ → List ℕ → Placed
placed kind part = record { kind = kind; bytes = part }

-- the directories among the parts of these types, in their order
abbrev pub directories_of : List ℕ → List ℕ → List Placed
directories_of whole kinds = filter_map (λ kind. option_map (placed kind) (part_of whole kind)) kinds

-- all directories, by rising type
abbrev pub directories : List ℕ → List Placed
directories whole = directories_of whole directory_kinds

-- what is wrong first with the directory in the part of a type; nothing, where there is no such part
abbrev pub kind_fault : ℕ → Option (List ℕ) → Option CodeFault
kind_fault kind None = None
kind_fault kind (Some part) = directory_fault kind part

-- the first of what is wrong
abbrev pub or_later : Option CodeFault → Option CodeFault → Option CodeFault
or_later None later = later
or_later (Some fault) later = Some fault

-- what is wrong first with the directories of these types, in their order
abbrev pub kinds_fault : List ℕ → List ℕ → Option CodeFault
kinds_fault whole [] = None
kinds_fault whole (kind ∷ rest) = or_later (kind_fault kind (part_of whole kind)) (kinds_fault whole rest)

-- what is wrong first with the directories of a super-blob: that there is none of type 0, or what is wrong with one
abbrev pub directories_fault : List ℕ → Option CodeFault
directories_fault whole = if is_some (part_of whole 0) then kinds_fault whole directory_kinds else Some NoDirectory

-- the types of digests, the one that is wanted most first
abbrev pub hash_order : List ℕ
hash_order = 4 ∷ 2 ∷ 3 ∷ 1 ∷ []

-- the first of some directories, if there is one
abbrev pub first_of : List Placed → Option Placed
first_of [] = None
first_of (d ∷ rest) = Some d

-- those of some directories whose digests have this type
abbrev pub by_hash : List Placed → ℕ → List Placed
by_hash directories kind = filter (λ d. hash_type d.bytes == kind) directories

-- the directory that is used: by its digests, then by the lesser type of its part
abbrev pub used : List ℕ → Option Placed
used whole = first_of (flat_map (by_hash (directories whole)) hash_order)

-- what is seen of a signature: the super-blob with its parts, and the used directory with its fields and slots
pub record View : Type 0 where
  pub whole : List ℕ
  pub kind : ℕ
  pub directory : List ℕ

-- the bytes begin with an embedded signature, all of whose directories pass, and this is seen of it
pub record Views (bytes : List ℕ) (view : View) : Type 0 where
  pub rest : List ℕ
  pub bytes_are : bytes ≡ view.whole ++ rest
  pub blob : IsSuperBlob SIGNATURE_MAGIC view.whole
  pub fine : directories_fault view.whole ≡ None
  pub use_is : used view.whole ≡ Some (placed view.kind view.directory)

-- bytes that begin with an embedded signature, and what is wrong first with its directories
pub record DirectoryFails (bytes : List ℕ) (fault : CodeFault) : Type 0 where
  pub whole : List ℕ
  pub rest : List ℕ
  pub bytes_are : bytes ≡ whole ++ rest
  pub blob : IsSuperBlob SIGNATURE_MAGIC whole
  pub first : directories_fault whole ≡ Some fault

-- what is wrong first with bytes that should begin with an embedded signature
abbrev pub SignatureFails : List ℕ → CodeFault → Type 0
SignatureFails bytes fault = ((why : BlobFault) × SuperFails SIGNATURE_MAGIC bytes why × (fault ≡ Super why)) ⊎ DirectoryFails bytes fault

-- the name of the code: the digest of the whole used directory, cut to 20 bytes
abbrev pub cdhash : View → List ℕ
cdhash view = take 20 (digest (hash_type view.directory) view.directory)

-- the code as an assessment takes it
abbrev pub subject : View → Subject
subject view = record { cdhash = cdhash view; identifier = identifier view.directory; platform = platform view.directory }
