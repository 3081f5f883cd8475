-- What `dump` says of a blob. This project's own.
use Rattle.std.specs.Prelude.{◌≡◌, ◌≢◌, ℕ, nat_eq, Bool, true, false, List, [], ◌∷◌, Err}
use Rattle.std.specs.List.{starts_with}
use Rattle.req_tree.specs.Tree.{Tree}
use Rattle.req_tree.specs.TreeSet.{TreeSet}
use Rattle.req_blob.specs.Spelling.{IsSpelling}
use Rattle.req_blob.specs.Decoding.{decoded}
use Rattle.req_blob.specs.declared.fault.OpsFault.{OpsFault}
use Rattle.req_ops.specs.Sets.{IsSetSpelling, SetFails}
use Rattle.req_ops.specs.declared.fault.SetFault.{SetFault}
use Rattle.req_ops.specs.declared.fault.SetFault.TheVariants.{OutOfMemory}
use Rattle.dumped_text.specs.Dumped.{dumped, dumped_set}
use Rattle.line_reader.specs.Lines.{with_lf}
use Rattle.run_status.specs.declared.status.Status.{Status}
use Rattle.language_commands.specs.Taken.{TakenOrRefused}
use Rattle.language_commands.specs.Refusals.{ops_refusal, set_refusal}

-- the first four bytes are the magic of a set, 0xfade0c01
abbrev pub begins_as_set : List ℕ → Bool
begins_as_set bytes = starts_with nat_eq bytes (0xfa ∷ 0xde ∷ 0x0c ∷ 0x01 ∷ [])

-- the bytes are a requirement's blob, and this is its text with one LF behind it
pub record SaysTree (bytes said : List ℕ) : Type 0 where
  pub tree : Tree
  pub spells : IsSpelling tree bytes
  pub line : said ≡ with_lf (dumped tree)

-- the bytes are no requirement's blob, and the line tells the first check that fails
pub record RefusesBlob (bytes said : List ℕ) : Type 0 where
  pub none : (tree : Tree) → IsSpelling tree bytes → ⊥
  pub fault : OpsFault
  pub fails : decoded bytes ≡ Err fault
  pub line : said ≡ ops_refusal fault

-- what is said, by the status, of bytes that are read as a requirement
abbrev pub DumpsRequirement : List ℕ → Status → List ℕ → Type 0
DumpsRequirement bytes status said = TakenOrRefused (SaysTree bytes) (RefusesBlob bytes) status said

-- the bytes are a set's blob, and this is its text: a line for each part
pub record SaysSet (bytes said : List ℕ) : Type 0 where
  pub set : TreeSet
  pub spells : IsSetSpelling set bytes
  pub text : said ≡ dumped_set set

-- the bytes are no set's blob, and the line tells the first check that fails
pub record RefusesSet (bytes said : List ℕ) : Type 0 where
  pub none : (set : TreeSet) → IsSetSpelling set bytes → ⊥
  pub fault : SetFault
  pub known : fault ≢ OutOfMemory
  pub fails : SetFails bytes fault
  pub line : said ≡ set_refusal fault

-- what is said, by the status, of bytes that are read as a set
abbrev pub DumpsSet : List ℕ → Status → List ℕ → Type 0
DumpsSet bytes status said = TakenOrRefused (SaysSet bytes) (RefusesSet bytes) status said

-- what is said, by the status, of bytes that begin as a set or don't
abbrev pub DumpsBy : Bool → List ℕ → Status → List ℕ → Type 0
DumpsBy true bytes status said = DumpsSet bytes status said
DumpsBy false bytes status said = DumpsRequirement bytes status said

-- what `dump` says of a blob, by its status
abbrev pub Dumps : List ℕ → Status → List ℕ → Type 0
Dumps bytes status said = DumpsBy (begins_as_set bytes) bytes status said
