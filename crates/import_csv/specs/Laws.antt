-- What bytes are as an import; each is proved on a function of src/laws.rt.
use Rattle.std.specs.Prelude.{◌≡◌, ℕ, List}
use Rattle.policy_model.specs.Contents.{Edit}
use Rattle.import_csv.specs.declared.fault.ImportFault.{ImportFault}
use Rattle.import_csv.specs.ImportFile.{IsImport, IsFirstFault}

-- bytes ask for one list of edits at most
abbrev pub ImportIsOne : Type 0
ImportIsOne = (bytes : List ℕ) (a b : List Edit) → IsImport bytes a → IsImport bytes b → a ≡ b

-- bytes that ask for edits have no first fault
abbrev pub ImportHasNoFault : Type 0
ImportHasNoFault = (bytes : List ℕ) (edits : List Edit) (fault : ImportFault) → IsImport bytes edits → IsFirstFault bytes fault → ⊥

-- bytes have one first fault at most
abbrev pub FirstFaultIsOne : Type 0
FirstFaultIsOne = (bytes : List ℕ) (a b : ImportFault) → IsFirstFault bytes a → IsFirstFault bytes b → a ≡ b

-- no bytes are neither an import nor at fault
abbrev pub NoBytesAreNeither : Type 0
NoBytesAreNeither = (bytes : List ℕ) → ((edits : List Edit) → IsImport bytes edits → ⊥) → ((fault : ImportFault) → IsFirstFault bytes fault → ⊥) → ⊥
