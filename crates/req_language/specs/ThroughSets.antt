-- Texts of sets as bytes, and what is in the way. This project's own.
use Rattle.std.specs.Prelude.{ℕ, ◌≡◌, List, IfSome}
use Rattle.req_tree.specs.TreeSet.{TreeSet, part_of}
use Rattle.req_tree.specs.Spellable.{IsShallow}
use Rattle.req_grammar.specs.Readings.{IsSetText}
use Rattle.req_blob.specs.declared.fault.OpsFault.TheVariants as ops
use Rattle.req_ops.specs.declared.fault.SetFault.TheVariants as sets
use Rattle.req_ops.specs.Sets.{IsSetSpelling, SetFails}
use Rattle.req_ops.specs.SetEncoding.{IsPlainSet}
use Rattle.dumped_text.specs.Dumped.{dumped_set}
use Rattle.req_parser.specs.SetFailures.{FailsSetText}
use Rattle.req_tokens.specs.declared.fault.TextFault.TheVariants as text
use Rattle.req_language.specs.declared.through_sets.SetLanguageFault.{SetLanguageFault}
use Rattle.req_language.specs.declared.through_sets.SetLanguageFault.TheVariants.{Bytes, Text, Blob}

-- the bytes are the plain ones of the set that the text is
pub record IsSetBlobOf (text bytes : List ℕ) : Type 0 where
  pub set : TreeSet
  pub says : IsSetText text set
  pub plain : IsPlainSet set bytes

-- each tree of the set is no deeper than a requirement may be
abbrev pub IsShallowSet : TreeSet → Type 0
IsShallowSet set = (kind : ℕ) → IfSome (part_of kind set) IsShallow

-- the text's own fault, or there was no memory
abbrev pub IsSetTextFault : List ℕ → SetLanguageFault → Type 0
IsSetTextFault source (Bytes why) = why ≡ sets.OutOfMemory
IsSetTextFault source (Text why) = FailsSetText source why
IsSetTextFault source (Blob why) = why ≡ ops.OutOfMemory

-- there was no memory
abbrev pub IsSetMemory : SetLanguageFault → Type 0
IsSetMemory (Bytes why) = why ≡ sets.OutOfMemory
IsSetMemory (Text why) = why ≡ text.OutOfMemory
IsSetMemory (Blob why) = why ≡ ops.OutOfMemory

-- why a set's bytes don't come back: they are no set, and this is their first fault; or the text of the set that they
-- spell has this fault; or there was no memory
abbrev pub IsThroughSetFault : List ℕ → SetLanguageFault → Type 0
IsThroughSetFault bytes (Bytes why) = SetFails bytes why
IsThroughSetFault bytes (Text why) = (set : TreeSet) × IsSetSpelling set bytes × FailsSetText (dumped_set set) why
IsThroughSetFault bytes (Blob why) = why ≡ ops.OutOfMemory
