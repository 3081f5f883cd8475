-- Texts as bytes, and what is in the way. This project's own.
use Rattle.std.specs.Prelude.{ℕ, ◌≡◌, ◌≢◌, List, Err}
use Rattle.req_tree.specs.Tree.{Tree}
use Rattle.req_grammar.specs.Readings.{IsRequirementText}
use Rattle.req_blob.specs.declared.fault.OpsFault.TheVariants as ops
use Rattle.req_blob.specs.Decoding.{decoded}
use Rattle.req_blob.specs.Spelling.{IsPlain, IsSpelling}
use Rattle.dumped_text.specs.Dumped.{dumped}
use Rattle.req_parser.specs.Failures.{FailsText}
use Rattle.req_tokens.specs.declared.fault.TextFault.TheVariants as text
use Rattle.req_language.specs.declared.through.LanguageFault.{LanguageFault}
use Rattle.req_language.specs.declared.through.LanguageFault.TheVariants.{Bytes, Text}

-- the bytes are the plain ones of the requirement that the text is
pub record IsBlobOf (text bytes : List ℕ) : Type 0 where
  pub tree : Tree
  pub says : IsRequirementText text tree
  pub plain : IsPlain tree bytes

-- the text's own fault, or there was no memory
abbrev pub IsTextFault : List ℕ → LanguageFault → Type 0
IsTextFault source (Bytes why) = why ≡ ops.OutOfMemory
IsTextFault source (Text why) = FailsText source why

-- there was no memory
abbrev pub IsMemory : LanguageFault → Type 0
IsMemory (Bytes why) = why ≡ ops.OutOfMemory
IsMemory (Text why) = why ≡ text.OutOfMemory

-- why bytes don't come back: they are no requirement, and this is their first fault; or the text of the tree that
-- they spell has this fault; or there was no memory
abbrev pub IsThroughFault : List ℕ → LanguageFault → Type 0
IsThroughFault bytes (Bytes why) = why ≢ ops.OutOfMemory → decoded bytes ≡ Err why
IsThroughFault bytes (Text why) = (tree : Tree) × IsSpelling tree bytes × FailsText (dumped tree) why
