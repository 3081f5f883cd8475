-- What `compile` says of a text. This project's own.
use Rattle.std.specs.Prelude.{◌≡◌, ◌≢◌, ℕ, ◌≤◌, List, length}
use Rattle.req_tree.specs.Tree.{Tree}
use Rattle.req_blob.specs.Spelling.{plain_blob}
use Rattle.req_blob.specs.declared.limits.TheConstants.{MOST_BYTES}
use Rattle.req_grammar.specs.Readings.{IsRequirementText}
use Rattle.req_tokens.specs.declared.fault.TextFault.{TextFault}
use Rattle.req_tokens.specs.declared.fault.TextFault.TheVariants.{OutOfMemory}
use Rattle.req_parser.specs.Failures.{FailsText}
use Rattle.run_status.specs.declared.status.Status.{Status}
use Rattle.language_commands.specs.Taken.{TakenOrRefused}
use Rattle.language_commands.specs.Refusals.{text_refusal}

-- the plain blob of a requirement, which is no longer than a blob may be
abbrev pub IsBlob : Tree → List ℕ → Type 0
IsBlob tree said = (said ≡ plain_blob tree) × (length said ≤ MOST_BYTES)

-- the text is that of one requirement, of which this is said
pub record SaysOfText (Says : Tree → List ℕ → Type 0) (text said : List ℕ) : Type 0 where
  pub tree : Tree
  pub is_text : IsRequirementText text tree
  pub only : (other : Tree) → IsRequirementText text other → other ≡ tree
  pub says : Says tree said

-- the text is no requirement, and the line tells the first check that fails; that memory runs out is none
pub record RefusesText (text said : List ℕ) : Type 0 where
  pub none : (tree : Tree) → IsRequirementText text tree → ⊥
  pub fault : TextFault
  pub known : fault ≢ OutOfMemory
  pub fails : FailsText text fault
  pub line : said ≡ text_refusal fault

-- what `compile` says of a text, by its status
abbrev pub Compiles : List ℕ → Status → List ℕ → Type 0
Compiles text status said = TakenOrRefused (SaysOfText IsBlob text) (RefusesText text) status said
