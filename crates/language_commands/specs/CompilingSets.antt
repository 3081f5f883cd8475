-- What `compileset` says of a text. This project's own.
use Rattle.std.specs.Prelude.{◌≡◌, ◌≢◌, ℕ, List}
use Rattle.req_tree.specs.TreeSet.{TreeSet}
use Rattle.req_ops.specs.SetEncoding.{IsPlainSet}
use Rattle.req_grammar.specs.Readings.{IsSetText}
use Rattle.req_tokens.specs.declared.fault.TextFault.{TextFault}
use Rattle.req_tokens.specs.declared.fault.TextFault.TheVariants.{OutOfMemory}
use Rattle.req_parser.specs.SetFailures.{FailsSetText}
use Rattle.run_status.specs.declared.status.Status.{Status}
use Rattle.language_commands.specs.Taken.{TakenOrRefused}
use Rattle.language_commands.specs.Refusals.{text_refusal}

-- the text is that of one set, of which this is said
pub record SaysOfSetText (Says : TreeSet → List ℕ → Type 0) (text said : List ℕ) : Type 0 where
  pub set : TreeSet
  pub is_text : IsSetText text set
  pub only : (other : TreeSet) → IsSetText text other → other ≡ set
  pub says : Says set said

-- the text is no set, and the line tells the first check that fails; that memory runs out is none
pub record RefusesSetText (text said : List ℕ) : Type 0 where
  pub none : (set : TreeSet) → IsSetText text set → ⊥
  pub fault : TextFault
  pub known : fault ≢ OutOfMemory
  pub fails : FailsSetText text fault
  pub line : said ≡ text_refusal fault

-- what `compileset` says of a text, by its status
abbrev pub CompilesSet : List ℕ → Status → List ℕ → Type 0
CompilesSet text status said = TakenOrRefused (SaysOfSetText IsPlainSet text) (RefusesSetText text) status said
