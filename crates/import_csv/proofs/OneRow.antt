-- A row asks for one edit, or has one first column that doesn't fit.
use Rattle.std.proofs.Common.{◌≡◌, ◌≢◌, ℕ, List, Result, Ok, Err, refl, sym, ap, ◌∙◌}
use Rattle.req_tree.specs.Tree.{Tree}
use Rattle.req_grammar.specs.Readings.{IsRequirementText}
use Rattle.req_grammar.specs.Laws.{OneTree}
use Rattle.req_tokens.specs.declared.fault.TextFault.{TextFault}
use Rattle.req_tokens.specs.declared.fault.TextFault.TheVariants.{OutOfMemory}
use Rattle.req_parser.specs.Failures.{FailsText}
use Rattle.line_model.specs.Requirements.{ReadsAs}
use Rattle.policy_model.specs.Contents.{Edit}
use Rattle.import_csv.specs.ImportRows.{Asked, asked_in, edit_by, Makes, IsRow}

-- no text that fails is a requirement
abbrev pub FailsAlone : Type 0
FailsAlone = (text : List ℕ) (fault : TextFault) (tree : Tree) → fault ≢ OutOfMemory → FailsText text fault → IsRequirementText text tree → ⊥

module _ (one : OneTree) (alone : FailsAlone) where
  reads_one : (asked : Asked) (a b : Result Tree TextFault) → ReadsAs asked.text a → ReadsAs asked.text b → edit_by asked a ≡ edit_by asked b
  reads_one asked (Ok s) (Ok t) h k = ap (λ (tree : Tree). edit_by asked (Ok tree)) (one asked.text s t h k)
  reads_one asked (Ok s) (Err g) h k = absurd (alone asked.text g s k.1 k.0 h)
  reads_one asked (Err f) (Ok t) h k = absurd (alone asked.text f t h.1 h.0 k)
  reads_one asked (Err f) (Err g) h k = refl

  makes_one : (asked : Result Asked ℕ) (a b : Result Edit ℕ) → Makes asked a → Makes asked b → a ≡ b
  makes_one (Err column) a b h k = h ∙ sym k
  makes_one (Ok asked) a b h k = h.2 ∙ reads_one asked h.0 k.0 h.1 k.1 ∙ sym k.2

  -- what a row asks for is one thing
  pub row_is_one : (fields : List (List ℕ)) (a b : Result Edit ℕ) → IsRow fields a → IsRow fields b → a ≡ b
  row_is_one fields a b h k = makes_one (asked_in fields) a b h k

  -- a row that asks for an edit has no fault
  pub row_has_no_fault : (fields : List (List ℕ)) (e : Edit) (column : ℕ) → IsRow fields (Ok e) → IsRow fields (Err column) → ⊥
  row_has_no_fault fields e column h k = let same : Ok e ≡ Err column = row_is_one fields (Ok e) (Err column) h k in cc
