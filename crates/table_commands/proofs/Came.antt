-- What one edit came to, by what the desk answered.
use Rattle.std.proofs.Common.{◌≡◌, ◌≢◌, ℕ, List, [], ◌∷◌, ◌++◌, Err, inl, inr, refl, ◌∙◌, ap}
use Rattle.std.specs.Prelude.{IsSome, IsNone, IfSome, IsErrOf}
use Rattle.gk_io.specs.Faults.{Rose}
use Rattle.policy_model.specs.Contents.{Edit}
use Rattle.policy_model.specs.Tables as model
use Rattle.policy_model.specs.Tables.{no_rule, key_reused, table_full, receipts_full, disable_full, IsAccepted}
use Rattle.policy_model.specs.History.{edit, edit_failed, Event, Opening, edit_answer}
use Rattle.policy_model.specs.ReplyTexts.{answer_text}
use Rattle.desk_state.specs.declared.answer.Answer as code
use Rattle.desk_state.specs.declared.desk.Desk.{Desk}
use Rattle.desk_state.specs.declared.fault.EditFault.{EditFault}
use Rattle.desk_state.specs.declared.fault.EditFault.TheVariants.{NoRule, KeyReused, TableFull, ReceiptsFull, DisableFull, KeeperFault, OutOfMemory}
use Rattle.desk_state.specs.Answer.{given, fault_text}
use Rattle.desk_state.specs.Stands.{Stands}
use Rattle.table_commands.specs.Steps.{Came}
use Rattle.table_commands.proofs.Failed.{shows_answered, shows_failed}

abbrev IsFailed : EditFault → Type 0
IsFailed fault = IsErrOf {T = code.Answer} (Err fault) KeeperFault

module _ (o : Opening) (h : List Event) (e : Edit) (desk : Desk) (before counted : ℕ) (reply : List ℕ) where
  pub came_answered : (answer : model.Answer) → reply ≡ answer_text answer → answer ≡ edit_answer o h e → Stands desk o (h ++ edit e ∷ []) → counted ≡ before → Came o h e desk before counted reply
  came_answered answer text legal stands same =
      (h ++ edit e ∷ [], inl (record { reply_is = text ∙ ap answer_text legal; after_is = refl }), stands, shows_answered h e before counted same)

  -- a refusal, or a fault of the keeper
  pub came_fault : (fault : EditFault) → fault ≢ OutOfMemory → reply ≡ fault_text fault → IfSome (given (Err fault)) (λ answer. answer ≡ edit_answer o h e) → (IsSome (given (Err fault)) → Stands desk o (h ++ edit e ∷ []))
      → (IsFailed fault → Stands desk o (h ++ edit_failed e ∷ [])) → (IsNone (given (Err fault)) → IsAccepted (edit_answer o h e)) → (IsFailed fault → Rose before counted) → ((IsFailed fault → ⊥) → counted ≡ before)
      → Came o h e desk before counted reply
  came_fault NoRule held text legal stands failed would cause steady = came_answered no_rule text legal (stands refl) (steady (λ is. cc))
  came_fault (KeyReused number rules) held text legal stands failed would cause steady = came_answered (key_reused number rules) text legal (stands refl) (steady (λ is. cc))
  came_fault TableFull held text legal stands failed would cause steady = came_answered table_full text legal (stands refl) (steady (λ is. cc))
  came_fault ReceiptsFull held text legal stands failed would cause steady = came_answered receipts_full text legal (stands refl) (steady (λ is. cc))
  came_fault (DisableFull rule) held text legal stands failed would cause steady = came_answered (disable_full rule) text legal (stands refl) (steady (λ is. cc))
  came_fault OutOfMemory held text legal stands failed would cause steady = absurd (held refl)
  came_fault KeeperFault held text legal stands failed would cause steady =
      (h ++ edit_failed e ∷ [], inr (record { would = would refl; reply_is = text; after_is = refl }), failed refl, shows_failed h e before counted (cause refl))
