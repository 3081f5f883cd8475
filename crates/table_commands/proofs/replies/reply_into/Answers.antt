use Rattle.std.proofs.Common.{rules, ◌≡◌, ◌≢◌, refl, subst}
use Rattle.policy_model.specs.Tables.{Tables, IsAccepted}
use Rattle.policy_model.specs.Edits.{does}
use Rattle.rule_edits.specs.Edit.{edit_of}
use Rattle.line_text.specs.LineText.{line_bytes}
use Rattle.desk_state.specs.Answer.{answer_of, fault_text}
use Rattle.desk_state.specs.declared.fault.EditFault.TheVariants.{OutOfMemory}
use Rattle.table_commands.proofs.Came.{came_answered, came_fault}
use Rattle.table_commands.proofs.replies.reply_into.Goals as goal

pub returns-in-Ok-clause-replies : goal.returns-in-Ok-clause-replies
returns-in-Ok-clause-replies g c = λ o h stands.
    came_answered o h (edit_of c.args.edit.now) c.edit.new.self _ _ _ (answer_of c.in-Ok.answer) (rw (c.line_into.ensures.text, c.requires.empty) refl) (c.in-Ok.ensures.legal o h stands) (c.in-Ok.ensures.stands o h refl stands) (c.in-Ok.ensures.steady (λ is. cc))

pub returns-in-Err-clause-replies : goal.returns-in-Err-clause-replies
returns-in-Err-clause-replies g c = λ o h stands.
    let known : c.in-Err.fault ≢ OutOfMemory = search rules in
    let text : line_bytes c.line_into-in-Err.new.out ≡ fault_text c.in-Err.fault = search rules in
    came_fault o h (edit_of c.args.edit.now) c.edit.new.self _ _ _ c.in-Err.fault known text (c.in-Err.ensures.legal o h stands) (λ some. c.in-Err.ensures.stands o h some stands)
    (λ is. c.in-Err.ensures.failed o h is stands) (λ none. subst (λ (t : Tables). IsAccepted (does t (edit_of c.args.edit.now)).answer) stands.tables_are (c.in-Err.ensures.edited.wanting none)) c.in-Err.ensures.cause c.in-Err.ensures.steady

pub returns-in-Err-OutOfMemory-clause-unchanged : goal.returns-in-Err-OutOfMemory-clause-unchanged
returns-in-Err-OutOfMemory-clause-unchanged g c = λ o h stands. c.in-Err-OutOfMemory.ensures.unchanged o h (rw c.in-Err-OutOfMemory.field-0-is refl) stands
