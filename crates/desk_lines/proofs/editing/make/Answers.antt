-- An edit leaves what is open, whether it is answered or the keeper failed.
use Rattle.std.proofs.Common.{◌≡◌, ◌≢◌, Err, ◌∷◌, [], ◌++◌, is_some, IsNone, refl, inl, inr, ◌∙◌, ap, subst}
use Rattle.std.proofs.lemmas.Result.{on_ok_weaker, on_err_weaker}
use Rattle.line_text.specs.LineText.{line_bytes}
use Rattle.policy_model.specs.Tables.{Tables, IsAccepted}
use Rattle.policy_model.specs.Edits.{does}
use Rattle.policy_model.specs.History as event
use Rattle.policy_model.specs.History.{edit_answer}
use Rattle.rule_edits.specs.Edit.{edit_of}
use Rattle.desk_state.specs.declared.fault.EditFault.TheVariants.{OutOfMemory}
use Rattle.desk_state.specs.Answer.{given, fault_text, refusal_of}
use Rattle.desk_lines.proofs.Faults.{told_fault}
use Rattle.desk_lines.proofs.Opens.{opens_stay}
use Rattle.desk_lines.proofs.Finishes.{given_is}
use Rattle.desk_lines.proofs.Failed.{shows_steady, shows_failed}
use Rattle.desk_lines.proofs.editing.make.Goals as goal

pub returns-in-Ok-clause-replies : goal.returns-in-Ok-clause-replies
returns-in-Ok-clause-replies g c = λ held o s stands stand. (
  record { history = s.history ++ event.edit (edit_of c.args.edit.now) ∷ []; slots = s.slots },
  inl (refl, rw (c.line_into.ensures.text, c.requires.text, c.in-Ok.ensures.legal o s.history stands) refl),
  c.in-Ok.ensures.stands o s.history refl stands,
  opens_stay c.a_ticket_is_enough.ensures.stays o s.history (event.edit (edit_of c.args.edit.now)) 0 held s.slots (λ k less is. cc) stand,
  shows_steady s.history (event.edit (edit_of c.args.edit.now)) _ _ refl (c.in-Ok.ensures.steady (λ is. cc)),
)

pub returns-in-Err-clause-replies : goal.returns-in-Err-clause-replies
returns-in-Err-clause-replies g c =
    let fault = c.in-Err.fault in
    on_ok_weaker c.refuse.result
    (λ (told : (fault ≢ OutOfMemory) × (line_bytes c.refuse.new.out ≡ fault_text fault)). λ held o s stands stand. elim (told_fault fault told.0) [
      | inl failed ↦
          let is = ap Err failed in
          let none : IsNone (given (Err fault)) = rw failed refl in
          let accepted : IsAccepted (edit_answer o s.history (edit_of c.args.edit.now)) =
          subst (λ (t : Tables). IsAccepted (does t (edit_of c.args.edit.now)).answer) stands.tables_are (c.in-Err.ensures.edited.wanting none) in (
            record { history = s.history ++ event.edit_failed (edit_of c.args.edit.now) ∷ []; slots = s.slots },
            inr (accepted, (refl, told.1 ∙ ap fault_text failed)),
            c.in-Err.ensures.failed o s.history is stands,
            opens_stay c.a_ticket_is_enough.ensures.stays o s.history (event.edit_failed (edit_of c.args.edit.now)) 0 held s.slots (λ k less same. cc) stand,
            shows_failed s.history (edit_of c.args.edit.now) _ _ (c.in-Err.ensures.cause is),
          )
      | inr refused ↦ (
        record { history = s.history ++ event.edit (edit_of c.args.edit.now) ∷ []; slots = s.slots },
        inl (refl, told.1 ∙ refused.2 ∙ given_is _ _ refused.1 (c.in-Err.ensures.legal o s.history stands)),
        c.in-Err.ensures.stands o s.history refused.1 stands,
        opens_stay c.a_ticket_is_enough.ensures.stays o s.history (event.edit (edit_of c.args.edit.now)) 0 held s.slots (λ k less is. cc) stand,
        shows_steady s.history (event.edit (edit_of c.args.edit.now)) _ _ refl (c.in-Err.ensures.steady (λ same. refused.0 cc)),
      )
    ])
    c.refuse.ensures.told

pub returns-in-Err-clause-refuses : goal.returns-in-Err-clause-refuses
returns-in-Err-clause-refuses g c =
    let fault = c.in-Err.fault in
    on_err_weaker c.refuse.result
    (λ starved. (
      λ o s stands. c.in-Err.ensures.unchanged o s.history (ap (λ f. is_some (refusal_of f)) starved) stands,
      c.in-Err.ensures.steady (λ same. let other = starved in cc),
    ))
    c.refuse.ensures.starved
