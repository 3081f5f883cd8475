use Rattle.std.proofs.Common.{◌∷◌, [], ◌++◌, refl, sym, subst}
use Rattle.std.specs.Prelude.{IsNone}
use Rattle.policy_model.specs.History.{edit_failed, edit_starved}
use Rattle.rule_edits.specs.Edit.{edit_of}
use Rattle.object_model.specs.Stands as model
use Rattle.desk_state.specs.Answer.{given}
use Rattle.desk_state.specs.Stands.{plain}
use Rattle.desk_state.proofs.Edited.{stands_edited, same_unedited}
use Rattle.desk_state.proofs.OfDesk.{edited_keeps}
use Rattle.desk_state.proofs.desk.Desk.edit.Goals as goal

pub returns-clause-stands : goal.returns-clause-stands
returns-clause-stands g c = λ o h some s.
    stands_edited c.a_desk_goes_on_standing.ensures.edit (plain c.args.self.now) (plain c.make.new.self) o h (edit_of c.args.edit.now) (given c.make.result) c.make.ensures.edited some s

pub returns-clause-failed : goal.returns-clause-failed
returns-clause-failed g c = λ o h failed s.
    let none : IsNone (given c.make.result) = subst (λ r. IsNone (given r)) (sym failed) refl in
    subst (λ x. model.Stands x o (h ++ edit_failed (edit_of c.args.edit.now) ∷ [])) (sym (same_unedited (plain c.args.self.now) (plain c.make.new.self) (edit_of c.args.edit.now) (given c.make.result) c.make.ensures.edited none))
    (c.a_desk_goes_on_standing.ensures.failed (plain c.args.self.now) o h (edit_of c.args.edit.now) (c.make.ensures.edited.wanting none) s)

pub returns-clause-starved : goal.returns-clause-starved
returns-clause-starved g c = λ o h starved s.
    let none : IsNone (given c.make.result) = subst (λ r. IsNone (given r)) (sym starved) refl in
    subst (λ x. model.Stands x o (h ++ edit_starved (edit_of c.args.edit.now) ∷ [])) (sym (same_unedited (plain c.args.self.now) (plain c.make.new.self) (edit_of c.args.edit.now) (given c.make.result) c.make.ensures.edited none))
    (c.a_desk_goes_on_standing.ensures.starved (plain c.args.self.now) o h (edit_of c.args.edit.now) (c.make.ensures.edited.wanting none) s)

pub returns-clause-of_desk : goal.returns-clause-of_desk
returns-clause-of_desk g c = edited_keeps c.what_was_judged_is_of_the_desk.ensures.edit (plain c.args.self.now) (plain c.make.new.self) (edit_of c.args.edit.now) (given c.make.result) c.args.self.now.own_ids c.make.ensures.edited
