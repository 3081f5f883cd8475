-- The one of a number is taken out and finished, or there is none.
use Rattle.std.proofs.Common.{◌≡◌, ◌==◌, None, refl, inl, sym}
use Rattle.std.specs.List.{find}
use Rattle.session_model.specs.Slots.{has_number, without, but_first}
use Rattle.session_model.specs.Finishing.{offer_of, finished_history}
use Rattle.desk_lines.proofs.Opens.{taken, none_found}
use Rattle.desk_lines.proofs.Failed.{shows_none, shows_offer}
use Rattle.desk_lines.proofs.Finishes.{left_open}
use Rattle.desk_state.specs.Stands.{plain}
use Rattle.desk_lines.specs.declared.slots.OpenSlot.{OpenSlot}
use Rattle.desk_lines.proofs.OfDesk.{stay_of_desk, found_of_desk, left_of_desk}
use Rattle.desk_lines.proofs.answering.finish_number.Goals as goal

pub returns-in-None-clause-replies : goal.returns-in-None-clause-replies
returns-in-None-clause-replies c = λ n o s stands stand.
    let none : find (has_number c.args.number) s.slots ≡ None = none_found o s.history 0 c.args.number c.args.slots.now.items s.slots stand (sym c.in-None.ensures.taken) in
    (s, inl (rw none refl, rw (none, c.push_all.ensures.text, c.requires.text) refl), stands, rw c.in-None.ensures.absent stand, shows_none s.history n)

pub returns-in-Some-clause-replies : goal.returns-in-Some-clause-replies
returns-in-Some-clause-replies c = λ n o s stands stand.
    let t = taken c.a_ticket_is_enough.ensures.stays o s.history 0 c.args.number c.in-Some.slot c.args.slots.now.items s.slots (sym c.in-Some.ensures.taken) stand in
    let done = c.finish.ensures.finished o s.history t.slot.place t.is.asked stands t.is.stands t.is.held in (
      record { history = finished_history o s.history t.slot.place t.is.asked; slots = without c.args.number s.slots },
      inl (rw (t.found, t.is.stands) refl, rw (t.found, t.is.stands) done.0),
      done.1,
      rw c.in-Some.ensures.left (left_open o s.history 0 c.args.number c.in-Some.slot c.args.slots.now.items s.slots t (offer_of o s.history t.slot.place t.is.asked t.is.asked.subject)),
      shows_offer (offer_of o s.history t.slot.place t.is.asked t.is.asked.subject) t.slot.place s.history n,
    )

pub finish-requires-clause-of_desk : goal.finish-requires-clause-of_desk
finish-requires-clause-of_desk c = found_of_desk (plain c.args.desk.now) (λ (x : OpenSlot). x.number == c.args.number) c.in-Some.slot c.args.slots.now.items c.in-Some.ensures.taken c.requires.of_desk

pub returns-in-Some-clause-of_desk : goal.returns-in-Some-clause-of_desk
returns-in-Some-clause-of_desk c =
    rw c.in-Some.ensures.left
    (stay_of_desk (plain c.args.desk.now) (plain c.finish.new.desk) (but_first (λ (x : OpenSlot). x.number == c.args.number) c.args.slots.now.items) c.finish.ensures.of_desk
    (left_of_desk (plain c.args.desk.now) (λ (x : OpenSlot). x.number == c.args.number) c.args.slots.now.items c.requires.of_desk))

pub returns-in-None-clause-of_desk : goal.returns-in-None-clause-of_desk
returns-in-None-clause-of_desk c = rw c.in-None.ensures.absent c.requires.of_desk
