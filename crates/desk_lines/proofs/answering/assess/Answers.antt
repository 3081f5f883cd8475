-- An assessment begins, and is finished at once.
use Rattle.std.proofs.Common.{◌∷◌, [], ◌++◌, length, refl, inl}
use Rattle.policy_model.specs.History as event
use Rattle.session_model.specs.Finishing.{offer_of, finished_history}
use Rattle.assess.specs.Ask.{ask_of}
use Rattle.desk_state.specs.Stands.{plain}
use Rattle.desk_lines.proofs.Places.{get_last}
use Rattle.desk_lines.proofs.Failed.{shows_both}
use Rattle.desk_lines.proofs.Finishes.{held_now, opens_offered}
use Rattle.desk_lines.proofs.answering.assess.Goals as goal

pub returns-clause-replies : goal.returns-clause-replies
returns-clause-replies c = λ held n o s stands stand.
    let a = ask_of c.args.ask.now in
    let now = held_now (plain c.args.desk.now) o s.history a c.judge-looked.result c.judge-looked.ensures.looked (c.judge-looked.ensures.after o s.history stands) in
    let done = c.finish.ensures.finished o (s.history ++ event.ask a ∷ []) (length s.history) a (c.judge-looked.ensures.stands o s.history stands) (get_last s.history (event.ask a)) now in (
      record { history = finished_history o (s.history ++ event.ask a ∷ []) (length s.history) a; slots = s.slots },
      inl (refl, done.0),
      done.1,
      opens_offered c.a_ticket_is_enough.ensures.stays o s.history a (offer_of o (s.history ++ event.ask a ∷ []) (length s.history) a a.subject) 0 held s.slots stand,
      shows_both (offer_of o (s.history ++ event.ask a ∷ []) (length s.history) a a.subject) (length s.history) s.history a n,
    )
