-- A tick leaves what is open.
use Rattle.std.proofs.Common.{◌∷◌, [], ◌++◌, refl, inl}
use Rattle.policy_model.specs.History as event
use Rattle.desk_lines.proofs.Opens.{opens_stay}
use Rattle.desk_lines.proofs.Failed.{shows_more}
use Rattle.desk_lines.proofs.answering.tick.Goals as goal

pub returns-clause-replies : goal.returns-clause-replies
returns-clause-replies c = λ held n o s stands stand. (
  record { history = s.history ++ event.tick c.args.at ∷ []; slots = s.slots },
  inl (refl, rw (c.push_number.ensures.text, c.push_all.ensures.text, c.requires, c.get.ensures.value, c.tick-now.ensures.legal o s.history stands) refl),
  c.tick-now.ensures.stands o s.history stands,
  opens_stay c.a_ticket_is_enough.ensures.stays o s.history (event.tick c.args.at) 0 held s.slots (λ k less is. cc) stand,
  shows_more s.history (event.tick c.args.at) n refl,
)
