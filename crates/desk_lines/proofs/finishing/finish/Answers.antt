-- What was judged at a place is finished as of it, where its ask stands.
use Rattle.std.proofs.Common.{◌≡◌, slice_get}
use Rattle.object_model.specs.Tickets.{ticket_ask}
use Rattle.desk_state.specs.Judged.{IsJudgedAt}
use Rattle.desk_lines.proofs.Finishes.{same_ask}
use Rattle.desk_lines.proofs.finishing.finish.Goals as goal

pub returns-in-Open-clause-finished : goal.returns-in-Open-clause-finished
returns-in-Open-clause-finished c = λ o h k a stands at held.
    let j : IsJudgedAt c.in-Open.judged o h k = rw c.in-Open.is at held in
    let same : a ≡ ticket_ask j.0 = same_ask a _ (slice_get h k) at j.2.begun in
    rw same (c.finish_judged.ensures.finished o h k j.0 stands j.2 j.1)

pub finish_judged-requires-clause-of_desk : goal.finish_judged-requires-clause-of_desk
finish_judged-requires-clause-of_desk c = rw c.in-Open.is at c.requires.of_desk

pub returns-in-Known-clause-of_desk : goal.returns-in-Known-clause-of_desk
returns-in-Known-clause-of_desk c = λ kind subject at mark said of. of
