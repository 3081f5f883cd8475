-- How an assessment is finished: where its verdict comes from, and what becomes of its outcome. This project's own.
use Rattle.std.specs.Prelude.{ℕ, List, [], ◌∷◌, ◌++◌, take, Option, Some, None, if◌then◌else◌}
use Rattle.std.specs.List.{list_any}
use Rattle.req_tree.specs.Subject.{Subject}
use Rattle.policy_model.specs.Outcomes.{Ask}
use Rattle.policy_model.specs.History.{Event, Opening, ask_answer}
use Rattle.policy_model.specs.History as event
use Rattle.policy_model.specs.ReplyTexts.{verdict_text}
use Rattle.object_model.specs.Objects.{Offered, is_for}
use Rattle.object_model.specs.Origins.{origin_with, fate_of}
use Rattle.object_model.specs.Kept.{decision_of, objects_of}

-- what becomes of the ask at place k when it is finished after h: none where there is nothing to offer, since no rule was asked
abbrev pub offer_of : Opening → List Event → ℕ → Ask → Option Subject → Option Offered
offer_of o h k a None = None
offer_of o h k a (Some s) = if list_any (is_for a.kind s) (objects_of o (take k h)) then None else Some (decision_of o h (objects_of o h) k a s)

-- the history after that
abbrev pub with_offer : Option Offered → ℕ → List Event → List Event
with_offer None k h = h
with_offer (Some offered) k h = h ++ event.offer k ∷ []

-- the reply to the ask at place k, finished after h: its verdict is that of its own place
abbrev pub finished_text : Opening → List Event → ℕ → Ask → List ℕ
finished_text o h k a = verdict_text (ask_answer o (take k h) a) (origin_with (objects_of o (take k h)) a.kind a.subject) (fate_of (offer_of o h k a a.subject))

-- the history with the offer, where there is one
abbrev pub finished_history : Opening → List Event → ℕ → Ask → List Event
finished_history o h k a = with_offer (offer_of o h k a a.subject) k h
