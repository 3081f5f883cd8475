-- How an assessment is finished.
use Rattle.std.specs.Prelude.{◌≡◌, ℕ, List, take}
use Rattle.policy_model.specs.Outcomes.{verdict_by}
use Rattle.policy_model.specs.ReplyTexts.{rules}
use Rattle.policy_model.specs.History.{Event, Opening, ask_answer}
use Rattle.object_model.specs.Kept.{objects_of, decision_of}
use Rattle.object_model.specs.Tickets.{Ticket, ticket_ask, judged}
use Rattle.object_model.specs.Plain.{Plain}
use Rattle.object_model.specs.Stands as model
use Rattle.object_cache.specs.Offered.{offered_of}
use Rattle.desk_state.specs.declared.finished.Finished as code
use Rattle.desk_state.specs.Verdict.{verdict_of, origin_of}

-- the verdict is as of the beginning, by the rules; the offer is decided now
pub record IsFinished (d : Plain) (t : Ticket) (f : code.Finished) : Type 0 where
  pub verdict_is : verdict_of f.verdict ≡ verdict_by t.enabled t.at (judged t)
  pub by_rules : origin_of f.verdict.origin ≡ rules
  pub offered_is : offered_of f.offered ≡ model.offered t d

-- the verdict is the legal answer at the place k of the ask, and the offer is decided by the history
pub record FinishesAfter (o : Opening) (h : List Event) (k : ℕ) (t : Ticket) (f : code.Finished) : Type 0 where
  pub verdict_is : verdict_of f.verdict ≡ ask_answer o (take k h) (ticket_ask t)
  pub offered_is : offered_of f.offered ≡ decision_of o h (objects_of o h) k (ticket_ask t) t.subject
