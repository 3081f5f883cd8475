-- An assessment that is judged as it begins.
use Rattle.std.specs.Prelude.{◌≡◌, ⊤, ℕ, List, [], ◌∷◌, ◌++◌, length, Option, Some, None}
use Rattle.req_tree.specs.Subject.{Subject, subject_of}
use Rattle.policy_model.specs.Outcomes.{Ask, verdict_by}
use Rattle.policy_model.specs.ReplyTexts.{rules}
use Rattle.policy_model.specs.History.{Event, Opening, ask, ask_answer}
use Rattle.rule_values.specs.Kind.{kind_of}
use Rattle.rule_values.specs.Outcome.{outcome_of}
use Rattle.object_model.specs.Objects.{Offered}
use Rattle.object_model.specs.Kept.{objects_of}
use Rattle.object_model.specs.Tickets.{Ticket, IsTicketOf, judged}
use Rattle.object_model.specs.Plain.{Plain}
use Rattle.object_model.specs.Stands.{ticket_on}
use Rattle.object_model.specs.OfDesk.{IsOfDesk, offered_by, settled_by}
use Rattle.object_model.specs.Origins.{origin_with}
use Rattle.object_cache.specs.Offered.{offered_of}
use Rattle.desk_state.specs.declared.finished.Finished.{Finished}
use Rattle.desk_state.specs.declared.judged.Judged as code
use Rattle.desk_state.specs.declared.judged.Looked.{Looked}
use Rattle.desk_state.specs.declared.judged.Looked.TheVariants.{Known, Open}
use Rattle.desk_state.specs.Begun.{known_on}
use Rattle.desk_state.specs.Verdict.{verdict_of, origin_of}

-- what was judged is what this ticket judges
pub record IsJudged (j : code.Judged) (t : Ticket) : Type 0 where
  pub kind : kind_of j.kind ≡ t.kind
  pub subject : subject_of j.subject ≡ t.subject
  pub keep : j.keep ≡ t.keep
  pub at : j.at ≡ t.at
  pub enabled : j.enabled ≡ t.enabled
  pub mark : j.mark ≡ t.mark
  pub outcome : outcome_of j.outcome ≡ judged t

-- what was judged is what a ticket of the ask at place k judges
abbrev pub IsJudgedAt : code.Judged → Opening → List Event → ℕ → Type 0
IsJudgedAt j o h k = (t : Ticket) × IsJudged j t × IsTicketOf t o h k

-- an ask of this subject is judged on a desk that holds this, by all its rules
abbrev pub IsJudgedOn : Plain → Ask → code.Judged → Option Subject → Type 0
IsJudgedOn d a j None = ⊥
IsJudgedOn d a j (Some subject) = IsJudged j (ticket_on d a.kind subject a.keep d.tables.rows)

-- an ask is answered at once where something is known, and else is judged
abbrev pub IsLooked : Plain → Ask → Looked → Type 0
IsLooked d a (Known verdict) = known_on d a.kind a.subject ≡ Some (verdict_of verdict, origin_of verdict.origin)
IsLooked d a (Open j) = (known_on d a.kind a.subject ≡ None) × IsJudgedOn d a j a.subject

-- the same after a history: the legal answer and its origin, or what a ticket of the place of the ask judges
abbrev pub LooksAfter : Opening → List Event → Ask → Looked → Type 0
LooksAfter o h a (Known verdict) = (verdict_of verdict ≡ ask_answer o h a) × (origin_of verdict.origin ≡ origin_with (objects_of o h) a.kind a.subject)
LooksAfter o h a (Open j) = IsJudgedAt j o (h ++ ask a ∷ []) (length h)

-- what was judged is of a desk that holds this
abbrev pub IsJudgedOfDesk : Plain → code.Judged → Type 0
IsJudgedOfDesk d j = IsOfDesk d (kind_of j.kind) (subject_of j.subject) j.at j.mark (outcome_of j.outcome)

-- what was judged of an ask, if anything was, is of a desk that holds this
abbrev pub IsLookedOfDesk : Plain → Looked → Type 0
IsLookedOfDesk d (Known verdict) = ⊤
IsLookedOfDesk d (Open j) = IsJudgedOfDesk d j

-- what becomes of what was judged
abbrev pub offered_on : code.Judged → Plain → Offered
offered_on j d = offered_by (kind_of j.kind) (subject_of j.subject) j.keep j.mark (outcome_of j.outcome) d

-- what a desk holds after what was judged is finished
abbrev pub settled_on : code.Judged → Plain → Plain
settled_on j d = settled_by (kind_of j.kind) (subject_of j.subject) j.keep j.mark (outcome_of j.outcome) d

-- the verdict is as of the beginning, by the rules; the outcome is offered now
pub record IsSettled (d : Plain) (j : code.Judged) (f : Finished) : Type 0 where
  pub verdict_is : verdict_of f.verdict ≡ verdict_by j.enabled j.at (outcome_of j.outcome)
  pub by_rules_is : origin_of f.verdict.origin ≡ rules
  pub offered_is : offered_of f.offered ≡ offered_on j d
