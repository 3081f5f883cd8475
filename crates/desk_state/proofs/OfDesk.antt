-- What begins on a desk is of it, and stays so.
use Rattle.std.proofs.Common.{◌≡◌, ℕ, refl, sym, subst, Option, Some, None}
use Rattle.std.specs.Prelude.{Bool}
use Rattle.req_tree.specs.Subject.{Subject, subject_of}
use Rattle.policy_model.specs.Rules.{Kind}
use Rattle.policy_model.specs.Contents.{Edit}
use Rattle.policy_model.specs.Tables.{Answer}
use Rattle.policy_model.specs.Outcomes.{Ask, Outcome}
use Rattle.policy_model.specs.History.{HasOwnIds}
use Rattle.object_model.specs.Plain.{Plain}
use Rattle.rule_values.specs.Kind.{kind_of}
use Rattle.rule_values.specs.Outcome.{outcome_of}
use Rattle.assess.specs.Laws.{SnapshotsJudgeAlike}
use Rattle.object_model.specs.Tickets.{Ticket}
use Rattle.object_model.specs.Stands as model
use Rattle.object_model.specs.Stands.{ticket_on}
use Rattle.object_model.specs.OfDesk.{IsOfDesk, IsTicketOfDesk, KeepsOf}
use Rattle.object_model.specs.OfDeskLaws.{BeginsOfDesk, EditKeepsOf, EntriesKeepOf}
use Rattle.desk_ticket.specs.Ticket.{ticket_of}
use Rattle.desk_state.specs.declared.begun.Begun as begun
use Rattle.desk_state.specs.declared.begun.Begun.TheVariants as begun_as
use Rattle.desk_state.specs.declared.judged.Judged as code
use Rattle.desk_state.specs.declared.judged.Looked.{Looked}
use Rattle.desk_state.specs.declared.judged.Looked.TheVariants.{Known, Open}
use Rattle.desk_state.specs.Begun.{IsBegun, IsBegunOfDesk}
use Rattle.desk_state.specs.Keeping.{IsEdited}
use Rattle.desk_state.specs.Judged.{IsJudged, IsJudgedOn, IsJudgedOfDesk, IsLooked, IsLookedOfDesk, settled_on}
use Rattle.desk_state.proofs.Purged.{whole_edited}
use Rattle.desk_state.proofs.Edited.{same_unedited}

-- the ticket of an ask that begins is of the desk
pub begun_of_desk : BeginsOfDesk → SnapshotsJudgeAlike → (d : Plain) (a : Ask) → HasOwnIds d.tables → (b : begun.Begun) → IsBegun d a b → IsBegunOfDesk d b
begun_of_desk begins alike d a ids (begun_as.Known verdict) is = tt
begun_of_desk begins alike d a ids (begun_as.Pending ticket) is =
    let t = ticket_of ticket in
    subst (IsTicketOfDesk d) (sym is.1.holds) (begins d a.kind t.subject a.keep t.rows (alike d.tables a.kind t.rows ids is.1.snapshot))

-- the same over a kind, a subject, a moment, a mark and an outcome that are the same
over : (d : Plain) (k l : Kind) (s u : Subject) (a b m n : ℕ) (x y : Outcome) → k ≡ l → s ≡ u → a ≡ b → m ≡ n → x ≡ y → IsOfDesk d l u b n y → IsOfDesk d k s a m x
over d k l s u a b m n x y p q r t v of =
    subst (λ z. IsOfDesk d z s a m x) (sym p)
    (subst (λ z. IsOfDesk d l z a m x) (sym q)
    (subst (λ z. IsOfDesk d l u z m x) (sym r)
    (subst (λ z. IsOfDesk d l u b z x) (sym t)
    (subst (λ z. IsOfDesk d l u b n z) (sym v) of))))

-- what was judged is of the desk where its ticket is
pub judged_of_desk : (d : Plain) (j : code.Judged) (t : Ticket) → IsJudged j t → IsTicketOfDesk d t → IsJudgedOfDesk d j
judged_of_desk d j t is of = over d (kind_of j.kind) t.kind (subject_of j.subject) t.subject j.at t.at j.mark t.mark (outcome_of j.outcome) _ is.kind is.subject is.at is.mark is.outcome of

open_of_desk : BeginsOfDesk → (d : Plain) (kind : Kind) (subject : Option Subject) (keep : Bool) (j : code.Judged) → IsJudgedOn d (record { kind = kind; subject = subject; keep = keep }) j subject → IsJudgedOfDesk d j
open_of_desk begins d kind None keep j is = absurd is
open_of_desk begins d kind (Some subject) keep j is = judged_of_desk d j (ticket_on d kind subject keep d.tables.rows) is (begins d kind subject keep d.tables.rows (λ s f m. refl))

-- so is what is judged as it begins
pub looked_of_desk : BeginsOfDesk → (d : Plain) (a : Ask) (l : Looked) → IsLooked d a l → IsLookedOfDesk d l
looked_of_desk begins d a (Known verdict) is = tt
looked_of_desk begins d a (Open j) is = open_of_desk begins d a.kind a.subject a.keep j is.1

-- a call that leaves all keeps what is of the desk
pub same_keeps : (d e : Plain) → e ≡ d → KeepsOf d e
same_keeps d e is = subst (KeepsOf d) (sym is) (λ kind subject at mark said of. of)

-- so does a ticket that is finished
pub finished_keeps : EntriesKeepOf → (d e : Plain) (t : Ticket) → e ≡ model.finished t d → KeepsOf d e
finished_keeps keep d e t is = subst (KeepsOf d) (sym is) (keep d (model.finished t d).entries)

-- and what was judged, as it is finished
pub settled_keeps : EntriesKeepOf → (d e : Plain) (j : code.Judged) → e ≡ settled_on j d → KeepsOf d e
settled_keeps keep d e j is = subst (KeepsOf d) (sym is) (keep d (settled_on j d).entries)

-- and an edit, whatever is answered
pub edited_keeps : EditKeepsOf → (d new : Plain) (e : Edit) (g : Option Answer) → HasOwnIds d.tables → IsEdited e d new g → KeepsOf d new
edited_keeps keep d new e None ids is = same_keeps d new (same_unedited d new e None is refl)
edited_keeps keep d new e (Some a) ids is =
    subst (KeepsOf d) (sym (whole_edited d new e (Some a) refl is.done.1 is.facts is.moment is.cache)) (keep d e ids)
