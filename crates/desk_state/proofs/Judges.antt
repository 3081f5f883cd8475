-- An assessment that is judged as it begins, after any history.
use Rattle.std.proofs.Common.{◌≡◌, ℕ, List, [], ◌∷◌, ◌++◌, length, Bool, false, refl, ap, ◌∙◌, Option, Some, None}
use Rattle.std.specs.List.{find, list_any}
use Rattle.req_tree.specs.Subject.{Subject, subject_of}
use Rattle.policy_model.specs.Rules.{Row, Kind}
use Rattle.policy_model.specs.Outcomes.{Ask, Outcome, outcome, outcome_by, verdict_by}
use Rattle.policy_model.specs.History.{Event, Opening, ask, HasOwnIds}
use Rattle.policy_model.specs.Laws.{OutcomeIsOne}
use Rattle.authority_table.specs.declared.found.Found.{Found}
use Rattle.authority_table.specs.Found.{IsFound, governing_row, latent_row, StandsUntil}
use Rattle.rule_values.specs.Kind.{kind_of}
use Rattle.rule_values.specs.Outcome.{outcome_of}
use Rattle.object_model.specs.Objects.{is_for}
use Rattle.object_model.specs.Plain.{Plain}
use Rattle.object_model.specs.Tickets.{Ticket, judged}
use Rattle.object_model.specs.Stands as model
use Rattle.object_model.specs.Stands.{Stands, ticket_on}
use Rattle.object_model.specs.OfDesk.{offered_by, settled_by}
use Rattle.object_model.specs.StandsLaws.{KnownAnswers, BeginGives}
use Rattle.desk_state.specs.declared.desk.Desk.{Desk}
use Rattle.desk_state.specs.declared.finished.Finished.{Finished}
use Rattle.desk_state.specs.declared.judged.Judged as code
use Rattle.desk_state.specs.declared.judged.Looked.{Looked}
use Rattle.desk_state.specs.declared.judged.Looked.TheVariants.{Known, Open}
use Rattle.desk_state.specs.Verdict.{verdict_of, origin_of}
use Rattle.desk_state.specs.Stands as desk
use Rattle.desk_state.specs.Begun.{known_on}
use Rattle.desk_state.specs.Finished.{IsFinished}
use Rattle.desk_state.specs.Judged.{IsJudged, IsJudgedAt, IsJudgedOn, IsLooked, LooksAfter, IsSettled, settled_on}
use Rattle.desk_state.proofs.Assessed.{missed_any, none_found, known_after}

-- the outcome of what was found is that of all rules
pub found_outcome : OutcomeIsOne → (d : Desk) (kind : Kind) (s : Subject) (f : Found) (x : Outcome) → HasOwnIds (desk.tables d) → IsFound (desk.tables d).rows kind s (desk.facts_of d) (desk.moment_of d) f →
    ((rows : List Row) (k : Kind) (m : ℕ) → StandsUntil rows k m f → x ≡ outcome_by rows k m (governing_row f) (latent_row f)) → x ≡ outcome (desk.tables d).rows kind s (desk.facts_of d) (desk.moment_of d)
found_outcome one d kind s f x ids found by =
    by (desk.tables d).rows kind (desk.moment_of d) found.until ∙ one (desk.tables d) ids kind s (desk.facts_of d) (desk.moment_of d) _ (governing_row f, latent_row f, found.governing, found.latent, refl)

-- what is judged is so after any history

open_after : BeginGives → (d : Plain) (o : Opening) (h : List Event) (kind : Kind) (subject : Option Subject) (keep : Bool) (j : code.Judged) → Stands d o h → known_on d kind subject ≡ None →
    IsJudgedOn d (record { kind = kind; subject = subject; keep = keep }) j subject → IsJudgedAt j o (h ++ ask (record { kind = kind; subject = subject; keep = keep }) ∷ []) (length h)
open_after gives d o h kind None keep j s unknown is = absurd is
open_after gives d o h kind (Some subject) keep j s unknown is =
    let missed : list_any (is_for kind subject) d.entries ≡ false =
    missed_any (is_for kind subject) d.entries (none_found d (find (is_for kind subject) d.entries) unknown) in
    (ticket_on d kind subject keep d.tables.rows, is, gives d o h kind subject keep d.tables.rows s missed (λ x f m. refl))

pub looks_after : KnownAnswers → BeginGives → (d : Plain) (o : Opening) (h : List Event) (a : Ask) → Stands d o h → (l : Looked) → IsLooked d a l → LooksAfter o h a l
looks_after known gives d o h a s (Known v) is = known_after known d o h a.kind a.subject a.keep (verdict_of v) (origin_of v.origin) s is
looks_after known gives d o h a s (Open j) is = open_after gives d o h a.kind a.subject a.keep j s is.0 is.1

-- what was judged is finished as the ticket is

same_offer : (d : Plain) (k l : Kind) (s u : Subject) (b c : Bool) (m n : ℕ) (x y : Outcome) → k ≡ l → s ≡ u → b ≡ c → m ≡ n → x ≡ y → offered_by k s b m x d ≡ offered_by l u c n y d
same_offer d k l s u b c m n x y p q r t v =
    ap (λ z. offered_by z s b m x d) p ∙ ap (λ z. offered_by l z b m x d) q ∙ ap (λ z. offered_by l u z m x d) r ∙ ap (λ z. offered_by l u c z x d) t ∙ ap (λ z. offered_by l u c n z d) v

same_settle : (d : Plain) (k l : Kind) (s u : Subject) (b c : Bool) (m n : ℕ) (x y : Outcome) → k ≡ l → s ≡ u → b ≡ c → m ≡ n → x ≡ y → settled_by k s b m x d ≡ settled_by l u c n y d
same_settle d k l s u b c m n x y p q r t v =
    ap (λ z. settled_by z s b m x d) p ∙ ap (λ z. settled_by l z b m x d) q ∙ ap (λ z. settled_by l u z m x d) r ∙ ap (λ z. settled_by l u c z x d) t ∙ ap (λ z. settled_by l u c n z d) v

pub finished_is : (d : Plain) (j : code.Judged) (t : Ticket) (f : Finished) → IsJudged j t → IsSettled d j f → IsFinished d t f
finished_is d j t f of is = record {
  verdict_is = is.verdict_is
      ∙ ap (λ e. verdict_by e j.at (outcome_of j.outcome)) of.enabled
      ∙ ap (λ m. verdict_by t.enabled m (outcome_of j.outcome)) of.at
      ∙ ap (verdict_by t.enabled t.at) of.outcome;
  by_rules = is.by_rules_is;
  offered_is = is.offered_is
      ∙ same_offer d (kind_of j.kind) t.kind (subject_of j.subject) t.subject j.keep t.keep j.mark t.mark (outcome_of j.outcome) (judged t) of.kind of.subject of.keep of.mark of.outcome;
}

pub settled_is : (d : Plain) (j : code.Judged) (t : Ticket) → IsJudged j t → settled_on j d ≡ model.finished t d
settled_is d j t of = same_settle d (kind_of j.kind) t.kind (subject_of j.subject) t.subject j.keep t.keep j.mark t.mark (outcome_of j.outcome) (judged t) of.kind of.subject of.keep of.mark of.outcome
