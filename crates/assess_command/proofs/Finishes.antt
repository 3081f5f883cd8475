-- The line of an assessment that is finished as it begins.
use Rattle.std.proofs.Common.{◌≡◌, ◌≢◌, ℕ, List, [], ◌∷◌, ◌++◌, length, take, Bool, true, false, Option, Some, None, option_map, if◌then◌else◌, refl, sym, ap, ◌∙◌, subst, Result, Ok, Err, IfOk, OnOk, OnErr}
use Rattle.std.specs.List.{find, list_any}
use Rattle.std.specs.Prelude.{slice_get}
use Rattle.req_tree.specs.Subject.{Subject}
use Rattle.policy_model.specs.Rules.{Kind}
use Rattle.policy_model.specs.Outcomes.{Ask, Verdict}
use Rattle.policy_model.specs.History.{Event, ask, offer, Opening, Entry, ask_answer}
use Rattle.policy_model.specs.ReplyTexts.{rules, cache, verdict_text}
use Rattle.object_model.specs.Objects.{is_for}
use Rattle.object_model.specs.Plain.{Plain}
use Rattle.object_model.specs.Kept.{objects_of, decision_of}
use Rattle.object_model.specs.Origins.{origin_with, fate_of}
use Rattle.object_model.specs.Tickets.{Ticket, ticket_ask, IsTicketOf}
use Rattle.session_model.specs.Finishing.{offer_of, finished_text, finished_history}
use Rattle.desk_state.specs.Verdict.{verdict_of, origin_of}
use Rattle.desk_state.specs.Begun.{Answer, known_on, IsBegun, BeginsAfter}
use Rattle.desk_state.specs.Finished.{FinishesAfter}
use Rattle.desk_state.specs.declared.finished.Finished as done
use Rattle.desk_state.specs.declared.verdict.Verdict as code
use Rattle.object_cache.specs.Offered.{offered_of}
use Rattle.assess_command.specs.declared.line.Assessed.{Assessed}
use Rattle.assess_command.specs.declared.line.Assessed.TheVariants.{Accepted, Rejected, Refused}
use Rattle.assess_command.specs.Assessments.{assessed_by, ask_on, asked_at, at_moment, answer_at, line_at, IsAnswered, Leaves}
use Rattle.assess_command.specs.Files.{IsSubject}
use Rattle.desk_state.specs.declared.begun.Begun.TheVariants.{Known}

none_by : {A : Type 0} (b : Bool) (d : A) → (if b then cache else rules) ≢ rules → (if b then None else Some d) ≡ None
none_by true d apart = refl
none_by false d apart = absurd (apart refl)

-- what no rule answered has nothing to offer
no_offer : (o : Opening) (h : List Event) (k : ℕ) (a : Ask) (subject : Option Subject) → origin_with (objects_of o (take k h)) a.kind subject ≢ rules → offer_of o h k a subject ≡ None
no_offer o h k a None apart = refl
no_offer o h k a (Some s) apart = none_by (list_any (is_for a.kind s) (objects_of o (take k h))) (decision_of o h (objects_of o h) k a s) apart

kept_answer : (f : Entry → Verdict) (m : Option Entry) (x : Answer) → option_map (λ e. (f e, cache)) m ≡ Some x → x.1 ≢ rules
kept_answer f None x is by = cc
kept_answer f (Some e) x is by = cc

not_by_rules : (d : Plain) (kind : Kind) (subject : Option Subject) (x : Answer) → known_on d kind subject ≡ Some x → x.1 ≢ rules
not_by_rules d kind None x is by = cc
not_by_rules d kind (Some s) x is by = kept_answer _ (find (is_for kind s) d.entries) x is by

take_last : (h : List Event) (e : Event) → take (length h) (h ++ e ∷ []) ≡ h
take_last [] e = refl
take_last (x ∷ h) e = ap (λ t. x ∷ t) (take_last h e)

-- what is known as it begins has nothing to offer
none_known : (d : Plain) (o : Opening) (h : List Event) (a : Ask) (v : code.Verdict) → IsBegun d a (Known v) → BeginsAfter o h a (Known v) → offer_of o (h ++ ask a ∷ []) (length h) a a.subject ≡ None
none_known d o h a v begun after =
    let origin_is : origin_of v.origin ≡ origin_with (objects_of o (take (length h) (h ++ ask a ∷ []))) a.kind a.subject = after.1 ∙ ap (λ x. origin_with (objects_of o x) a.kind a.subject) (sym (take_last h (ask a))) in
    no_offer o (h ++ ask a ∷ []) (length h) a a.subject (λ is. not_by_rules d a.kind a.subject (verdict_of v, origin_of v.origin) begun (origin_is ∙ is))

-- its line
pub known_line : (d : Plain) (o : Opening) (h : List Event) (a : Ask) (v : code.Verdict) → IsBegun d a (Known v) → BeginsAfter o h a (Known v) →
    verdict_text (verdict_of v) (origin_of v.origin) (fate_of None) ≡ finished_text o (h ++ ask a ∷ []) (length h) a
known_line d o h a v begun after =
    let whole : List Event = h ++ ask a ∷ [] in
    let k = length h in
    let same : take k whole ≡ h = take_last h (ask a) in
    let verdict_is : verdict_of v ≡ ask_answer o (take k whole) a = after.0 ∙ ap (λ x. ask_answer o x a) (sym same) in
    let origin_is : origin_of v.origin ≡ origin_with (objects_of o (take k whole)) a.kind a.subject = after.1 ∙ ap (λ x. origin_with (objects_of o x) a.kind a.subject) (sym same) in
    let none : offer_of o whole k a a.subject ≡ None = none_known d o h a v begun after in
    ap (λ x. verdict_text x (origin_of v.origin) (fate_of None)) verdict_is
    ∙ ap (λ x. verdict_text (ask_answer o (take k whole) a) x (fate_of None)) origin_is
    ∙ ap (λ x. verdict_text (ask_answer o (take k whole) a) (origin_with (objects_of o (take k whole)) a.kind a.subject) (fate_of x)) (sym none)

-- and what has happened
pub known_history : (d : Plain) (o : Opening) (h : List Event) (a : Ask) (v : code.Verdict) → IsBegun d a (Known v) → BeginsAfter o h a (Known v) → h ++ ask a ∷ [] ≡ finished_history o (h ++ ask a ∷ []) (length h) a
known_history d o h a v begun after = let none : offer_of o (h ++ ask a ∷ []) (length h) a a.subject ≡ None = none_known d o h a v begun after in rw none refl

-- what its ticket judges
pub ticket_line : (o : Opening) (h : List Event) (k : ℕ) (t : Ticket) → IsTicketOf t o h k
    → verdict_text (ask_answer o (take k h) (ticket_ask t)) rules (fate_of (Some (decision_of o h (objects_of o h) k (ticket_ask t) t.subject))) ≡ finished_text o h k (ticket_ask t)
ticket_line o h k t is = rw is.missed refl

pub ticket_history : (o : Opening) (h : List Event) (k : ℕ) (t : Ticket) → IsTicketOf t o h k → h ++ offer k ∷ [] ≡ finished_history o h k (ticket_ask t)
ticket_history o h k t is = rw is.missed refl

last_get : (h : List Event) (e : Event) → slice_get (h ++ e ∷ []) (length h) ≡ Some e
last_get [] e = refl
last_get (x ∷ h) e = last_get h e

same_ask : (a b : Ask) → Some (ask a) ≡ Some (ask b) → a ≡ b
same_ask a b is = cc

-- the ask of a ticket that begins is the one that was asked
pub ask_at_end : (o : Opening) (h : List Event) (a : Ask) (t : Ticket) → IsTicketOf t o (h ++ ask a ∷ []) (length h) → ticket_ask t ≡ a
ask_at_end o h a t is = sym (same_ask a (ticket_ask t) (sym (last_get h (ask a)) ∙ is.begun))

-- how an ask is answered
answered_so : (o : Opening) (h : List Event) (a : Ask) (seconds : ℕ) (allow : Bool) (line : List ℕ) → (answer_at o h a seconds).allow ≡ allow → line ≡ line_at o h a seconds → IsAnswered o h a seconds (assessed_by allow) line
answered_so o h a seconds true line allows is = record { allows = allows; line_is = is }
answered_so o h a seconds false line allows is = record { allows = allows; line_is = is }

-- by what was known
pub known_answered : (d : Plain) (o : Opening) (h : List Event) (a : Ask) (seconds : ℕ) (v : code.Verdict) (how : Assessed) (line : List ℕ) → IsBegun d a (Known v) → BeginsAfter o (at_moment h seconds) a (Known v) →
    how ≡ assessed_by (verdict_of v).allow → line ≡ verdict_text (verdict_of v) (origin_of v.origin) (fate_of None) → IsAnswered o h a seconds how line
known_answered d o h a seconds v how line begun after how_is line_is =
    subst (λ x. IsAnswered o h a seconds x line) (sym how_is)
    (answered_so o h a seconds (verdict_of v).allow line (ap (λ x. x.allow) (sym after.0)) (line_is ∙ known_line d o (at_moment h seconds) a v begun after))

-- what a ticket of the place k comes to, and its line
abbrev pub TicketSays : Opening → List Event → ℕ → Ticket → Assessed → List ℕ → Type 0
TicketSays o h k t how line = (how ≡ assessed_by (ask_answer o (take k h) (ticket_ask t)).allow) × (line ≡ finished_text o h k (ticket_ask t))

-- by a ticket
pub ticket_says : (o : Opening) (h : List Event) (a : Ask) (seconds : ℕ) (t : Ticket) (how : Assessed) (line : List ℕ) → IsTicketOf t o (at_moment h seconds ++ ask a ∷ []) (length (at_moment h seconds)) →
    TicketSays o (at_moment h seconds ++ ask a ∷ []) (length (at_moment h seconds)) t how line → IsAnswered o h a seconds how line
ticket_says o h a seconds t how line of says =
    let h1 : List Event = at_moment h seconds in
    let same : ticket_ask t ≡ a = ask_at_end o h1 a t of in
    let verdict : ask_answer o (take (length h1) (h1 ++ ask a ∷ [])) (ticket_ask t) ≡ answer_at o h a seconds = ap (λ x. ask_answer o x (ticket_ask t)) (take_last h1 (ask a)) ∙ ap (ask_answer o h1) same in
    subst (λ x. IsAnswered o h a seconds x line) (sym (says.0 ∙ ap (λ x. assessed_by x.allow) verdict))
    (answered_so o h a seconds (answer_at o h a seconds).allow line refl (says.1 ∙ ap (finished_text o (h1 ++ ask a ∷ []) (length h1)) same))

-- what a ticket that is finished says
pub finished_says : (o : Opening) (h : List Event) (k : ℕ) (t : Ticket) (f : done.Finished) (how : Assessed) (line : List ℕ) → IsTicketOf t o h k → FinishesAfter o h k t f → origin_of f.verdict.origin ≡ rules →
    how ≡ assessed_by (verdict_of f.verdict).allow → line ≡ verdict_text (verdict_of f.verdict) (origin_of f.verdict.origin) (fate_of (Some (offered_of f.offered))) → TicketSays o h k t how line
finished_says o h k t f how line of after by_rules how_is line_is = (
  how_is ∙ ap (λ x. assessed_by x.allow) after.verdict_is,
  line_is
      ∙ ap (λ x. verdict_text x (origin_of f.verdict.origin) (fate_of (Some (offered_of f.offered)))) after.verdict_is
      ∙ ap (λ x. verdict_text (ask_answer o (take k h) (ticket_ask t)) x (fate_of (Some (offered_of f.offered)))) by_rules
      ∙ ap (λ x. verdict_text (ask_answer o (take k h) (ticket_ask t)) rules (fate_of (Some x))) after.offered_is
      ∙ ticket_line o h k t of,
)

-- what has happened when it is
pub ticket_asked : (o : Opening) (h : List Event) (a : Ask) (t : Ticket) → IsTicketOf t o (h ++ ask a ∷ []) (length h) → (h ++ ask a ∷ []) ++ offer (length h) ∷ [] ≡ finished_history o (h ++ ask a ∷ []) (length h) a
ticket_asked o h a t of = ticket_history o (h ++ ask a ∷ []) (length h) t of ∙ ap (finished_history o (h ++ ask a ∷ []) (length h)) (ask_at_end o h a t of)

-- how files are left whose code was asked for
pub left_by : (o : Opening) (h : List Event) (kind : Kind) (signature : List ℕ) (code : Option (List ℕ)) (seconds : ℕ) (subject : Option Subject) (how : Assessed) (line : List ℕ) (after : List Event)
    → IsSubject signature code subject → IsAnswered o h (ask_on kind subject) seconds how line → after ≡ asked_at o h (ask_on kind subject) seconds → Leaves o h kind signature code seconds how after
left_by o h kind signature code seconds subject Accepted line after of answered is = record { subject = subject; subject_is = of; after_is = is }
left_by o h kind signature code seconds subject Rejected line after of answered is = record { subject = subject; subject_is = of; after_is = is }
left_by o h kind signature code seconds subject Refused line after of answered is = absurd answered

pub left_ok : {E : Type 0} → (r : Result Assessed E) (o : Opening) (h : List Event) (kind : Kind) (signature : List ℕ) (code : Option (List ℕ)) (seconds : ℕ) (subject : Option Subject) (line : List ℕ) (Stood : List Event → Type 0)
    → IsSubject signature code subject → IfOk r (λ how. IsAnswered o h (ask_on kind subject) seconds how line) → OnOk r (Stood (asked_at o h (ask_on kind subject) seconds))
    → IfOk r (λ how. (after : List Event) × Leaves o h kind signature code seconds how after × Stood after)
left_ok (Ok how) o h kind signature code seconds subject line Stood of answered stood =
    (asked_at o h (ask_on kind subject) seconds, left_by o h kind signature code seconds subject how line _ of answered refl, stood)
left_ok (Err e) o h kind signature code seconds subject line Stood of answered stood = tt

-- a fact that holds anyway
pub when_err : {A E : Type 0} (r : Result A E) (P : Type 0) → P → OnErr r P
when_err (Ok x) P p = tt
when_err (Err e) P p = p
