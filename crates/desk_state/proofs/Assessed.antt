-- An assessment that begins and is finished, after any history.
use Rattle.std.proofs.Common.{◌≡◌, ℕ, List, [], ◌∷◌, ◌++◌, length, refl, sym, ap, ◌∙◌, subst, arith, Option, Some, None}
use Rattle.std.specs.Prelude.{Bool, true, false, cond, Result, Ok, Err, IfOk, codes, option_map, if◌then◌else◌}
use Rattle.std.specs.List.{find, list_any}
use Rattle.req_tree.specs.Subject.{Subject}
use Rattle.policy_model.specs.Rules.{Kind}
use Rattle.policy_model.specs.Tables.{Tables}
use Rattle.policy_model.specs.Outcomes.{Ask, Verdict, decided, verdict_by}
use Rattle.policy_model.specs.ReplyTexts.{Origin, rules, cache, unsigned}
use Rattle.policy_model.specs.History.{Event, Entry, Opening, ask, offer, tables_of, ask_answer, HasOwnIds}
use Rattle.assess.specs.Laws.{SnapshotsJudgeAlike}
use Rattle.object_model.specs.Objects.{is_for}
use Rattle.object_model.specs.Plain.{Plain}
use Rattle.object_model.specs.Kept.{objects_of}
use Rattle.object_model.specs.Tickets.{Ticket, IsTicketOf}
use Rattle.object_model.specs.Stands as model
use Rattle.object_model.specs.Stands.{Stands, ticket_on}
use Rattle.object_model.specs.StandsLaws.{KnownAnswers, BeginGives, FinishStands}
use Rattle.object_model.specs.Laws.{TicketAnswers}
use Rattle.object_model.specs.Origins.{origin_with}
use Rattle.desk_ticket.specs.Ticket.{ticket_of}
use Rattle.desk_state.specs.declared.begun.Begun as code
use Rattle.desk_state.specs.declared.begun.Begun.TheVariants.{Known, Pending}
use Rattle.desk_state.specs.declared.finished.Finished as done
use Rattle.desk_state.specs.Verdict.{verdict_of, origin_of}
use Rattle.desk_state.specs.Begun.{Answer, known_on, IsTicketOn, IsBegun, BeginsAfter}
use Rattle.desk_state.specs.Finished.{IsFinished, FinishesAfter}

-- what holds of a value there holds of it in another way
pub ok_map : {A E : Type 0} (P Q : A → Type 0) (r : Result A E) → ((a : A) → P a → Q a) → IfOk r P → IfOk r Q
ok_map P Q (Ok a) f p = f a p
ok_map P Q (Err e) f p = tt

-- one is found exactly where there is one

found_step : (test : Entry → Bool) (x e : Entry) (xs : List Entry) (b : Bool) → test x ≡ b → (find test xs ≡ Some e → list_any test xs ≡ true) → find test (x ∷ xs) ≡ Some e → list_any test (x ∷ xs) ≡ true
found_step test x e xs true is ih h = grind (arith, is)
found_step test x e xs false is ih h = grind (arith, is, ih (grind (arith, is, h)))

found_any : (test : Entry → Bool) (xs : List Entry) (e : Entry) → find test xs ≡ Some e → list_any test xs ≡ true
found_any test [] e h = cc
found_any test (x ∷ xs) e h = found_step test x e xs (test x) refl (found_any test xs e) h

one_there : (x : Entry) → Some x ≡ None → ⊥
one_there x h = cc

missed_step : (test : Entry → Bool) (x : Entry) (xs : List Entry) (b : Bool) → test x ≡ b → (find test xs ≡ None → list_any test xs ≡ false) → find test (x ∷ xs) ≡ None → list_any test (x ∷ xs) ≡ false
missed_step test x xs true is ih h = absurd (one_there x (sym (ap (λ b. cond b (Some x) (find test xs)) is) ∙ h))
missed_step test x xs false is ih h = grind (arith, is, ih (grind (arith, is, h)))

pub missed_any : (test : Entry → Bool) (xs : List Entry) → find test xs ≡ None → list_any test xs ≡ false
missed_any test [] h = refl
missed_any test (x ∷ xs) h = missed_step test x xs (test x) refl (missed_any test xs) h

-- an answer by an entry that may be there
abbrev by_entry : Plain → Option Entry → Option Answer
by_entry d f = option_map (λ e. (verdict_by d.tables.enabled d.now e.outcome, cache)) f

-- of two answers that are one
same_pair : (p q : Answer) → Some p ≡ Some q → p ≡ q
same_pair p q h = cc

by_found : KnownAnswers → (d : Plain) (o : Opening) (h : List Event) (kind : Kind) (subject : Subject) (keep : Bool) (f : Option Entry) (v : Verdict) (from : Origin) → Stands d o h →
    find (is_for kind subject) d.entries ≡ f → by_entry d f ≡ Some (v, from) →
    (v ≡ ask_answer o h (record { kind = kind; subject = Some subject; keep = keep })) × (from ≡ origin_with (objects_of o h) kind (Some subject))
by_found known d o h kind subject keep None v from s found is = cc
by_found known d o h kind subject keep (Some e) v from s found is =
    let pair = same_pair (verdict_by d.tables.enabled d.now e.outcome, cache) (v, from) is in
    let there : list_any (is_for kind subject) (objects_of o h) ≡ true = found_any (is_for kind subject) (objects_of o h) e (ap (find (is_for kind subject)) (sym s.objects_are) ∙ found) in
    (sym (ap (λ (p : Answer). p.0) pair) ∙ known d o h kind subject keep e s found, sym (ap (λ (p : Answer). p.1) pair) ∙ ap (λ b. if b then cache else rules) (sym there))

-- what is known at once is the legal answer
pub known_after : KnownAnswers → (d : Plain) (o : Opening) (h : List Event) (kind : Kind) (subject : Option Subject) (keep : Bool) (v : Verdict) (from : Origin) → Stands d o h → known_on d kind subject ≡ Some (v, from) →
    (v ≡ ask_answer o h (record { kind = kind; subject = subject; keep = keep })) × (from ≡ origin_with (objects_of o h) kind subject)
known_after known d o h kind None keep v from s is =
    let pair = same_pair (decided d.tables.enabled d.now false None None (codes "no usable signature"), unsigned) (v, from) is in (
      sym (ap (λ (p : Answer). p.0) pair)
          ∙ ap (λ (t : Tables). decided t.enabled d.now false None None (codes "no usable signature")) s.tables_are
          ∙ ap (λ m. decided (tables_of o h).enabled m false None None (codes "no usable signature")) s.now_is,
      sym (ap (λ (p : Answer). p.1) pair),
    )
known_after known d o h kind (Some subject) keep v from s is = by_found known d o h kind subject keep (find (is_for kind subject) d.entries) v from s refl is

pub none_found : (d : Plain) (f : Option Entry) → by_entry d f ≡ None → f ≡ None
none_found d None h = refl
none_found d (Some e) h = cc

-- a ticket is that of the place of its ask
ticket_after : BeginGives → SnapshotsJudgeAlike → (d : Plain) (o : Opening) (h : List Event) (a : Ask) (t : Ticket) → HasOwnIds d.tables → Stands d o h → known_on d a.kind a.subject ≡ None → IsTicketOn d a t →
    IsTicketOf t o (h ++ ask a ∷ []) (length h)
ticket_after gives alike d o h a t ids s unknown is =
    let test : Entry → Bool = is_for a.kind t.subject in
    let missed : list_any test d.entries ≡ false =
    missed_any test d.entries (none_found d (find test d.entries) (ap (known_on d a.kind) (sym is.subject_is) ∙ unknown)) in
    let base = gives d o h a.kind t.subject a.keep t.rows s missed (alike d.tables a.kind t.rows ids is.snapshot) in
    subst (λ x. IsTicketOf x o (h ++ ask a ∷ []) (length h)) (sym is.holds)
    (subst (λ y. IsTicketOf (ticket_on d a.kind t.subject a.keep t.rows) o (h ++ ask (record { kind = a.kind; subject = y; keep = a.keep }) ∷ []) (length h)) (sym is.subject_is) base)

pub begins_after : KnownAnswers → BeginGives → SnapshotsJudgeAlike → (d : Plain) (o : Opening) (h : List Event) (a : Ask) → HasOwnIds d.tables → Stands d o h → (b : code.Begun) → IsBegun d a b → BeginsAfter o h a b
begins_after known gives alike d o h a ids s (Known verdict) is = known_after known d o h a.kind a.subject a.keep (verdict_of verdict) (origin_of verdict.origin) s is
begins_after known gives alike d o h a ids s (Pending ticket) is = ticket_after gives alike d o h a (ticket_of ticket) ids s is.0 is.1

pub finishes_after : TicketAnswers → FinishStands → (d : Plain) (o : Opening) (h : List Event) (k : ℕ) (t : Ticket) → Stands d o h → IsTicketOf t o h k → (f : done.Finished) → IsFinished d t f → FinishesAfter o h k t f
finishes_after answers finish d o h k t s of f is = record {
  verdict_is = is.verdict_is ∙ answers t o h k of;
  offered_is = is.offered_is ∙ (finish d o h k t s of).0;
}

pub stands_finished : FinishStands → (d e : Plain) (o : Opening) (h : List Event) (k : ℕ) (t : Ticket) → e ≡ model.finished t d → Stands d o h → IsTicketOf t o h k → Stands e o (h ++ offer k ∷ [])
stands_finished finish d e o h k t is s of = subst (λ y. Stands y o (h ++ offer k ∷ [])) (sym is) (finish d o h k t s of).1
