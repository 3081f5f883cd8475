-- What finishing an assessment replies and leaves, by what was held of it.
use Rattle.std.proofs.Common.{◌≡◌, ◌≢◌, ◌<◌, ◌==◌, arith, is_some, IfSome, ℕ, List, [], ◌∷◌, ◌++◌, length, take, Bool, true, false, Option, Some, None, option_map, if◌then◌else◌, refl, ◌∙◌, ap}
use Rattle.std.specs.List.{find, list_any}
use Rattle.req_tree.specs.Subject.{Subject}
use Rattle.policy_model.specs.Rules.{Kind}
use Rattle.policy_model.specs.Outcomes.{Ask, Verdict}
use Rattle.policy_model.specs.History.{Event, ask, offer, Opening, Entry, ask_answer}
use Rattle.policy_model.specs.ReplyTexts.{rules, cache, verdict_text}
use Rattle.object_model.specs.Objects.{is_for, Offered}
use Rattle.object_model.specs.Plain.{Plain}
use Rattle.object_model.specs.Kept.{objects_of, decision_of}
use Rattle.object_model.specs.Origins.{origin_with, fate_of}
use Rattle.object_model.specs.Tickets.{Ticket, ticket_ask, IsTicketOf}
use Rattle.object_model.specs.Laws.{TicketStays}
use Rattle.session_model.specs.Slots.{Slot}
use Rattle.session_model.specs.Finishing.{offer_of, with_offer, finished_text, finished_history}
use Rattle.desk_state.specs.Verdict.{verdict_of, origin_of}
use Rattle.desk_state.specs.Begun.{Answer, known_on}
use Rattle.desk_state.specs.Judged.{IsLooked, LooksAfter}
use Rattle.desk_state.specs.declared.verdict.Verdict as code
use Rattle.desk_state.specs.declared.judged.Looked.{Looked}
use Rattle.desk_state.specs.declared.judged.Looked.TheVariants.{Known, Open}
use Rattle.desk_lines.specs.declared.slots.OpenSlot.{OpenSlot}
use Rattle.desk_lines.specs.Slots.{IsHeld, IsOpenAt, AreOpen}
use Rattle.desk_lines.proofs.Places.{below, take_last}
use Rattle.session_model.specs.Slots.{has_number, but_first}
use Rattle.policy_model.specs.Tables as policy_tables
use Rattle.policy_model.specs.ReplyTexts.{answer_text}
use Rattle.desk_state.specs.Answer.{given_text}
use Rattle.desk_lines.proofs.Opens.{open_more, Taken}

none_by : {A : Type 0} (b : Bool) (d : A) → (if b then cache else rules) ≢ rules → (if b then None else Some d) ≡ None
none_by true d apart = refl
none_by false d apart = absurd (apart refl)

-- what no rule answered has nothing to offer
no_offer : (o : Opening) (h : List Event) (k : ℕ) (a : Ask) (subject : Option Subject) → origin_with (objects_of o (take k h)) a.kind subject ≢ rules → offer_of o h k a subject ≡ None
no_offer o h k a None apart = refl
no_offer o h k a (Some s) apart = none_by (list_any (is_for a.kind s) (objects_of o (take k h))) (decision_of o h (objects_of o h) k a s) apart

nothing_offered : (o : Opening) (h : List Event) (k : ℕ) (a : Ask) (v : code.Verdict) → IsHeld o h k a (Known v) → offer_of o h k a a.subject ≡ None
nothing_offered o h k a v held = no_offer o h k a a.subject (λ is. held.2 (held.1 ∙ is))

pub known_text : (o : Opening) (h : List Event) (k : ℕ) (a : Ask) (v : code.Verdict) → IsHeld o h k a (Known v) → verdict_text (verdict_of v) (origin_of v.origin) (fate_of None) ≡ finished_text o h k a
known_text o h k a v held = let none : offer_of o h k a a.subject ≡ None = nothing_offered o h k a v held in rw (held.0, held.1, none) refl

pub known_history : (o : Opening) (h : List Event) (k : ℕ) (a : Ask) (v : code.Verdict) → IsHeld o h k a (Known v) → h ≡ finished_history o h k a
known_history o h k a v held = let none : offer_of o h k a a.subject ≡ None = nothing_offered o h k a v held in rw none refl

pub ticket_text : (o : Opening) (h : List Event) (k : ℕ) (t : Ticket) → IsTicketOf t o h k
    → verdict_text (ask_answer o (take k h) (ticket_ask t)) rules (fate_of (Some (decision_of o h (objects_of o h) k (ticket_ask t) t.subject))) ≡ finished_text o h k (ticket_ask t)
ticket_text o h k t is = rw is.missed refl

pub ticket_history : (o : Opening) (h : List Event) (k : ℕ) (t : Ticket) → IsTicketOf t o h k → h ++ offer k ∷ [] ≡ finished_history o h k (ticket_ask t)
ticket_history o h k t is = rw is.missed refl

pub same_ask : (a b : Ask) (x : Option Event) → x ≡ Some (ask a) → x ≡ Some (ask b) → a ≡ b
same_ask a b x one other = cc

kept_answer : (f : Entry → Verdict) (m : Option Entry) (x : Answer) → option_map (λ e. (f e, cache)) m ≡ Some x → x.1 ≢ rules
kept_answer f None x is by = cc
kept_answer f (Some e) x is by = cc

not_by_rules : (d : Plain) (kind : Kind) (subject : Option Subject) (x : Answer) → known_on d kind subject ≡ Some x → x.1 ≢ rules
not_by_rules d kind None x is by = cc
not_by_rules d kind (Some s) x is by = kept_answer _ (find (is_for kind s) d.entries) x is by

-- what begins now is held as of its place
pub held_now : (d : Plain) (o : Opening) (h : List Event) (a : Ask) (l : Looked) → IsLooked d a l → LooksAfter o h a l → IsHeld o (h ++ ask a ∷ []) (length h) a l
held_now d o h a (Known v) looked after =
    let same : take (length h) (h ++ ask a ∷ []) ≡ h = take_last h (ask a) in
    rw same (after.0, after.1, not_by_rules d a.kind a.subject (verdict_of v, origin_of v.origin) looked)
held_now d o h a (Open j) looked after = after

number_apart : (n k : ℕ) → k < n → n ≢ k
number_apart n k less same = omega (arith, less, same)

apart : (n k : ℕ) → k < n → offer n ≢ offer k
apart n k less same = let is : n ≡ k = cc in number_apart n k less is

open_offered : TicketStays → (o : Opening) (h : List Event) (a : Ask) (f : Option Offered) (c : OpenSlot) (s : Slot) → IsOpenAt o h c s → IsOpenAt o (with_offer f (length h) (h ++ ask a ∷ [])) c s
open_offered stay o h a None c s is = open_more stay o h (ask a) c s (λ same. cc) is
open_offered stay o h a (Some f) c s is =
    let less = below h s.place (ask is.asked) is.stands in
    open_more stay o (h ++ ask a ∷ []) (offer (length h)) c s (λ same. apart (length h) s.place less same) (open_more stay o h (ask a) c s (λ same. cc) is)

-- an assessment that begins and is finished at once leaves what is open
pub opens_offered : TicketStays → (o : Opening) (h : List Event) (a : Ask) (f : Option Offered) (m : ℕ) (cs : List OpenSlot) (ss : List Slot) → AreOpen o h m cs ss → AreOpen o (with_offer f (length h) (h ++ ask a ∷ [])) m cs ss
opens_offered stay o h a f m [] [] stand = tt
opens_offered stay o h a f m (c ∷ cs) (s ∷ ss) stand = (stand.0, open_offered stay o h a f c s stand.1, opens_offered stay o h a f _ cs ss stand.2)
opens_offered stay o h a f m [] (s ∷ ss) stand = absurd stand
opens_offered stay o h a f m (c ∷ cs) [] stand = absurd stand

-- what is left after one was taken out, with its offer or none
pub left_open : (o : Opening) (h : List Event) (m n : ℕ) (c : OpenSlot) (cs : List OpenSlot) (ss : List Slot) (t : Taken o h m n c cs ss) (f : Option Offered)
    → AreOpen o (with_offer f t.slot.place h) m (but_first (λ d. d.number == n) cs) (but_first (has_number n) ss)
left_open o h m n c cs ss t None = t.rest
left_open o h m n c cs ss t (Some f) = t.after

pub given_is : (r : Option policy_tables.Answer) (x : policy_tables.Answer) → is_some r ≡ true → IfSome r (λ a. a ≡ x) → given_text r ≡ answer_text x
given_is None x some is = cc
given_is (Some a) x some is = ap answer_text is
