-- What a session adds to its history.
use Rattle.std.proofs.Common.{◌≡◌, ℕ, List, [], ◌∷◌, ◌++◌, length, refl, sym, ap, ◌∙◌, subst, inl, inr, Result, Ok, Err, append_assoc, append-nil}
use Rattle.std.specs.Prelude.{Bool, true, false, All, Option, Some, None, slice_get, nat_le, if◌then◌else◌, codes}
use Rattle.std.specs.List.{find, list_any}
use Rattle.std.proofs.lemmas.List.Elements.{All-nil, All-cons, All-append, All-head, All-tail}
use Rattle.policy_model.specs.Contents.{Edit}
use Rattle.policy_model.specs.Outcomes.{Ask}
use Rattle.policy_model.specs.History.{Event, Opening}
use Rattle.policy_model.specs.History as event
use Rattle.object_model.specs.Objects.{Offered}
use Rattle.line_model.specs.LineFaults.{LineFault}
use Rattle.session_model.specs.declared.limits.TheConstants.{MOST_SLOTS}
use Rattle.session_model.specs.Lines.{Request, tick, assess, begin, finish, status, edit, IsAsked}
use Rattle.session_model.specs.Slots.{Slot, State, has_number, refused, begins_now, finishes_at, finishes}
use Rattle.session_model.specs.Finishing.{offer_of, with_offer}
use Rattle.session_model.specs.Session.{answered, Fails, Replies, Session}

-- a history goes on by such events
pub record GoesOn (P : Event → Type 0) (h k : List Event) : Type 0 where
  pub more : List Event
  pub is : k ≡ h ++ more
  pub each : All P more

stays : (P : Event → Type 0) (h : List Event) → GoesOn P h h
stays P h = record { more = []; is = sym (append-nil h); each = All-nil P }

by_one : (P : Event → Type 0) (h : List Event) (e : Event) → P e → GoesOn P h (h ++ e ∷ [])
by_one P h e holds = record { more = e ∷ []; is = refl; each = All-cons P e [] holds (All-nil P) }

through : (P : Event → Type 0) (h k l : List Event) → GoesOn P h k → GoesOn P k l → GoesOn P h l
through P h k l first second = record {
  more = first.more ++ second.more;
  is = second.is ∙ ap (λ x. x ++ second.more) first.is ∙ append_assoc h first.more second.more;
  each = All-append P first.more second.more first.each second.each;
}

-- what every event is but an edit
pub record HoldsBeside (P : Event → Type 0) : Type 0 where
  pub tick : (m : ℕ) → P (event.tick m)
  pub ask : (a : Ask) → P (event.ask a)
  pub offer : (k : ℕ) → P (event.offer k)
  pub look : P event.look

-- what is asked for, where it is an edit, is such
abbrev pub OnEdit : (Edit → Type 0) → Request → Type 0
OnEdit Q (tick m) = Unit {0}
OnEdit Q (assess a) = Unit {0}
OnEdit Q (begin n a) = Unit {0}
OnEdit Q (finish n) = Unit {0}
OnEdit Q status = Unit {0}
OnEdit Q (edit e) = Q e

module _ (P : Event → Type 0) (beside : HoldsBeside P) where
  offered : (o : Option Offered) (k : ℕ) (h : List Event) → GoesOn P h (with_offer o k h)
  offered None k h = stays P h
  offered (Some x) k h = by_one P h (event.offer k) (beside.offer k)

  begun_by : (a b : Bool) (first second : List ℕ) (o : Opening) (s : State) (n : ℕ) (x : Ask)
      → GoesOn P s.history (if a then refused first s else if b then refused second s else begins_now o s n x).after.history
  begun_by true b first second o s n x = stays P s.history
  begun_by false true first second o s n x = stays P s.history
  begun_by false false first second o s n x = by_one P s.history (event.ask x) (beside.ask x)

  finished_by : (o : Opening) (s : State) (n k : ℕ) (e : Option Event) → GoesOn P s.history (finishes_at o s n k e).after.history
  finished_by o s n k None = stays P s.history
  finished_by o s n k (Some (event.tick m)) = stays P s.history
  finished_by o s n k (Some (event.ask a)) = offered (offer_of o s.history k a a.subject) k s.history
  finished_by o s n k (Some (event.offer j)) = stays P s.history
  finished_by o s n k (Some (event.edit e)) = stays P s.history
  finished_by o s n k (Some (event.edit_failed e)) = stays P s.history
  finished_by o s n k (Some (event.edit_starved e)) = stays P s.history
  finished_by o s n k (Some event.look) = stays P s.history

  slot_finished : (o : Opening) (s : State) (n : ℕ) (slot : Option Slot) → GoesOn P s.history (finishes o s n slot).after.history
  slot_finished o s n None = stays P s.history
  slot_finished o s n (Some slot) = finished_by o s n slot.place (slice_get s.history slot.place)

  -- an answer
  pub answer_goes_on : (o : Opening) (s : State) (request : Request) → OnEdit (λ e. P (event.edit e)) request → GoesOn P s.history (answered o s request).after.history
  answer_goes_on o s (tick m) on = by_one P s.history (event.tick m) (beside.tick m)
  answer_goes_on o s (assess a) on =
      let begun = s.history ++ event.ask a ∷ [] in
      through P s.history begun _ (by_one P s.history (event.ask a) (beside.ask a)) (offered (offer_of o begun (length s.history) a a.subject) (length s.history) begun)
  answer_goes_on o s (begin n a) on =
      begun_by (list_any (has_number n) s.slots) (nat_le MOST_SLOTS (length s.slots)) (codes "refused session 21 SlotBusy") (codes "refused session 23 SlotsFull") o s n a
  answer_goes_on o s (finish n) on = slot_finished o s n (find (has_number n) s.slots)
  answer_goes_on o s status on = by_one P s.history event.look beside.look
  answer_goes_on o s (edit e) on = by_one P s.history (event.edit e) on

  fails_goes_on : ((e : Edit) → P (event.edit_failed e)) → (o : Opening) (s : State) (request : Request) (reply : List ℕ) (after : State) → Fails o s request reply after → GoesOn P s.history after.history
  fails_goes_on failed o s (edit e) reply after fails = record { more = event.edit_failed e ∷ []; is = ap (λ (x : State). x.history) fails.1.0; each = All-cons P (event.edit_failed e) [] (failed e) (All-nil P) }
  fails_goes_on failed o s (tick m) reply after fails = absurd fails
  fails_goes_on failed o s (assess a) reply after fails = absurd fails
  fails_goes_on failed o s (begin n a) reply after fails = absurd fails
  fails_goes_on failed o s (finish n) reply after fails = absurd fails
  fails_goes_on failed o s status reply after fails = absurd fails

  to_state : (h : List Event) (s t : State) → t ≡ s → GoesOn P h s.history → GoesOn P h t.history
  to_state h s t same goes = record { more = goes.more; is = ap (λ (x : State). x.history) same ∙ goes.is; each = goes.each }

  pub reply_goes_on : ((e : Edit) → P (event.edit_failed e)) → (o : Opening) (s : State) (asked : Result Request LineFault) (reply : List ℕ) (after : State)
      → ((request : Request) → asked ≡ Ok request → OnEdit (λ e. P (event.edit e)) request) → Replies o s asked reply after → GoesOn P s.history after.history
  reply_goes_on failed o s (Ok request) reply after on (inl is) = to_state s.history (answered o s request).after after is.0 (answer_goes_on o s request (on request refl))
  reply_goes_on failed o s (Ok request) reply after on (inr fails) = fails_goes_on failed o s request reply after fails
  reply_goes_on failed o s (Err fault) reply after on is = to_state s.history s after is.0 (stays P s.history)

  -- a session
  pub session_goes_on : ((e : Edit) → P (event.edit_failed e)) → (L : List ℕ → Type 0) → ((line : List ℕ) (request : Request) → L line → IsAsked line (Ok request) → OnEdit (λ e. P (event.edit e)) request)
      → (o : Opening) (s : State) (lines replies : List (List ℕ)) (after : State) → Session o s lines replies after → All L lines → GoesOn P s.history after.history
  session_goes_on failed L asks o s [] [] after same all = to_state s.history s after same (stays P s.history)
  session_goes_on failed L asks o s [] (reply ∷ replies) after session all = absurd session
  session_goes_on failed L asks o s (line ∷ lines) [] after session all = absurd session
  session_goes_on failed L asks o s (line ∷ lines) (reply ∷ replies) after session all =
      through P s.history session.1.history after.history
      (reply_goes_on failed o s session.0 reply session.1 (λ request is. asks line request (All-head L line lines all) (asked_is line session.0 request is session.2)) session.3)
      (session_goes_on failed L asks o session.1 lines replies after session.4 (All-tail L line lines all))
    where
      asked_is : (line : List ℕ) (asked : Result Request LineFault) (request : Request) → asked ≡ Ok request → IsAsked line asked → IsAsked line (Ok request)
      asked_is line asked request is h = subst (λ x. IsAsked line x) is h
