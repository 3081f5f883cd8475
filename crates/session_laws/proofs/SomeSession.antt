-- Each line asks for something, so lines have a session.
use Rattle.std.proofs.Common.{ℕ, List, [], ◌∷◌, refl, subst, sym, inl, Result, Ok, Err}
use Rattle.std.specs.Prelude.{◌≢◌}
use Rattle.std.proofs.lemmas.List.Elements.{All-append}
use Rattle.policy_model.specs.Contents.{Edit}
use Rattle.policy_model.specs.History.{Event, Opening}
use Rattle.policy_model.specs.History as event
use Rattle.line_model.specs.LineFaults.{LineFault, line_fault_text}
use Rattle.session_model.specs.Lines.{Request, tick, assess, begin, finish, status, edit, IsAsked}
use Rattle.session_model.specs.Slots.{State}
use Rattle.session_model.specs.Session.{answered, Replies, Session}
use Rattle.session_laws.specs.Asks.{EachLineAsks}
use Rattle.session_laws.specs.Laws.{NoneFailed, SessionIsThere}
use Rattle.session_laws.proofs.GoesOn.{HoldsBeside, OnEdit, answer_goes_on}

-- the event is no edit that failed
abbrev Kept : Event → Type 0
Kept e = (x : Edit) → e ≢ event.edit_failed x

kept_beside : HoldsBeside Kept
kept_beside = record { tick = λ m x e. cc; ask = λ a x e. cc; offer = λ k x e. cc; look = λ x e. cc }

kept_edit : (request : Request) → OnEdit (λ e. Kept (event.edit e)) request
kept_edit (tick m) = tt
kept_edit (assess a) = tt
kept_edit (begin n a) = tt
kept_edit (finish n) = tt
kept_edit status = tt
kept_edit (edit e) = λ x same. cc

still_none : (o : Opening) (s : State) (request : Request) → NoneFailed s.history → NoneFailed (answered o s request).after.history
still_none o s request none =
    let goes = answer_goes_on Kept kept_beside o s request (kept_edit request) in
    subst NoneFailed (sym goes.is) (All-append Kept s.history goes.more none goes.each)

-- the reply to what was asked for, no edit of which failed
record Replied (o : Opening) (s : State) (asked : Result Request LineFault) : Type 0 where
  reply : List ℕ
  after : State
  replies : Replies o s asked reply after
  none : NoneFailed after.history

some_reply : (o : Opening) (s : State) (asked : Result Request LineFault) → NoneFailed s.history → Replied o s asked
some_reply o s (Ok request) none = record { reply = (answered o s request).reply; after = (answered o s request).after; replies = inl (refl, refl); none = still_none o s request none }
some_reply o s (Err fault) none = record { reply = line_fault_text fault; after = s; replies = (refl, refl); none = none }

pub session_is_there : EachLineAsks → SessionIsThere
session_is_there ask o s [] none never = never [] s refl none
session_is_there ask o s (line ∷ lines) none never =
    ask line (λ asked is. next o s line lines never asked is (some_reply o s asked none) (λ t kept go. session_is_there ask o t lines kept go))
  where
    next : (o : Opening) (s : State) (line : List ℕ) (lines : List (List ℕ)) → ((replies : List (List ℕ)) (after : State) → Session o s (line ∷ lines) replies after → NoneFailed after.history → ⊥)
        → (asked : Result Request LineFault) → IsAsked line asked → (it : Replied o s asked)
        → ((t : State) → NoneFailed t.history → ((replies : List (List ℕ)) (after : State) → Session o t lines replies after → NoneFailed after.history → ⊥) → ⊥) → ⊥
    next o s line lines never asked is it go =
        go it.after it.none (λ replies after session none. never (it.reply ∷ replies) after (asked, it.after, is, it.replies, session) none)
