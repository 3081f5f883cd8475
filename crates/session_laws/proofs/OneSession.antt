-- Where no edit failed, lines have one session.
use Rattle.std.proofs.Common.{◌≡◌, ℕ, List, [], ◌∷◌, ◌++◌, length, refl, sym, ap, ◌∙◌, subst, inl, inr, Result, Ok, Err}
use Rattle.std.specs.Prelude.{◌≢◌}
use Rattle.std.proofs.lemmas.List.{take_at}
use Rattle.std.proofs.lemmas.List.Elements.{All-take, All-contains, Contains-push}
use Rattle.policy_model.specs.Contents.{Edit}
use Rattle.policy_model.specs.History.{Event, edit_failed, Opening}
use Rattle.line_model.specs.LineFaults.{LineFault}
use Rattle.session_model.specs.Lines.{Request, tick, assess, begin, finish, status, edit}
use Rattle.session_model.specs.Slots.{State}
use Rattle.session_model.specs.Session.{Fails, Replies, Session}
use Rattle.session_laws.specs.Laws.{SessionGoesOn, NoneFailed, LineAsksForOne, SessionIsOne}

-- where none failed at the end, none had failed before
none_before : (h k more : List Event) → k ≡ h ++ more → NoneFailed k → NoneFailed h
none_before h k more is none = subst NoneFailed (take_at h more (length h) refl) (All-take (λ event. (e : Edit) → event ≢ edit_failed e) (length h) (h ++ more) (subst NoneFailed is none))

failed_none : (h k : List Event) (e : Edit) → k ≡ h ++ edit_failed e ∷ [] → NoneFailed k → ⊥
failed_none h k e is none = All-contains (λ event. (x : Edit) → event ≢ edit_failed x) (h ++ edit_failed e ∷ []) (edit_failed e) (subst NoneFailed is none) (Contains-push h (edit_failed e)) e refl

-- an edit that failed shows in the history
no_failure : (o : Opening) (s : State) (request : Request) (reply : List ℕ) (after : State) → Fails o s request reply after → NoneFailed after.history → ⊥
no_failure o s (edit e) reply after fails none = failed_none s.history after.history e (ap (λ (x : State). x.history) fails.1.0) none
no_failure o s (tick m) reply after fails none = fails
no_failure o s (assess a) reply after fails none = fails
no_failure o s (begin n a) reply after fails none = fails
no_failure o s (finish n) reply after fails none = fails
no_failure o s status reply after fails none = fails

one_reply : (o : Opening) (s : State) (asked : Result Request LineFault) (r q : List ℕ) (a b : State) → Replies o s asked r a → Replies o s asked q b
    → NoneFailed a.history → NoneFailed b.history → (r ≡ q) × (a ≡ b)
one_reply o s (Ok request) r q a b (inl x) (inl y) none also = (x.1 ∙ sym y.1, x.0 ∙ sym y.0)
one_reply o s (Ok request) r q a b (inl x) (inr fails) none also = absurd (no_failure o s request q b fails also)
one_reply o s (Ok request) r q a b (inr fails) y none also = absurd (no_failure o s request r a fails none)
one_reply o s (Err fault) r q a b x y none also = (x.1 ∙ sym y.1, x.0 ∙ sym y.0)

both : {x y : List ℕ} {xs ys : List (List ℕ)} {a b : State} → x ≡ y → (xs ≡ ys) × (a ≡ b) → (x ∷ xs ≡ y ∷ ys) × (a ≡ b)
both {x} {y} {xs} {ys} e f = (ap (λ z. z ∷ xs) e ∙ ap (λ zs. y ∷ zs) f.0, f.1)

module _ (goes_on : SessionGoesOn) (one_asked : LineAsksForOne) where
  none_at : (o : Opening) (s : State) (lines replies : List (List ℕ)) (after : State) → Session o s lines replies after → NoneFailed after.history → NoneFailed s.history
  none_at o s lines replies after session none =
      let goes = goes_on o s lines replies after session in
      none_before s.history after.history goes.0 goes.1 none

  pub session_is_one : SessionIsOne
  session_is_one o s [] [] [] a b x y none also = (refl, x ∙ sym y)
  session_is_one o s [] [] (q ∷ qs) a b x y none also = absurd y
  session_is_one o s [] (r ∷ rs) qs a b x y none also = absurd x
  session_is_one o s (line ∷ lines) [] qs a b x y none also = absurd x
  session_is_one o s (line ∷ lines) (r ∷ rs) [] a b x y none also = absurd y
  session_is_one o s (line ∷ lines) (r ∷ rs) (q ∷ qs) a b x y none also =
      let same : y.0 ≡ x.0 = one_asked line y.0 x.0 y.2 x.2 in
      let replies = subst (λ asked. Replies o s asked q y.1) same y.3 in
      let first = one_reply o s x.0 r q x.1 y.1 x.3 replies (none_at o x.1 lines rs a x.4 none) (none_at o y.1 lines qs b y.4 also) in
      let behind = subst (λ mid. Session o mid lines qs b) (sym first.1) y.4 in
      both first.0 (session_is_one o x.1 lines rs qs a b x.4 behind none also)
