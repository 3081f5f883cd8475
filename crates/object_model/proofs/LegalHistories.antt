-- Legal histories, and what stands at a place of a history that goes on.
use Rattle.std.proofs.Common.{◌≡◌, ℕ, zero, suc, ◌<◌, ◌≤◌, List, [], ◌∷◌, ◌++◌, length, take, get_or, refl, sym, ap, ◌∙◌, subst, arith, Some, ◌⊎◌, inl, inr}
use Rattle.std.specs.Prelude.{◌≢◌, All, slice_get}
use Rattle.std.proofs.lemmas.List.{take-append-le}
use Rattle.std.proofs.lemmas.Option.{slice_get_within}
use Rattle.policy_model.specs.History.{Event, offer, Opening}
use Rattle.object_model.specs.Fresh.{IsOpen, MayCome, IsLegal}

pub get_more : (h more : List Event) (k : ℕ) (e : Event) → slice_get h k ≡ Some e → slice_get (h ++ more) k ≡ Some e
get_more [] more k e is = absurd (omega (arith, slice_get_within {A = Event} [] k e is))
get_more (d ∷ h) more zero e is = is
get_more (d ∷ h) more (suc k) e is = get_more h more k e is

pub get_last : (h : List Event) (e : Event) → slice_get (h ++ e ∷ []) (length h) ≡ Some e
get_last [] e = refl
get_last (d ∷ h) e = get_last h e

next_place : (k : ℕ) (h : List Event) (A : Type 0) → (k < length h) ⊎ ((k ≡ length h) × A) → (suc k < suc (length h)) ⊎ ((suc k ≡ suc (length h)) × A)
next_place k h A (inl lt) = inl (omega (arith, lt))
next_place k h A (inr p) = inr (ap suc p.0, p.1)

-- an event of a history with one more is an old one or the last
get_split : (h : List Event) (e : Event) (k : ℕ) (x : Event) → slice_get (h ++ e ∷ []) k ≡ Some x → (k < length h) ⊎ ((k ≡ length h) × (e ≡ x))
get_split [] e zero x is = inr (refl, cc)
get_split [] e (suc k) x is = absurd (omega (arith, slice_get_within {A = Event} (e ∷ []) (suc k) x is))
get_split (d ∷ h) e zero x is = inl (omega arith)
get_split (d ∷ h) e (suc k) x is = next_place k h (e ≡ x) (get_split h e k x is)

get_old : (h : List Event) (e : Event) (k : ℕ) (x : Event) → k < length h → slice_get (h ++ e ∷ []) k ≡ Some x → slice_get h k ≡ Some x
get_old [] e k x lt is = absurd (omega (arith, lt))
get_old (d ∷ h) e zero x lt is = is
get_old (d ∷ h) e (suc k) x lt is = get_old h e k x (omega (arith, lt)) is

pub all_taken : (h : List Event) (e : Event) → take (length h) (h ++ e ∷ []) ≡ h
all_taken [] e = refl
all_taken (d ∷ h) e = ap (λ r. d ∷ r) (all_taken h e)

-- a history of no events is legal
pub legal_start : (o : Opening) → IsLegal o []
legal_start o j e is = absurd (omega (arith, slice_get_within {A = Event} [] j e is))

-- a legal history stays so by an event that may come
pub legal_more : (o : Opening) (h : List Event) (e : Event) → IsLegal o h → MayCome o h e → IsLegal o (h ++ e ∷ [])
legal_more o h e legal new j x is = elim (get_split h e j x is) as (λ _. MayCome o (take j (h ++ e ∷ [])) x) [
  | inl lt ↦ subst (λ y. MayCome o y x) (sym (take-append-le j h (e ∷ []) (omega (arith, lt)))) (legal j x (get_old h e j x lt is))
  | inr last ↦ subst (λ y. MayCome o y x) (sym (ap (λ n. take n (h ++ e ∷ [])) last.0 ∙ all_taken h e)) (subst (MayCome o h) last.1 new)
]

get_at : (h : List Event) (k : ℕ) (d : Event) → k < length h → slice_get h k ≡ Some (get_or h k d)
get_at [] k d lt = absurd (omega (arith, lt))
get_at (e ∷ h) zero d lt = refl
get_at (e ∷ h) (suc k) d lt = get_at h k d (omega (arith, lt))

shorter : (k : ℕ) (h : List Event) → length (take k h) ≤ length h
shorter zero h = omega arith
shorter (suc k) [] = omega arith
shorter (suc k) (e ∷ h) = omega (arith, shorter k h)

-- no offer names a place that isn't there yet
pub none_ahead : (o : Opening) (h : List Event) → IsLegal o h → All (λ e. e ≢ offer (length h)) h
none_ahead o h legal k d lt same =
    let is : IsOpen o (take k h) (length h) = legal k (offer (length h)) (get_at h k d lt ∙ ap Some same) in
    omega (arith, slice_get_within (take k h) (length h) _ is.begun, shorter k h)
