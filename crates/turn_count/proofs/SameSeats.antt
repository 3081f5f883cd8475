-- A seat stays the same in a turn and at a refusal, and keeps its numbers.
use Rattle.std.proofs.Common.{◌≡◌, ◌⊎◌, ◌+◌, ◌*◌, ⊎_elim, inl, inr, ℕ, List, refl, sym, ap, subst, ◌∙◌}
use mathlib.Core.Option.{some}
use lib.ListN.{get_elem?}
use Rattle.turn_lock.specs.declared.logged.Turn.{Turn}
use Rattle.turn_lock.specs.declared.logged.Kept.{Kept}
use Rattle.turn_lock.specs.declared.logged.View.{View}
use Rattle.turn_lock.specs.declared.seat.Seat.{Seat}
use Rattle.turn_lock.specs.Views.{refused, number_at, kept_at, Has, HasAll}
use Rattle.turn_lock.specs.Seats.{Acted, Knows, known, first_of_views, SameSeat}

module _ {O E : Type 0} where
  -- a seat stays the same in a turn
  pub acted_seat : (v w : View O E) (events : List E) (says : O → List (Turn E) → Type 0) → Acted v w events says → SameSeat v w
  acted_seat v w events says t = let e = t.turned.rest in
      (ap (λ (z : View O E). z.origin) e, ap (λ (z : View O E). z.number) e, ap (λ (z : View O E). z.step) e, ap (λ (z : View O E). z.kept) e)

  -- and where it found no ticket left
  pub refused_seat : (s : Seat O E) (v : View O E) → Knows s (refused v) → SameSeat v (known s)
  refused_seat s v e = subst (SameSeat v) (sym (ap first_of_views e)) (refl, refl, refl, refl)

  -- the same seat has the same numbers
  pub same_has : (v w : View O E) → SameSeat v w → (n : ℕ) → Has v n → Has w n
  same_has v w e n h = ⊎_elim (λ (t : (a : ℕ) × (n ≡ number_at v a)). inl (t.0, t.1 ∙ (λ i. sym e.1 i + t.0 * sym e.2 i)))
      (λ (t : (k : ℕ) × (x : Kept E) × (get_elem? v.kept k ≡ some x) × ((a : ℕ) × (n ≡ kept_at x a))). inr (t.0, t.1, ap (λ z. get_elem? z t.0) e.3 ∙ t.2, t.3)) h

  -- a seat has all numbers that was split and joined again, where both parts stayed the same meanwhile
  pub all_again : (v a b a' b' w : View O E) → HasAll v → ((n : ℕ) → Has v n → Has a n ⊎ Has b n) → SameSeat a a' → SameSeat b b' → ((n : ℕ) → Has a' n ⊎ Has b' n → Has w n) → HasAll w
  all_again v a b a' b' w all split p q join n = join n (⊎_elim (λ (one : Has a n). inl (same_has a a' p n one)) (λ (two : Has b n). inr (same_has b b' q n two)) (split n (all n)))
