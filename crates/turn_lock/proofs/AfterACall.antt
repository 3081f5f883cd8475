-- What a caller knows of a seat after a call.
use Rattle.std.proofs.Common.{◌≡◌, ◌⊎◌, ℕ, Bool, false, List, [], ◌∷◌, Some, refl, sym, ap, subst, ◌∙◌, ◌++◌, length}
use mathlib.Core.List.{IsPrefix}
use Rattle.atomic_table.specs.Seated.{TableId}
use Rattle.turn_lock.specs.declared.lock.TurnLock.{TurnLock}
use Rattle.turn_lock.proofs.Histories.{longer_first}
use Rattle.turn_lock.proofs.SplitsAndJoins.{middle, newborn_has, halves_have, both_has}
use Rattle.turn_lock.specs.declared.logged.Turn.{Turn}
use Rattle.turn_lock.specs.declared.logged.View.{View}
use Rattle.turn_lock.specs.declared.seat.Seat.{Seat}
use Rattle.turn_lock.specs.Views.{after, turn_of, newborn, Rests, Has, HasAll, left_of, right_of, both_of, kept_of, Tallies}
use Rattle.turn_lock.specs.Seats.{id_of, IsReady, Knows, known, first_of_views, HasBegun, MayEnd, Turned}

module _ {O E : Type 0} where
  -- a seat that was joined has seen what both had
  pub join_seen : (s : Seat O E) (v w : View O E) → Knows s (both_of v w) → Tallies (both_of v w) → IsPrefix v.seen (known s).seen × IsPrefix w.seen (known s).seen
  join_seen s v w e k = subst (λ (z : View O E). IsPrefix v.seen z.seen × IsPrefix w.seen z.seen) (sym (ap first_of_views e))
      (longer_first v.seen w.seen, (k.kept (length v.kept) (kept_of w) (middle v.kept (kept_of w) w.kept)).0)

  known_of : (s : Seat O E) (v : View O E) → Knows s v → known s ≡ v
  known_of s v e = ap first_of_views e

  -- a seat that knows a view at rest is ready
  pub ready_at : (s : Seat O E) (v : View O E) (z : TableId) → s.badge.table_id ≡ z → Knows s v → Rests v → ((o : O) × (v.origin ≡ Some o))
      → (s.badge.table_id ≡ z) × Knows s (known s) × Rests (known s) × ((o : O) × ((known s).origin ≡ Some o))
  ready_at s v z same e rests o = let t : Knows s (known s) × Rests (known s) × ((o : O) × ((known s).origin ≡ Some o)) =
      subst (λ (ws : List (View O E)). (ws ≡ first_of_views ws ∷ []) × Rests (first_of_views ws) × ((o : O) × ((first_of_views ws).origin ≡ Some o))) (sym e) (refl, rests, o) in (same, t.0, t.1, t.2)

  -- the same, by its lock
  pub ready : {R : Type 0} (s : Seat O E) (v : View O E) (lock : TurnLock R O E) → s.badge.table_id ≡ id_of lock → Knows s v → Rests v → ((o : O) × (v.origin ≡ Some o)) → IsReady s lock
  ready s v lock = ready_at s v (id_of lock)

  -- what holds of the view holds of what the seat knows
  pub tallies_known : (s : Seat O E) (v : View O E) → Knows s v → Tallies v → Tallies (known s)
  tallies_known s v e t = subst Tallies (sym (known_of s v e)) t

  -- the first seat has all numbers
  pub alone_known : (s : Seat O E) (o : O) → Knows s (newborn o) → HasAll (known s)
  alone_known s o e = subst HasAll (sym (known_of s (newborn o) e)) (newborn_has o)

  -- no number is lost in a split
  pub split_numbers : (s r : Seat O E) (v : View O E) → Knows s (left_of v) → Knows r (right_of v) → (n : ℕ) → Has v n → Has (known s) n ⊎ Has (known r) n
  split_numbers s r v e f n h = subst (λ (z : View O E × View O E). Has z.0 n ⊎ Has z.1 n) (λ i. (sym (known_of s (left_of v) e) i, sym (known_of r (right_of v) f) i)) (halves_have v n h)

  -- no number is lost in a join
  pub join_numbers : (s : Seat O E) (v w : View O E) → Knows s (both_of v w) → (n : ℕ) → Has v n ⊎ Has w n → Has (known s) n
  join_numbers s v w e n h = subst (λ (z : View O E). Has z n) (sym (known_of s (both_of v w) e)) (both_has v w n h)

  turned_view : {S : Type 0} (stands : S → O → List (Turn E) → Type 0) (v m w : View O E) (x : S) (events : List E) → Rests v → HasBegun stands v m x → w ≡ after m events → Turned v w events m.seen
  turned_view stands v m w x events rests h e =
      let number : m.number ≡ v.number = ap (λ (z : View O E). z.number) h.3 in
      let own : m.own ≡ v.own = ap (λ (z : View O E). z.own) h.3 in
      let t : turn_of m events ≡ turn_of v events = ap (λ (n : ℕ). let y : Turn E = record { by = n; events = events } in y) number in
      subst (λ (z : View O E). Turned v z events m.seen) (sym e) record {
        on = h.4;
        seen = λ i. m.seen ++ t i ∷ [];
        own = λ i. own i ++ t i ∷ [];
        rest = ap (λ (z : View O E). record z { tickets = []; holds = false; seen = m.seen ++ turn_of m events ∷ []; own = m.own ++ turn_of m events ∷ [] }) h.3
            ∙ ap (λ (z : List ℕ × Bool). record v { tickets = z.0; holds = z.1; seen = m.seen ++ turn_of m events ∷ []; own = m.own ++ turn_of m events ∷ [] }) (λ i. (sym rests.1 i, sym rests.2 i));
      }

  -- what a caller ends with, who began a turn and ended it
  pub turned : {S : Type 0} (stands : S → O → List (Turn E) → Type 0) (v m : View O E) (x : S) (s : Seat O E) (events : List E) → Rests v → HasBegun stands v m x → Knows s (after m events) → Turned v (known s) events m.seen
  turned stands v m x s events rests h e = turned_view stands v m (known s) x events rests h (ap first_of_views e)

  -- a turn that was begun may end with what the work says of the value that it found
  pub may_end : {S : Type 0} (stands : S → O → List (Turn E) → Type 0) (v m : View O E) (x y : S) (events : List E) → HasBegun stands v m x
      → ((o : O) → v.origin ≡ Some o → stands x o m.seen → stands y o (m.seen ++ turn_of m events ∷ [])) → MayEnd stands m events y
  may_end stands v m x y events h f = (h.1, ap (λ (z : View O E). z.origin) h.3 ∙ h.2, f h.1 h.2 h.6)
