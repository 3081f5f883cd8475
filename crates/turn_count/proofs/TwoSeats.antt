-- The count of a lock that two seats took turns at.
use Rattle.std.proofs.Common.{◌≡◌, ◌≢◌, ◌⊎◌, ℕ, zero, suc, ◌+◌, ◌<◌, ◌≤◌, ◌%◌, ◌^◌, Bool, true, false, ◌&&◌, List, [], ◌∷◌, ◌++◌, refl, ap, sym, subst, ◌∙◌, ⊎_elim, inl, inr, arith, eq-eqb, ne_eqb, add_assoc, add-one, length, length-append}
use Rattle.std.proofs.lemmas.List.Sums.{sum_by-append}
use mathlib.Core.Option.{some, some-ne-none, some-injective}
use lib.ListN.{get_elem?}
use Rattle.turn_lock.specs.declared.logged.Turn.{Turn}
use Rattle.turn_lock.specs.declared.logged.Kept.{Kept}
use Rattle.turn_lock.specs.declared.logged.View.{View}
use Rattle.turn_count.specs.declared.counter.Counter.{Counter}
use Rattle.turn_lock.specs.Turns.{turns_of}
use Rattle.turn_lock.specs.Views.{turn_of, Accounts, HasAll, newborn, left_of, right_of, both_of, kept_of}
use Rattle.turn_lock.specs.Seats.{SameSeat}
use Rattle.turn_count.specs.Counts.{event_count, Counted, counting, HasTaken, HasEnded}

one_more : (t : Turn ℕ) (h : List (Turn ℕ)) → event_count (t ∷ h) ≡ event_count (t ∷ []) + event_count h
one_more t h = sum_by-append (λ (u : Turn ℕ). length u.events) (t ∷ []) h

swapped : (x y z : ℕ) → x + (y + z) ≡ y + (x + z)
swapped x y z = omega arith

from_zero : (x : ℕ) → 0 + x ≡ x
from_zero x = omega arith

-- where each turn is of one of two numbers, their events are all
parted : (a b : ℕ) → a ≢ b → (h : List (Turn ℕ)) → ((k : ℕ) (t : Turn ℕ) → get_elem? h k ≡ some t → (t.by ≡ a) ⊎ (t.by ≡ b)) → event_count h ≡ event_count (turns_of a h) + event_count (turns_of b h)
parted a b other [] all = refl
parted a b other (t ∷ h) all =
    let r : event_count (t ∷ h) ≡ event_count (t ∷ []) + (event_count (turns_of a h) + event_count (turns_of b h)) = one_more t h ∙ ap (λ z. event_count (t ∷ []) + z) (parted a b other h (λ k u e. all (suc k) u e)) in
    ⊎_elim
    (λ (e : t.by ≡ a). let f : turns_of a (t ∷ h) ≡ t ∷ turns_of a h = rw (eq-eqb t.by a e) refl in
    let g : turns_of b (t ∷ h) ≡ turns_of b h = rw (ne_eqb t.by b (λ c. other (sym e ∙ c))) refl in
    r ∙ (sym (add_assoc (event_count (t ∷ [])) (event_count (turns_of a h)) (event_count (turns_of b h))) ∙ sym (λ i. (ap event_count f ∙ one_more t (turns_of a h)) i + event_count (g i))))
    (λ (e : t.by ≡ b). let f : turns_of b (t ∷ h) ≡ t ∷ turns_of b h = rw (eq-eqb t.by b e) refl in
    let g : turns_of a (t ∷ h) ≡ turns_of a h = rw (ne_eqb t.by a (λ c. other (sym c ∙ e))) refl in
    r ∙ (swapped (event_count (t ∷ [])) (event_count (turns_of a h)) (event_count (turns_of b h)) ∙ sym (λ i. event_count (g i) + (ap event_count f ∙ one_more t (turns_of b h)) i)))
    (all 0 t refl)

only_one : {A : Type 0} (x a : A) (i : ℕ) → get_elem? (x ∷ []) i ≡ some a → x ≡ a
only_one x a zero e = some-injective x a e
only_one x a (suc i) e = absurd (some-ne-none a (sym e))

-- where each turn is of one of two numbers, there are as many as both have
parted_length : (a b : ℕ) → a ≢ b → (h : List (Turn ℕ)) → ((k : ℕ) (t : Turn ℕ) → get_elem? h k ≡ some t → (t.by ≡ a) ⊎ (t.by ≡ b)) → length h ≡ length (turns_of a h) + length (turns_of b h)
parted_length a b other [] all = refl
parted_length a b other (t ∷ h) all =
    let r : length h ≡ length (turns_of a h) + length (turns_of b h) = parted_length a b other h (λ k u e. all (suc k) u e) in
    ⊎_elim
    (λ (e : t.by ≡ a). let f : length (turns_of a (t ∷ h)) ≡ suc (length (turns_of a h)) = rw (eq-eqb t.by a e) refl in
    let g : length (turns_of b (t ∷ h)) ≡ length (turns_of b h) = rw (ne_eqb t.by b (λ c. other (sym e ∙ c))) refl in
    omega (arith, r, f, g))
    (λ (e : t.by ≡ b). let f : length (turns_of b (t ∷ h)) ≡ suc (length (turns_of b h)) = rw (eq-eqb t.by b e) refl in
    let g : length (turns_of a (t ∷ h)) ≡ length (turns_of a h) = rw (ne_eqb t.by a (λ c. other (sym c ∙ e))) refl in
    omega (arith, r, f, g))
    (all 0 t refl)

-- the turns of a history of which the first seat and the second one have all
record Parts (h : List (Turn ℕ)) (v w : View ℕ ℕ) : Type 0 where
  mine : turns_of v.number h ≡ v.own
  theirs : turns_of w.number h ≡ w.own
  far : v.number ≢ w.number
  each : (k : ℕ) (t : Turn ℕ) → get_elem? h k ≡ some t → (t.by ≡ v.number) ⊎ (t.by ≡ w.number)

two_parts : (h : List (Turn ℕ)) (v w u : View ℕ ℕ) → SameSeat (left_of (newborn 0)) v → SameSeat (right_of (newborn 0)) w → u ≡ both_of v w → HasAll u → Accounts u h → Parts h v w
two_parts h v w u p q e has account =
    let a : Accounts (both_of v w) h = subst (λ z. Accounts z h) e account in
    let kept : v.kept ++ kept_of w ∷ w.kept ≡ kept_of w ∷ [] = λ i. p.3 i ++ kept_of w ∷ q.3 i in
    record {
      mine = a.own;
      theirs = a.kept 0 (kept_of w) (ap (λ ks. get_elem? ks 0) kept);
      far = let x = p.1 in let y = q.1 in λ f. omega arith;
      each = λ k t at. ⊎_elim (λ (f : v.number ≡ t.by). inl (sym f))
          (λ (f : (i : ℕ) × (x : Kept ℕ) × (get_elem? (v.kept ++ kept_of w ∷ w.kept) i ≡ some x) × (x.number ≡ t.by)). inr (sym f.3 ∙ sym (ap (λ (z : Kept ℕ). z.number) (only_one (kept_of w) f.1 f.0 (ap (λ ks. get_elem? ks f.0) (sym kept) ∙ f.2)))))
          (a.all (subst HasAll e has) k t at);
    }

-- the count is the events of both
pub two_total : (c : Counter) (h : List (Turn ℕ)) (v w u : View ℕ ℕ) → SameSeat (left_of (newborn 0)) v → SameSeat (right_of (newborn 0)) w → u ≡ both_of v w → HasAll u → Accounts u h → Counted c 0 h
    → c.count ≡ (event_count v.own + event_count w.own) % 2 ^ 64
two_total c h v w u p q e has account counted =
    let parts = two_parts h v w u p q e has account in
    let sum : event_count h ≡ event_count v.own + event_count w.own = parted v.number w.number parts.far h parts.each ∙ (λ i. event_count (parts.mine i) + event_count (parts.theirs i)) in
    counted ∙ ap (λ z. z % 2 ^ 64) (from_zero (event_count h) ∙ sum)

-- the turns of both are all
pub two_length : (h : List (Turn ℕ)) (v w u : View ℕ ℕ) → SameSeat (left_of (newborn 0)) v → SameSeat (right_of (newborn 0)) w → u ≡ both_of v w → HasAll u → Accounts u h → length h ≡ length v.own + length w.own
two_length h v w u p q e has account =
    let parts = two_parts h v w u p q e has account in
    parted_length v.number w.number parts.far h parts.each ∙ (λ i. length (parts.mine i) + length (parts.theirs i))

counting_events : (v : View ℕ ℕ) (n : ℕ) → event_count (counting v n) ≡ n
counting_events v zero = refl
counting_events v (suc n) = sum_by-append (λ (u : Turn ℕ). length u.events) (counting v n) (turn_of v (n ∷ []) ∷ []) ∙ ap (λ k. k + 1) (counting_events v n) ∙ add-one n

-- and as many events, one in each
pub taken_events : (v w : View ℕ ℕ) (n : ℕ) → v.own ≡ [] → HasTaken v w n → event_count w.own ≡ n
taken_events v w n none h = ap event_count (h ∙ ap (λ l. l ++ counting v n) none) ∙ counting_events v n

counting_length : (v : View ℕ ℕ) (n : ℕ) → length (counting v n) ≡ n
counting_length v zero = refl
counting_length v (suc n) = length-append (counting v n) (turn_of v (n ∷ []) ∷ []) ∙ ap (λ k. k + 1) (counting_length v n) ∙ add-one n

-- a seat that began with no turns has just as many as it took
taken_length : (v w : View ℕ ℕ) (n : ℕ) → v.own ≡ [] → HasTaken v w n → length w.own ≡ n
taken_length v w n none h = ap length (h ∙ ap (λ l. l ++ counting v n) none) ∙ counting_length v n

ended_all : (times : ℕ) (o v : View ℕ ℕ) → o.own ≡ [] → HasEnded o v times true → length v.own ≡ times
ended_all times o v none e = taken_length o v times none e.0

ended_less : (times : ℕ) (o v : View ℕ ℕ) → o.own ≡ [] → HasEnded o v times false → (length v.own < times) × (0 < v.spent)
ended_less times o v none e = (subst (λ n. n < times) (sym (taken_length o v e.0 none e.2)) e.1, omega (arith, e.3))

ended : (times : ℕ) (o v : View ℕ ℕ) (b : Bool) → o.own ≡ [] → HasEnded o v times b → length v.own ≤ times
ended times o v true none e = omega (arith, ended_all times o v none e)
ended times o v false none e = omega (arith, (ended_less times o v none e).0)

-- both took all their turns
pub both_all : (times : ℕ) (o v p w : View ℕ ℕ) (a b : Bool) → (a && b) ≡ true → HasEnded o v times a → HasEnded p w times b → HasTaken o v times × HasTaken p w times
both_all times o v p w true true h e f = (e.0, f.0)
both_all times o v p w true false h e f = cc
both_all times o v p w false b h e f = cc

-- so they have as many as that
pub both_ended : (times : ℕ) (o v p w : View ℕ ℕ) (a b : Bool) → o.own ≡ [] → p.own ≡ [] → (a && b) ≡ true → HasEnded o v times a → HasEnded p w times b → length v.own + length w.own ≡ times + times
both_ended times o v p w true true m n h e f = omega (arith, ended_all times o v m e, ended_all times p w n f)
both_ended times o v p w true false m n h e f = cc
both_ended times o v p w false b m n h e f = cc

-- one of them took fewer, and found no ticket left
pub one_refused : (times : ℕ) (o v p w : View ℕ ℕ) (a b : Bool) → o.own ≡ [] → p.own ≡ [] → (a && b) ≡ false → HasEnded o v times a → HasEnded p w times b
    → (length v.own + length w.own < times + times) × (0 < v.spent + w.spent)
one_refused times o v p w true true m n h e f = cc
one_refused times o v p w true false m n h e f =
    let less = ended_less times p w n f in
    (omega (arith, ended_all times o v m e, less.0), omega (arith, less.1))
one_refused times o v p w false b m n h e f =
    let less = ended_less times o v m e in
    (omega (arith, less.0, ended times p w b n f), omega (arith, less.1))
