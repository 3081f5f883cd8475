-- The words and the slot of a lock that was closed.
use Rattle.std.proofs.Common.{◌≡◌, ◌≢◌, ℕ, ◌+◌, ◌<◌, ◌≤◌, false, List, [], ◌∷◌, ap, sym, subst, ◌∙◌, inl, inr, arith, length, length-append, Option, Some}
use mathlib.Core.Logic.{dite}
use mathlib.Core.Option.{some, some-ne-none, some-injective}
use native.Mathlib.Decide.{ℕ_discrete}
use lib.ListN.{get_elem?}
use Rattle.atomic_table.specs.Table.{State, Final, Seen}
use Rattle.turn_lock.specs.declared.lock.TheConstants.{TICKETS}
use Rattle.turn_lock.specs.declared.logged.Turn.{Turn}
use Rattle.turn_lock.specs.declared.logged.View.{View}
use Rattle.turn_lock.specs.declared.seat.Seat.{Seat}
use Rattle.turn_lock.specs.Views.{HasAll, IsOf, Rests}
use Rattle.turn_lock.specs.Rule.{TicketOk, Born, Ruled}
use Rattle.turn_lock.specs.Seats.{Knows, known, first_of_views, IsStopped, IsWhole}
use Rattle.turn_lock.proofs.Numbers.{own_number}
use Rattle.turn_lock.proofs.StepsKeepTheRule.{is_born}

only : {A : Type 0} (xs : List A) (a : A) → length xs ≡ 1 → get_elem? xs 0 ≡ some a → xs ≡ a ∷ []
only [] a n e = absurd (some-ne-none a (sym e))
only (x ∷ []) a n e = ap (λ z. z ∷ []) (some-injective x a e)
only (x ∷ y ∷ xs) a n e = absurd (omega arith)

-- a list of two is what stands in its two places
pub pair : (ws : List ℕ) (a b n s : ℕ) → ws ≡ a ∷ b ∷ [] → get_elem? ws 0 ≡ some n → get_elem? ws 1 ≡ some s → ws ≡ n ∷ s ∷ []
pair ws a b n s e p q =
    let first : a ≡ n = some-injective a n (ap (λ l. get_elem? l 0) (sym e) ∙ p) in
    let second : b ≡ s = some-injective b s (ap (λ l. get_elem? l 1) (sym e) ∙ q) in
    e ∙ (λ i. first i ∷ second i ∷ [])

module _ {S O E : Type 0} (stands : S → O → List (Turn E) → Type 0) (v : View O E) (ws : List ℕ) (xs : List (Option S)) (stopped : IsStopped stands v ws xs) where
  same_words : (n s : ℕ) → ws ≡ n ∷ s ∷ [] → (stopped.next ≡ n) × (stopped.serving ≡ s)
  same_words n s e = (cc (stopped.words, e), cc (stopped.words, e))

  -- a lock that is whole: its value stands for a history of which what the seat has seen is a beginning
  pub stopped_whole : (x : S) → ((n : ℕ) × (ws ≡ n ∷ n ∷ [])) → xs ≡ Some x ∷ [] → IsWhole stands v x
  stopped_whole x same here =
      let e = same_words same.0 same.0 same.1 in
      let t = stopped.value (e.0 ∙ sym e.1) in
      let q : t.0 ≡ x = cc (t.1, here) in
      subst (IsWhole stands v) q t.2

  -- a lock that is stuck: its words are in order
  pub stopped_stuck : (n s : ℕ) → ws ≡ n ∷ s ∷ [] → n ≢ s → (length v.seen ≤ s) × (s < n) × (n ≤ TICKETS)
  stopped_stuck n s at other =
      let e = same_words n s at in let e₀ = e.0 in let e₁ = e.1 in
      let order = stopped.order in let low = stopped.low in let deep = stopped.seen in (omega arith, omega arith, omega arith)

  -- where no other seat is left, the lock is whole
  pub stopped_alone : HasAll v → ((n : ℕ) × (ws ≡ n ∷ n ∷ [])) × ((x : S) × (xs ≡ Some x ∷ []))
  stopped_alone has =
      let same = stopped.alone has in let t = stopped.value same in
      ((stopped.next, stopped.words ∙ (λ i. stopped.next ∷ sym same i ∷ [])), (t.0, t.1))

module _ {S O E : Type 0} (stands : S → O → List (Turn E) → Type 0) (value : S) where
  -- where a seat has all numbers, each other is left behind
  alone : {s : State (Option S) (View O E)} (b : Born stands s) (id : ℕ) (v : View O E) → get_elem? s.views id ≡ some v → v.gone ≡ false → HasAll v → (by : ℕ) (u : View O E) → get_elem? s.views by ≡ some u → u.gone ≡ false → v ≡ u
  alone {s} b id v at here has by u there live = dite (ℕ_discrete by id)
      (λ e. some-injective v u (sym at ∙ (ap (get_elem? s.views) (sym e) ∙ there)))
      (λ e. absurd (b.apart by id u v e there at live here u.number (own_number u) (has u.number)))

  -- the rule at the end is what is said of a lock that was closed
  closes : (id : ℕ) (v : View O E) (o : O) (ws : List ℕ) (xs : List (Option S)) → v.origin ≡ Some o → Rests v → Final (Seen (Ruled stands value) id v) ws xs → IsStopped stands v ws xs
  closes id v o ws xs is rests f = let s = f.0 in let at = f.1.1 in
      let b = is_born stands value s id v o f.1.0 at is in let l = b.each id v at rests.0 in
      let deep : length v.seen ≤ length b.history = let p = l.seen in let e : length v.seen + length p.0 ≡ length b.history = sym (length-append v.seen p.0) ∙ ap length p.1 in omega arith in
      let served = b.served in let order = b.order in record {
        next = b.next;
        serving = b.serving;
        words = sym f.2 ∙ b.words;
        seen = omega arith;
        order = b.order;
        low = b.low;
        alone = λ has. dite (ℕ_discrete b.next b.serving) (λ e. e) (λ e. absurd (let t = b.drawn b.serving (omega arith) (omega arith) in
            let same = alone b id v at rests.0 has (b.owner b.serving) t.0 t.1 t.2 in
            let n : [] ≡ b.serving ∷ [] = sym rests.1 ∙ (ap (λ (z : View O E). z.tickets) same ∙ t.3) in cc n));
        value = λ done. elim b.slot [
          | inl y ↦ (
            y.0,
            only xs (Some y.0) (sym f.3 ∙ ap length y.1) (f.4 0 (Some y.0) (ap (λ hs. get_elem? hs 0) y.1)),
            (
              o,
              b.history,
              is,
              subst (λ z. stands y.0 z b.history) (let e : b.origin ≡ o = cc (is, l.origin) in e) y.2,
              record {
                seen = l.seen;
                own = l.all;
                kept = λ k z q. (l.kept k z q).2;
                all = λ has k t e. let q = b.made k t e in subst (IsOf t.by) (sym (alone b id v at rests.0 has q.0 q.1.0 q.1.1 q.1.2)) q.1.3;
                within = let low = b.low in omega arith;
                over = λ z. let y = l.over z in omega arith;
              },
            ),
          )
          | inr y ↦ absurd (let m = b.each y.1.0 y.1.1.0 y.1.1.1 y.1.1.2 in let k : TicketOk b.next b.serving b.owner y.1.0 (b.serving ∷ []) = subst (TicketOk b.next b.serving b.owner y.1.0) (m.hold y.1.1.3).0 m.ticket in
              let k₁ = k.1 in omega arith)
        ];
      }

  -- the same of the seat that closed it
  pub closes_known : (id : ℕ) (s : Seat O E) (v : View O E) (ws : List ℕ) (xs : List (Option S)) → Knows s v → ((o : O) × ((known s).origin ≡ Some o)) → Rests (known s) → Final (Seen (Ruled stands value) id v) ws xs → IsStopped stands (known s) ws xs
  closes_known id s v ws xs knows has rests f = let e : known s ≡ v = ap first_of_views knows in
      closes id (known s) has.0 ws xs has.1 rests (subst (λ z. Final (Seen (Ruled stands value) id z) ws xs) (sym e) f)
