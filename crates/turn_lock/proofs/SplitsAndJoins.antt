-- A split and a join keep the rule, and which numbers the seats then have.
use Rattle.std.proofs.Common.{◌≡◌, ◌≢◌, ◌⊎◌, ℕ, zero, suc, ◌+◌, ◌*◌, ◌<◌, true, false, List, [], ◌∷◌, ◌++◌, length, set, refl, ap, sym, subst, ◌∙◌, ⊎_elim, inl, inr, arith, Some, true≢false}
use mathlib.Core.List.{IsPrefix}
use mathlib.Core.Logic.{dite}
use mathlib.Core.Option.{some, some-ne-none, some-injective}
use native.Mathlib.Decide.{ℕ_discrete}
use lib.ListN.{get_elem?}
use Rattle.atomic_table.specs.Table.{Splits, Joins}
use Rattle.atomic_table.proofs.Lists.{at_set, set_else, at_longer}
use Rattle.turn_lock.specs.declared.logged.Turn.{Turn}
use Rattle.turn_lock.specs.declared.logged.Kept.{Kept}
use Rattle.turn_lock.specs.declared.logged.View.{View}
use Rattle.turn_lock.specs.Turns.{turns_of, longer}
use Rattle.turn_lock.specs.Views.{number_at, kept_at, Has, HasAll, IsOf, Rests, left_of, right_of, kept_of, both_of, left_behind, newborn}
use Rattle.turn_lock.specs.Rule.{Apart, SomeAt, KeptOk, Live, Ruled}
use Rattle.turn_lock.proofs.ChangedViews.{set_got, set_each, set_apart, apart_sym, some_set, some_left, some_longer, snoc_apart, at_end}
use Rattle.turn_lock.proofs.Histories.{prefix_trans, no_turns, same_turns, whole, longer_first, longer_second}
use Rattle.turn_lock.proofs.Numbers.{left_at, right_at, left_apart, right_apart, halves_apart}
use Rattle.turn_lock.proofs.StepsKeepTheRule.{is_born}

-- what stands between two lists
pub middle : {A : Type 0} (xs : List A) (y : A) (ys : List A) → get_elem? (xs ++ y ∷ ys) (length xs) ≡ some y
middle [] y ys = refl
middle (x ∷ xs) y ys = middle xs y ys

behind : {A : Type 0} (xs : List A) (y : A) (ys : List A) (k : ℕ) (a : A) → get_elem? ys k ≡ some a → (i : ℕ) × (get_elem? (xs ++ y ∷ ys) i ≡ some a)
behind [] y ys k a e = (suc k, e)
behind (x ∷ xs) y ys k a e = let t = behind xs y ys k a e in (suc t.0, t.1)

halved : (a : ℕ) → ((m : ℕ) × (a ≡ 2 * m)) ⊎ ((m : ℕ) × (a ≡ 1 + 2 * m))
halved zero = inl (0, refl)
halved (suc a) = ⊎_elim (λ (t : (m : ℕ) × (a ≡ 2 * m)). let e = t.1 in inr (t.0, omega arith)) (λ (t : (m : ℕ) × (a ≡ 1 + 2 * m)). let e = t.1 in inl (t.0 + 1, omega arith)) (halved a)

some_of : (a b : ℕ) → 0 < a + b → (0 < a) ⊎ (0 < b)
some_of zero b h = inr (omega arith)
some_of (suc a) b h = inl (omega arith)

-- where something stands in two lists with one between them
kept_cases : {A : Type 0} (xs : List A) (y : A) (ys : List A) (k : ℕ) (x : A) → get_elem? (xs ++ y ∷ ys) k ≡ some x → ((i : ℕ) × (get_elem? xs i ≡ some x)) ⊎ ((y ≡ x) ⊎ ((i : ℕ) × (get_elem? ys i ≡ some x)))
kept_cases [] y ys zero x e = inr (inl (some-injective y x e))
kept_cases [] y ys (suc k) x e = inr (inr (k, e))
kept_cases (z ∷ xs) y ys zero x e = inl (0, e)
kept_cases (z ∷ xs) y ys (suc k) x e = ⊎_elim (λ (t : (i : ℕ) × (get_elem? xs i ≡ some x)). inl (suc t.0, t.1)) (λ t. inr t) (kept_cases xs y ys k x e)

module _ {O E : Type 0} where
  of_first : (v w : View O E) (n : ℕ) → IsOf n v → IsOf n (both_of v w)
  of_first v w n f = ⊎_elim (λ (e : v.number ≡ n). inl e)
      (λ (t : (k : ℕ) × (x : Kept E) × (get_elem? v.kept k ≡ some x) × (x.number ≡ n)). inr (t.0, t.1, at_longer v.kept (kept_of w ∷ w.kept) t.0 t.1 t.2, t.3)) f

  of_second : (v w : View O E) (n : ℕ) → IsOf n w → IsOf n (both_of v w)
  of_second v w n f = ⊎_elim (λ (e : w.number ≡ n). inr (length v.kept, kept_of w, middle v.kept (kept_of w) w.kept, e))
      (λ (t : (k : ℕ) × (x : Kept E) × (get_elem? w.kept k ≡ some x) × (x.number ≡ n)). let i = behind v.kept (kept_of w) w.kept t.0 t.1 t.2 in inr (i.0, t.1, i.1, t.3)) f

  -- each number of a seat that was joined one of the two had
  has_of_both : (v w : View O E) (n : ℕ) → Has (both_of v w) n → Has v n ⊎ Has w n
  has_of_both v w n h = ⊎_elim (λ (t : (a : ℕ) × (n ≡ number_at v a)). inl (inl t))
      (λ (t : (k : ℕ) × (x : Kept E) × (get_elem? (both_of v w).kept k ≡ some x) × ((a : ℕ) × (n ≡ kept_at x a))). ⊎_elim
      (λ (q : (i : ℕ) × (get_elem? v.kept i ≡ some t.1)). inl (inr (q.0, t.1, q.1, t.3)))
      (λ (z : (kept_of w ≡ t.1) ⊎ ((i : ℕ) × (get_elem? w.kept i ≡ some t.1))). ⊎_elim
      (λ (q : kept_of w ≡ t.1). inr (inl (t.3.0, t.3.1 ∙ ap (λ (y : Kept E). kept_at y t.3.0) (sym q))))
      (λ (q : (i : ℕ) × (get_elem? w.kept i ≡ some t.1)). inr (inr (q.0, t.1, q.1, t.3))) z)
      (kept_cases v.kept (kept_of w) w.kept t.0 t.1 t.2)) h

  -- a seat that was joined has the numbers of both
  pub both_has : (v w : View O E) (n : ℕ) → Has v n ⊎ Has w n → Has (both_of v w) n
  both_has v w n h = ⊎_elim (λ (f : Has v n). ⊎_elim (λ (t : (a : ℕ) × (n ≡ number_at v a)). inl t)
      (λ (t : (k : ℕ) × (x : Kept E) × (get_elem? v.kept k ≡ some x) × ((a : ℕ) × (n ≡ kept_at x a))). inr (t.0, t.1, at_longer v.kept (kept_of w ∷ w.kept) t.0 t.1 t.2, t.3)) f)
      (λ (f : Has w n). ⊎_elim (λ (t : (a : ℕ) × (n ≡ number_at w a)). inr (length v.kept, kept_of w, middle v.kept (kept_of w) w.kept, t))
      (λ (t : (k : ℕ) × (x : Kept E) × (get_elem? w.kept k ≡ some x) × ((a : ℕ) × (n ≡ kept_at x a))). let i = behind v.kept (kept_of w) w.kept t.0 t.1 t.2 in inr (i.0, t.1, i.1, t.3)) f) h

  -- the parts of a split have all numbers of the seat
  pub halves_have : (v : View O E) (n : ℕ) → Has v n → Has (left_of v) n ⊎ Has (right_of v) n
  halves_have v n h = ⊎_elim (λ (t : (a : ℕ) × (n ≡ number_at v a)). ⊎_elim
      (λ (q : (m : ℕ) × (t.0 ≡ 2 * m)). inl (inl (q.0, t.1 ∙ (ap (number_at v) q.1 ∙ sym (left_at v q.0)))))
      (λ (q : (m : ℕ) × (t.0 ≡ 1 + 2 * m)). inr (inl (q.0, t.1 ∙ (ap (number_at v) q.1 ∙ sym (right_at v q.0))))) (halved t.0))
      (λ (t : (k : ℕ) × (x : Kept E) × (get_elem? v.kept k ≡ some x) × ((a : ℕ) × (n ≡ kept_at x a))). inl (inr t)) h

  -- the first seat has all numbers
  pub newborn_has : (o : O) → HasAll {O = O} {E = E} (newborn o)
  newborn_has o n = inl (n, omega arith)

module _ {S O E : Type 0} (stands : S → O → List (Turn E) → Type 0) (value : S) where
  -- a split keeps the rule
  pub splits : (id : ℕ) (v : View O E) (o : O) → v.origin ≡ Some o → Rests v → Splits (Ruled stands value) id v (left_of v) (right_of v)
  splits id v o is rests s r at =
      let b = is_born stands value s id v o r at is in let here = rests.0 in let l = b.each id v at here in let pos = l.step in
      let left : View O E = left_of v in let right : View O E = right_of v in let vs : List (View O E) = set s.views id left in
      let one : number_at v 1 ≡ v.number + v.step = omega arith in
      let P : ℕ → View O E → Type 0 = Live b.origin b.next b.serving b.history b.owner in
      let left_live : P id left = record {
        origin = l.origin;
        seen = l.seen;
        own = l.own;
        all = l.all;
        ticket = l.ticket;
        hold = l.hold;
        step = omega arith;
        fresh = λ k. ap (λ n. turns_of n b.history) (left_at v (suc k) ∙ ap (number_at v) (let e : 2 * suc k ≡ suc (2 * k + 1) = omega arith in e)) ∙ l.fresh (2 * k + 1);
        kept = l.kept;
        clear = λ k x e a c f. l.clear k x e a (2 * c) (f ∙ left_at v c);
        over = l.over;
      } in
      let new : turns_of (v.number + v.step) b.history ≡ [] = ap (λ n. turns_of n b.history) (sym one) ∙ l.fresh 0 in
      let right_live : (j : ℕ) → P j right = λ j. record {
        origin = l.origin;
        seen = l.seen;
        own = no_turns (v.number + v.step) v.seen b.history l.seen new;
        all = new;
        ticket = tt;
        hold = λ h. absurd (true≢false (sym h));
        step = omega arith;
        fresh = λ k. ap (λ n. turns_of n b.history) (right_at v (suc k) ∙ ap (number_at v) (let e : 1 + 2 * suc k ≡ suc (2 * k + 2) = omega arith in e)) ∙ l.fresh (2 * k + 2);
        kept = λ k x e. absurd (some-ne-none x (sym e));
        clear = λ k x e. absurd (some-ne-none x (sym e));
        over = λ z. absurd (omega arith);
      } in
      inr record {
        origin = b.origin;
        next = b.next;
        serving = b.serving;
        history = b.history;
        owner = b.owner;
        words = b.words;
        order = b.order;
        low = b.low;
        served = b.served;
        each = λ j u e live. ⊎_elim (λ (t : get_elem? vs j ≡ some u). set_each P s.views id left (λ _. left_live) (λ i w _ at' li. b.each i w at' li) j u t live)
            (λ (t : (j ≡ length vs) × (right ≡ u)). subst (P j) t.1 (right_live j)) (at_end vs right u j e);
        apart = snoc_apart vs right (set_apart s.views id v left at here (λ u q. left_apart v u q) b.apart)
            (λ i u e live. ⊎_elim (λ (t : (i ≡ id) × (left ≡ u)). subst (λ (x : View O E). Apart x right) t.1 (halves_apart v pos l.clear))
            (λ (t : (i ≢ id) × (get_elem? s.views i ≡ some u)). right_apart v u (b.apart i id u v t.0 t.1 at live here)) (at_set s.views id i left u e));
        drawn = λ t a c. some_longer (λ (z : View O E). z.tickets ≡ t ∷ []) vs right (b.owner t) (some_set (λ (z : View O E). z.tickets ≡ t ∷ []) s.views id v left (b.owner t) at here (λ q. q) (b.drawn t a c));
        made = λ k t e. let q = b.made k t e in (q.0, some_longer (IsOf t.by) vs right q.0 (some_set (IsOf t.by) s.views id v left q.0 at here (λ z. z) q.1));
        latest = (b.latest.0, some_longer (λ (z : View O E). z.seen ≡ b.history) vs right b.latest.0 (some_set (λ (z : View O E). z.seen ≡ b.history) s.views id v left b.latest.0 at here (λ q. q) b.latest.1));
        slot = elim b.slot [
          | inl y ↦ inl y
          | inr y ↦ inr (y.0, (y.1.0, some_longer (λ (z : View O E). z.holds ≡ true) vs right y.1.0 (some_set (λ (z : View O E). z.holds ≡ true) s.views id v left y.1.0 at here (λ q. q) y.1.1)))
        ];
      }

  -- the views after a join
  final_at : (vs : List (View O E)) (id other : ℕ) (both spent : View O E) → spent.gone ≡ true → (i : ℕ) (a : View O E) → get_elem? (set (set vs id both) other spent) i ≡ some a → a.gone ≡ false
      → (i ≢ other) × (((i ≡ id) × (both ≡ a)) ⊎ ((i ≢ id) × (get_elem? vs i ≡ some a)))
  final_at vs id other both spent gone i a e live = ⊎_elim (λ (t : (i ≡ other) × (spent ≡ a)). absurd (true≢false (sym gone ∙ (ap (λ (z : View O E). z.gone) t.1 ∙ live))))
      (λ (t : (i ≢ other) × (get_elem? (set vs id both) i ≡ some a)). (t.0, at_set vs id i both a t.1)) (at_set (set vs id both) other i spent a e)

  -- a join keeps the rule
  pub joins : (id : ℕ) (v : View O E) (other : ℕ) (w : View O E) (o : O) (p : O) → v.origin ≡ Some o → w.origin ≡ Some p → Rests v → Rests w → Joins (Ruled stands value) id v other w (both_of v w) left_behind
  joins id v other w o p is is' rests rests' s r at apart there =
      let b = is_born stands value s id v o r at is in let here = rests.0 in let here' = rests'.0 in
      let both : View O E = both_of v w in let spent : View O E = left_behind in
      let at' : get_elem? s.views other ≡ some w = sym (set_else s.views id other both apart) ∙ there in
      let l = b.each id v at here in let m = b.each other w at' here' in
      let vs : List (View O E) = set s.views id both in let end : List (View O E) = set vs other spent in
      let seen : List (Turn E) = longer v.seen w.seen in
      let p₁ : IsPrefix v.seen seen = longer_first v.seen w.seen in
      let p₂ = longer_second v.seen w.seen b.history l.seen m.seen in
      let P : ℕ → View O E → Type 0 = Live b.origin b.next b.serving b.history b.owner in
      let final = final_at s.views id other both spent refl in
      let live_both : P id both = record {
        origin = l.origin;
        seen = p₂.1;
        own = same_turns v.number v.seen seen b.history v.own p₁ p₂.1 l.own l.all;
        all = l.all;
        ticket = l.ticket;
        hold = λ h. absurd (true≢false (sym h ∙ rests.2));
        step = l.step;
        fresh = l.fresh;
        over = λ z. ⊎_elim (λ (some : 0 < v.spent). l.over some) (λ (some : 0 < w.spent). m.over some) (some_of v.spent w.spent z);
        clear = λ k x e a c f. ⊎_elim (λ (t : (i : ℕ) × (get_elem? v.kept i ≡ some x)). l.clear t.0 x t.1 a c f)
            (λ (u : (kept_of w ≡ x) ⊎ ((i : ℕ) × (get_elem? w.kept i ≡ some x))). b.apart id other v w (λ z. apart (sym z)) at at' here here' (number_at v c) (inl (c, refl))
            (⊎_elim (λ (t : kept_of w ≡ x). inl (a, sym f ∙ ap (λ (y : Kept E). kept_at y a) (sym t))) (λ (t : (i : ℕ) × (get_elem? w.kept i ≡ some x)). inr (t.0, x, t.1, (a, sym f))) u))
            (kept_cases v.kept (kept_of w) w.kept k x e);
        kept = λ k x e. ⊎_elim (λ (t : (i : ℕ) × (get_elem? v.kept i ≡ some x)). let q = l.kept t.0 x t.1 in (prefix_trans x.seen v.seen seen q.0 p₁, same_turns x.number v.seen seen b.history x.turns p₁ p₂.1 q.1 q.2, q.2))
            (λ (u : (kept_of w ≡ x) ⊎ ((i : ℕ) × (get_elem? w.kept i ≡ some x))). ⊎_elim
            (λ (t : kept_of w ≡ x). subst (KeptOk seen b.history) t (p₂.0, same_turns w.number w.seen seen b.history w.own p₂.0 p₂.1 m.own m.all, m.all))
            (λ (t : (i : ℕ) × (get_elem? w.kept i ≡ some x)). let q = m.kept t.0 x t.1 in (prefix_trans x.seen w.seen seen q.0 p₂.0, same_turns x.number w.seen seen b.history x.turns p₂.0 p₂.1 q.1 q.2, q.2)) u)
            (kept_cases v.kept (kept_of w) w.kept k x e);
      } in
      let far_both : (u : View O E) → Apart v u → Apart w u → Apart both u = λ u c d n f g. ⊎_elim (λ (h : Has v n). c n h g) (λ (h : Has w n). d n h g) (has_of_both v w n f) in
      let keep : (f : View O E → Type 0) (by : ℕ) → (f v → f both) → (f w → ⊥) → SomeAt s.views by f → SomeAt end by f = λ f by yes no t. some_left f vs other w spent by there no (some_set f s.views id v both by at here yes t) in
      inr record {
        origin = b.origin;
        next = b.next;
        serving = b.serving;
        history = b.history;
        owner = b.owner;
        words = b.words;
        order = b.order;
        low = b.low;
        served = b.served;
        each = set_each P vs other spent (λ z. absurd (true≢false z)) (λ j u _ e live. set_each P s.views id both (λ _. live_both) (λ i x _ e' li. b.each i x e' li) j u e live);
        apart = λ i j x y far ei ej li lj. let fi = final i x ei li in let fj = final j y ej lj in ⊎_elim
            (λ (t : (i ≡ id) × (both ≡ x)). ⊎_elim (λ (q : (j ≡ id) × (both ≡ y)). absurd (far (t.0 ∙ sym q.0)))
            (λ (q : (j ≢ id) × (get_elem? s.views j ≡ some y)). subst (λ (z : View O E). Apart z y) t.1 (far_both y (b.apart id j v y (λ c. q.0 (sym c)) at q.1 here lj) (b.apart other j w y (λ c. fj.0 (sym c)) at' q.1 here' lj))) fj.1)
            (λ (t : (i ≢ id) × (get_elem? s.views i ≡ some x)). ⊎_elim (λ (q : (j ≡ id) × (both ≡ y)). subst (λ (z : View O E). Apart x z) q.1 (apart_sym both x (far_both x (b.apart id i v x (λ c. t.0 (sym c)) at t.1 here li) (b.apart other i w x (λ c. fi.0 (sym c)) at' t.1 here' li))))
            (λ (q : (j ≢ id) × (get_elem? s.views j ≡ some y)). b.apart i j x y far t.1 q.1 li lj) fj.1) fi.1;
        drawn = λ t a c. keep (λ (z : View O E). z.tickets ≡ t ∷ []) (b.owner t) (λ q. q) (λ q. absurd (cc (sym rests'.1 ∙ q))) (b.drawn t a c);
        made = λ k t e. let q = b.made k t e in let F : View O E → Type 0 = IsOf t.by in
            let mine : IsOf t.by both → (by : ℕ) × SomeAt end by F = λ f. (id, (both, set_else vs other id spent (λ c. apart (sym c)) ∙ set_got s.views id v both at, here, f)) in
            dite (ℕ_discrete q.0 other)
            (λ c. let wf : IsOf t.by w = subst F (some-injective q.1.0 w (sym q.1.1 ∙ (ap (get_elem? s.views) c ∙ at'))) q.1.3 in mine (of_second v w t.by wf))
            (λ c. let g = some_set F s.views id v both q.0 at here (of_first v w t.by) q.1 in (q.0, (g.0, set_else vs other q.0 spent c ∙ g.1, g.2, g.3)));
        latest = let lt = b.latest in let full : (z : List (Turn E)) → z ≡ b.history → IsPrefix z seen → seen ≡ b.history = λ z e q. sym (whole b.history seen (subst (λ y. IsPrefix y seen) e q) p₂.1) in
            let f : View O E → Type 0 = λ z. z.seen ≡ b.history in
            let mine : seen ≡ b.history → (by : ℕ) × SomeAt end by f = λ e. (id, (both, set_else vs other id spent (λ c. apart (sym c)) ∙ set_got s.views id v both at, here, e)) in
            dite (ℕ_discrete lt.0 other)
            (λ e. mine (full w.seen (ap (λ (z : View O E). z.seen) (some-injective w lt.1.0 (sym at' ∙ (ap (get_elem? s.views) (sym e) ∙ lt.1.1))) ∙ lt.1.3) p₂.0))
            (λ e. (let g = some_set f s.views id v both lt.0 at here (λ q. full v.seen q p₁) lt.1 in (lt.0, (g.0, set_else vs other lt.0 spent e ∙ g.1, g.2, g.3))));
        slot = elim b.slot [
          | inl y ↦ inl y
          | inr y ↦ inr (y.0, (y.1.0, keep (λ (z : View O E). z.holds ≡ true) y.1.0 (λ q. q) (λ q. true≢false (sym q ∙ rests'.2)) y.1.1))
        ];
      }
