-- Lists of views that change in one place.
use Rattle.std.proofs.Common.{◌≡◌, ◌≢◌, ◌⊎◌, ℕ, zero, suc, false, List, [], ◌∷◌, ◌++◌, length, set, refl, ap, sym, subst, ◌∙◌, ⊎_elim, inl, inr}
use mathlib.Core.Logic.{dite}
use mathlib.Core.Option.{some, some-ne-none, some-injective}
use native.Mathlib.Decide.{ℕ_discrete}
use lib.ListN.{get_elem?}
use Rattle.atomic_table.proofs.Lists.{at_set, set_else, at_longer}
use Rattle.turn_lock.specs.declared.logged.View.{View}
use Rattle.turn_lock.specs.Rule.{Apart, AllApart, SomeAt}

-- what was put in a place is found there
pub set_got : {A : Type 0} (l : List A) (i : ℕ) (a b : A) → get_elem? l i ≡ some a → get_elem? (set l i b) i ≡ some b
set_got [] i a b e = absurd (some-ne-none a (sym e))
set_got (x ∷ xs) zero a b e = refl
set_got (x ∷ xs) (suc i) a b e = set_got xs i a b e

-- a list of one
pub only_one : {A : Type 0} (x a : A) (i : ℕ) → get_elem? (x ∷ []) i ≡ some a → (i ≡ 0) × (x ≡ a)
only_one x a zero e = (refl, some-injective x a e)
only_one x a (suc i) e = absurd (some-ne-none a (sym e))

-- where something stands in a list that is longer by one
pub at_end : {A : Type 0} (l : List A) (a b : A) (j : ℕ) → get_elem? (l ++ a ∷ []) j ≡ some b → (get_elem? l j ≡ some b) ⊎ ((j ≡ length l) × (a ≡ b))
at_end [] a b zero e = inr (refl, some-injective a b e)
at_end [] a b (suc j) e = absurd (some-ne-none b (sym e))
at_end (x ∷ xs) a b zero e = inl e
at_end (x ∷ xs) a b (suc j) e = ⊎_elim (λ t. inl t) (λ (t : (j ≡ length xs) × (a ≡ b)). inr (ap suc t.0, t.1)) (at_end xs a b j e)

module _ {O E : Type 0} where
  -- what holds of the changed view, and held of the others, holds of each
  pub set_each : (P : ℕ → View O E → Type 0) (vs : List (View O E)) (id : ℕ) (w : View O E) → (w.gone ≡ false → P id w) → ((j : ℕ) (u : View O E) → j ≢ id → get_elem? vs j ≡ some u → u.gone ≡ false → P j u)
      → (j : ℕ) (u : View O E) → get_elem? (set vs id w) j ≡ some u → u.gone ≡ false → P j u
  set_each P vs id w here others j u e live = ⊎_elim (λ (t : (j ≡ id) × (w ≡ u)). subst (λ (x : ℕ × View O E). x.1.gone ≡ false → P x.0 x.1) (λ i. (sym t.0 i, t.1 i)) here live)
      (λ (t : (j ≢ id) × (get_elem? vs j ≡ some u)). others j u t.0 t.1 live) (at_set vs id j w u e)

  -- either way round
  pub apart_sym : (v w : View O E) → Apart v w → Apart w v
  apart_sym v w p n a b = p n b a

  -- a view that has no new number stays apart from all others
  pub set_apart : (vs : List (View O E)) (id : ℕ) (v w : View O E) → get_elem? vs id ≡ some v → v.gone ≡ false → ((u : View O E) → Apart v u → Apart w u) → AllApart vs → AllApart (set vs id w)
  set_apart vs id v w at live like all i j a b other ei ej li lj =
      ⊎_elim (λ (t : (i ≡ id) × (w ≡ a)).
      ⊎_elim (λ (r : (j ≡ id) × (w ≡ b)). absurd (other (t.0 ∙ sym r.0)))
      (λ (r : (j ≢ id) × (get_elem? vs j ≡ some b)). subst (λ (x : View O E). Apart x b) t.1 (like b (all id j v b (λ e. r.0 (sym e)) at r.1 live lj)))
      (at_set vs id j w b ej))
      (λ (t : (i ≢ id) × (get_elem? vs i ≡ some a)).
      ⊎_elim (λ (r : (j ≡ id) × (w ≡ b)). subst (λ (x : View O E). Apart a x) r.1 (apart_sym w a (like a (apart_sym a v (all i id a v t.0 t.1 at li live)))))
      (λ (r : (j ≢ id) × (get_elem? vs j ≡ some b)). all i j a b other t.1 r.1 li lj)
      (at_set vs id j w b ej))
      (at_set vs id i w a ei)

  -- what held of some view holds of it after the change, where the change keeps it
  pub some_set : (f : View O E → Type 0) (vs : List (View O E)) (id : ℕ) (v w : View O E) (by : ℕ) → get_elem? vs id ≡ some v → w.gone ≡ false → (f v → f w) → SomeAt vs by f → SomeAt (set vs id w) by f
  some_set f vs id v w by at live same t = dite (ℕ_discrete by id)
      (λ e. (w, ap (get_elem? (set vs id w)) e ∙ set_got vs id v w at, live, same (subst f (some-injective t.0 v (sym t.1 ∙ (ap (get_elem? vs) e ∙ at))) t.3)))
      (λ e. (t.0, set_else vs id by w e ∙ t.1, t.2, t.3))

  -- a change of a view of which f did not hold
  pub some_left : (f : View O E → Type 0) (vs : List (View O E)) (id : ℕ) (v w : View O E) (by : ℕ) → get_elem? vs id ≡ some v → (f v → ⊥) → SomeAt vs by f → SomeAt (set vs id w) by f
  some_left f vs id v w by at not t = dite (ℕ_discrete by id)
      (λ e. absurd (not (subst f (some-injective t.0 v (sym t.1 ∙ (ap (get_elem? vs) e ∙ at))) t.3)))
      (λ e. (t.0, set_else vs id by w e ∙ t.1, t.2, t.3))

  -- and after a seat is made
  pub some_longer : (f : View O E → Type 0) (vs : List (View O E)) (r : View O E) (by : ℕ) → SomeAt vs by f → SomeAt (vs ++ r ∷ []) by f
  some_longer f vs r by t = (t.0, at_longer vs (r ∷ []) by t.0 t.1, t.2, t.3)

  -- a new view that is apart from all others
  pub snoc_apart : (vs : List (View O E)) (r : View O E) → AllApart vs → ((i : ℕ) (u : View O E) → get_elem? vs i ≡ some u → u.gone ≡ false → Apart u r) → AllApart (vs ++ r ∷ [])
  snoc_apart vs r all far i j a b other ei ej li lj =
      ⊎_elim (λ (t : get_elem? vs i ≡ some a).
      ⊎_elim (λ (q : get_elem? vs j ≡ some b). all i j a b other t q li lj) (λ (q : (j ≡ length vs) × (r ≡ b)). subst (λ (x : View O E). Apart a x) q.1 (far i a t li)) (at_end vs r b j ej))
      (λ (t : (i ≡ length vs) × (r ≡ a)).
      ⊎_elim (λ (q : get_elem? vs j ≡ some b). subst (λ (x : View O E). Apart x b) t.1 (apart_sym b r (far j b q lj))) (λ (q : (j ≡ length vs) × (r ≡ b)). absurd (other (t.0 ∙ sym q.0))) (at_end vs r b j ej))
      (at_end vs r a i ei)
