-- Beginnings of a history, and the turns of one number in it.
use Rattle.std.proofs.Common.{◌≡◌, ◌≢◌, ℕ, ◌==◌, List, [], ◌∷◌, ◌++◌, refl, ap, sym, ◌∙◌, append_assoc, append-nil, eq-eqb, ne_eqb}
use Rattle.std.proofs.lemmas.List.Elements.{filter-append}
use mathlib.Core.List.{IsPrefix}
use Rattle.turn_lock.specs.declared.logged.Turn.{Turn}
use Rattle.turn_lock.specs.Turns.{turns_of, longer}

-- each list begins with itself
pub prefix_self : {A : Type 0} (xs : List A) → IsPrefix xs xs
prefix_self xs = ([], append-nil xs)

-- a beginning of a beginning
pub prefix_trans : {A : Type 0} (xs ys zs : List A) → IsPrefix xs ys → IsPrefix ys zs → IsPrefix xs zs
prefix_trans xs ys zs p q = (p.0 ++ q.0, sym (append_assoc xs p.0 q.0) ∙ (ap (λ w. w ++ q.0) p.1 ∙ q.1))

module _ {E : Type 0} where
  other_alone : (n : ℕ) (t : Turn E) → t.by ≢ n → turns_of n (t ∷ []) ≡ []
  other_alone n t e = rw (ne_eqb t.by n e) refl

  own_alone : (n : ℕ) (t : Turn E) → t.by ≡ n → turns_of n (t ∷ []) ≡ t ∷ []
  own_alone n t e = rw (eq-eqb t.by n e) refl

  -- a turn of another number adds nothing to the turns of this one
  pub other_turn : (n : ℕ) (h : List (Turn E)) (t : Turn E) (ys : List (Turn E)) → t.by ≢ n → turns_of n h ≡ ys → turns_of n (h ++ t ∷ []) ≡ ys
  other_turn n h t ys e is = filter-append (λ (u : Turn E). u.by == n) h (t ∷ []) ∙ (λ i. is i ++ other_alone n t e i) ∙ append-nil ys

  -- a turn of this number stands behind the others
  pub own_turn : (n : ℕ) (h : List (Turn E)) (t : Turn E) (ys : List (Turn E)) → t.by ≡ n → turns_of n h ≡ ys → turns_of n (h ++ t ∷ []) ≡ ys ++ t ∷ []
  own_turn n h t ys e is = filter-append (λ (u : Turn E). u.by == n) h (t ∷ []) ∙ (λ i. is i ++ own_alone n t e i)

  nothing : (xs ys : List (Turn E)) → xs ++ ys ≡ [] → xs ≡ []
  nothing [] ys e = refl
  nothing (x ∷ xs) ys e = absurd (cc e)

  no_more : (xs ys : List (Turn E)) → xs ++ ys ≡ xs → ys ≡ []
  no_more [] ys e = e
  no_more (x ∷ xs) ys e = no_more xs ys (cc e)

  -- where the history has no turn of a number, a beginning of it has none
  pub no_turns : (n : ℕ) (xs ys : List (Turn E)) → IsPrefix xs ys → turns_of n ys ≡ [] → turns_of n xs ≡ []
  no_turns n xs ys p e = nothing (turns_of n xs) (turns_of n p.0) (sym (filter-append (λ (u : Turn E). u.by == n) xs p.0) ∙ (ap (turns_of n) p.1 ∙ e))

  -- where the end has no more turns of a number than the beginning, what is between has none
  pub same_turns : (n : ℕ) (xs ys h os : List (Turn E)) → IsPrefix xs ys → IsPrefix ys h → turns_of n xs ≡ os → turns_of n h ≡ os → turns_of n ys ≡ os
  same_turns n xs ys h os p q e f =
      let T : List (Turn E) → List (Turn E) = turns_of n in
      let a : T ys ≡ T xs ++ T p.0 = sym (ap T p.1) ∙ filter-append (λ (u : Turn E). u.by == n) xs p.0 in
      let b : T h ≡ T ys ++ T q.0 = sym (ap T q.1) ∙ filter-append (λ (u : Turn E). u.by == n) ys q.0 in
      let c : T xs ++ (T p.0 ++ T q.0) ≡ T xs = sym (append_assoc (T xs) (T p.0) (T q.0)) ∙ (sym (ap (λ z. z ++ T q.0) a) ∙ (sym b ∙ (f ∙ sym e))) in
      let d : T p.0 ≡ [] = nothing (T p.0) (T q.0) (no_more (T xs) (T p.0 ++ T q.0) c) in
      a ∙ (ap (λ z. T xs ++ z) d ∙ (append-nil (T xs) ∙ e))

  -- two histories of which each is a beginning of the other
  pub whole : (xs ys : List (Turn E)) → IsPrefix xs ys → IsPrefix ys xs → xs ≡ ys
  whole xs ys p q = let e : xs ++ (p.0 ++ q.0) ≡ xs = sym (append_assoc xs p.0 q.0) ∙ (ap (λ z. z ++ q.0) p.1 ∙ q.1) in
      let n : p.0 ≡ [] = nothing p.0 q.0 (no_more xs (p.0 ++ q.0) e) in sym (append-nil xs) ∙ (ap (λ z. xs ++ z) (sym n) ∙ p.1)

  -- the longer of two histories goes on from the first
  pub longer_first : (a b : List (Turn E)) → IsPrefix a (longer a b)
  longer_first [] b = (b, refl)
  longer_first (x ∷ a) [] = prefix_self (x ∷ a)
  longer_first (x ∷ a) (y ∷ b) = let r = longer_first a b in (r.0, ap (λ z. x ∷ z) r.1)

  -- and from the second, where both are beginnings of one history; and it is a beginning of that one
  pub longer_second : (a b h : List (Turn E)) → IsPrefix a h → IsPrefix b h → IsPrefix b (longer a b) × IsPrefix (longer a b) h
  longer_second [] b h p q = (prefix_self b, q)
  longer_second (x ∷ a) [] h p q = ((x ∷ a, refl), p)
  longer_second (x ∷ a) (y ∷ b) [] p q = absurd (cc (p.1))
  longer_second (x ∷ a) (y ∷ b) (z ∷ h) p q =
      let r = longer_second a b h (p.0, cc (p.1)) (q.0, cc (q.1)) in
      let e : y ≡ x = cc (p.1, q.1) in let f : x ≡ z = cc (p.1) in
      ((r.0.0, λ i. e i ∷ r.0.1 i), (r.1.0, λ i. f i ∷ r.1.1 i))
