-- The first row stays the first.
use Rattle.std.proofs.Common.{◌≡◌, ℕ, zero, suc, ◌<◌, List, [], ◌∷◌, length, get_or, refl, sym, ap, ◌∙◌, subst, arith, ◌⊎◌, inl, inr, Some}
use Rattle.std.specs.Prelude.{Contains, Bool, true, false, cond, if◌then◌else◌}
use Rattle.std.specs.List.{filter, find}
use Rattle.std.proofs.lemmas.List.Elements.{All-contains, Contains-get_or}
use Rattle.policy_model.specs.Rules.{Row, rank_of, Before, IsFirst, HasNone}
use Rattle.policy_model.proofs.FirstRows.{later_one, first_one}

cons_parts : {X : Type 0} (y : X) (xs : List X) (x : X) (k : ℕ) → k < length (y ∷ xs) → get_or (y ∷ xs) k x ≡ x → (y ≡ x) ⊎ Contains xs x
cons_parts y xs x zero h e = inl e
cons_parts y xs x (suc k) h e = inr (k, omega (arith, h), e)

none_in : {X : Type 0} (x : X) → Contains [] x → ⊥
none_in x c = omega (arith, c.1)

-- an element is in a filtered list where it is in the list and passes
from_filter_one : {X : Type 0} (p : X → Bool) (y : X) (xs : List X) (x : X) (b : Bool) → p y ≡ b → Contains (cond b (y ∷ filter p xs) (filter p xs)) x → (Contains (filter p xs) x → Contains xs x × (p x ≡ true)) → Contains (y ∷ xs) x × (p x ≡ true)
from_filter_one p y xs x false e c ih = let h = ih c in (later_one y xs x h.0, h.1)
from_filter_one p y xs x true e c ih = elim (cons_parts y (filter p xs) x c.0 c.1 c.2) as (λ _. Contains (y ∷ xs) x × (p x ≡ true)) [ inl same ↦ (subst (λ z. Contains (y ∷ xs) z) same (first_one y xs), ap p (sym same) ∙ e) | inr in' ↦ (later_one y xs x (ih in').0, (ih in').1) ]

pub from_filter : {X : Type 0} (p : X → Bool) (xs : List X) (x : X) → Contains (filter p xs) x → Contains xs x × (p x ≡ true)
from_filter p [] x c = absurd (none_in x c)
from_filter p (y ∷ xs) x c = from_filter_one p y xs x (p y) refl c (from_filter p xs x)

into_filter_one : {X : Type 0} (p : X → Bool) (y : X) (xs : List X) (x : X) (b : Bool) → p y ≡ b → Contains (filter p xs) x → Contains (cond b (y ∷ filter p xs) (filter p xs)) x
into_filter_one p y xs x true e c = later_one y (filter p xs) x c
into_filter_one p y xs x false e c = c

pub into_filter : {X : Type 0} (p : X → Bool) (xs : List X) (x : X) → Contains xs x → p x ≡ true → Contains (filter p xs) x
into_filter p [] x c t = absurd (none_in x c)
into_filter p (y ∷ xs) x c t = elim (cons_parts y xs x c.0 c.1 c.2) as (λ _. Contains (filter p (y ∷ xs)) x) [ inl same ↦ subst (λ b. Contains (cond b (y ∷ filter p xs) (filter p xs)) x) (sym (ap p same ∙ t)) (subst (λ z. Contains (y ∷ filter p xs) z) same (first_one y (filter p xs))) | inr in' ↦ into_filter_one p y xs x (p y) refl (into_filter p xs x in' t) ]

-- what passes is in both of two lists or in neither
pub in_both : {X : Type 0} (p : X → Bool) (xs ys : List X) (x : X) → filter p xs ≡ filter p ys → Contains xs x → p x ≡ true → Contains ys x
in_both p xs ys x same c t = (from_filter p ys x (subst (λ l. Contains l x) same (into_filter p xs x c t))).0

-- the first by one property is the first by another over other rows, if each row that might come before it was there and had the property
pub first_stays : (P Q : Row → Type 0) (rows later : List Row) (g : Row) → IsFirst P rows g → Contains later g → Q g → ((s : Row) → Contains later s → Q s → Before (rank_of s) (rank_of g) → Contains rows s × P s) → IsFirst Q later g
first_stays P Q rows later g f here q back = record {
  among = here;
  itself = q;
  first = λ k d h qs b. let old = back (get_or later k d) (Contains-get_or later k d h) qs b in All-contains (λ s. P s → Before (rank_of s) (rank_of g) → ⊥) rows (get_or later k d) f.first old.0 old.1 b;
}

pub none_stays : (P Q : Row → Type 0) (rows later : List Row) → HasNone P rows → ((s : Row) → Contains later s → Q s → Contains rows s × P s) → HasNone Q later
none_stays P Q rows later none back = λ k d h qs. let old = back (get_or later k d) (Contains-get_or later k d h) qs in All-contains (λ s. P s → ⊥) rows (get_or later k d) none old.0 old.1

-- what a search finds is there, and passes

found_in : {X : Type 0} (test : X → Bool) (x : X) (xs : List X) (b : X) (c : Bool) → test x ≡ c → (if c then Some x else find test xs) ≡ Some b → (find test xs ≡ Some b → Contains xs b × (test b ≡ true)) → Contains (x ∷ xs) b × (test b ≡ true)
found_in test x xs b true e is more = let one : x ≡ b = cc in (subst (λ z. Contains (x ∷ xs) z) one (first_one x xs), ap test (sym one) ∙ e)
found_in test x xs b false e is more = let old = more is in (later_one x xs b old.0, old.1)

pub found : {X : Type 0} (test : X → Bool) (xs : List X) (b : X) → find test xs ≡ Some b → Contains xs b × (test b ≡ true)
found test [] b is = cc
found test (x ∷ xs) b is = found_in test x xs b (test x) refl is (found test xs b)
