-- Lists of facts with one more at the end.
use Rattle.std.proofs.Common.{◌≡◌, ℕ, ◌<◌, Bool, true, false, ◌&&◌, ◌||◌, nat_lt, ◌==◌, if◌then◌else◌, List, [], ◌∷◌, ◌++◌, Option, None, Some, refl, sym, ap, ◌∙◌}
use Rattle.std.specs.List.{list_any, list_all, filter_map, cons_option}
use Rattle.std.specs.Str.{bytes_eq}
use Rattle.std.proofs.lemmas.Slice.Eq.{bytes_eq-Decides}
use Rattle.std.proofs.lemmas.Bool.Decides.{Decides-eqb, Decides-ltb}

pub or_true : (b : Bool) → (b || true) ≡ true
or_true true = refl
or_true false = refl

pub and_false : (b : Bool) → (b && false) ≡ false
and_false true = refl
and_false false = refl

pub and_left : (a b : Bool) → (a && b) ≡ true → a ≡ true
and_left true b h = refl
and_left false b h = h

pub and_right : (a b : Bool) → (a && b) ≡ true → b ≡ true
and_right true b h = h
and_right false b h = cc

pub and_both : (a b : Bool) → a ≡ true → b ≡ true → (a && b) ≡ true
and_both true b h k = k
and_both false b h k = h

-- a test is true or false
pub no_test : (b : Bool) → (b ≡ true → ⊥) → b ≡ false
no_test true h = absurd (h refl)
no_test false h = refl

module _ {X : Type 0} where
  pub same_any : (p : X → Bool) (xs : List X) (x : X) → p x ≡ false → list_any p (xs ++ x ∷ []) ≡ list_any p xs
  same_any p [] x h = rw h refl
  same_any p (y ∷ xs) x h = ap (λ b. p y || b) (same_any p xs x h)

  pub more_any : (p : X → Bool) (xs : List X) (x : X) → p x ≡ true → list_any p (xs ++ x ∷ []) ≡ true
  more_any p [] x h = rw h refl
  more_any p (y ∷ xs) x h = ap (λ b. p y || b) (more_any p xs x h) ∙ or_true (p y)

  -- a test that one more item meets or not
  pub any_when : (p : X → Bool) (xs : List X) (x : X) (b : Bool) → p x ≡ b → list_any p (xs ++ x ∷ []) ≡ (if b then true else list_any p xs)
  any_when p xs x true h = more_any p xs x h
  any_when p xs x false h = same_any p xs x h

  pub more_all : (p : X → Bool) (xs : List X) (x : X) → list_all p xs ≡ true → p x ≡ true → list_all p (xs ++ x ∷ []) ≡ true
  more_all p [] x h k = and_both (p x) true k refl
  more_all p (y ∷ xs) x h k = and_both (p y) (list_all p (xs ++ x ∷ [])) (and_left (p y) (list_all p xs) h) (more_all p xs x (and_right (p y) (list_all p xs) h) k)

  pub all_mono : (p q : X → Bool) → ((x : X) → p x ≡ true → q x ≡ true) → (xs : List X) → list_all p xs ≡ true → list_all q xs ≡ true
  all_mono p q f [] h = refl
  all_mono p q f (y ∷ xs) h = and_both (q y) (list_all q xs) (f y (and_left (p y) (list_all p xs) h)) (all_mono p q f xs (and_right (p y) (list_all p xs) h))

cons_append : {Y : Type 0} (o : Option Y) (xs ys : List Y) → cons_option o (xs ++ ys) ≡ cons_option o xs ++ ys
cons_append None xs ys = refl
cons_append (Some y) xs ys = refl

module _ {X Y : Type 0} where
  pub same_map : (h : X → Option Y) (xs : List X) (x : X) → h x ≡ None → filter_map h (xs ++ x ∷ []) ≡ filter_map h xs
  same_map h [] x e = rw e refl
  same_map h (y ∷ xs) x e = ap (λ r. cons_option (h y) r) (same_map h xs x e)

  pub more_map : (h : X → Option Y) (xs : List X) (x : X) (y : Y) → h x ≡ Some y → filter_map h (xs ++ x ∷ []) ≡ filter_map h xs ++ y ∷ []
  more_map h [] x y e = rw e refl
  more_map h (z ∷ xs) x y e = ap (λ r. cons_option (h z) r) (more_map h xs x y e) ∙ cons_append (h z) (filter_map h xs) (y ∷ [])

-- texts and numbers that a test finds equal
pub same_bytes : (a b : List ℕ) → bytes_eq a b ≡ true → a ≡ b
same_bytes a b h = (bytes_eq-Decides a b).0 h

pub bytes_same : (a b : List ℕ) → a ≡ b → bytes_eq a b ≡ true
bytes_same a b h = (bytes_eq-Decides a b).1 h

pub bytes_turned : (a b : List ℕ) (t : Bool) → bytes_eq a b ≡ t → bytes_eq b a ≡ t
bytes_turned a b true h = bytes_same b a (sym (same_bytes a b h))
bytes_turned a b false h = no_test (bytes_eq b a) (λ k. let e : bytes_eq a b ≡ true = bytes_same a b (sym (same_bytes b a k)) in cc)

pub same_number : (a b : ℕ) → (a == b) ≡ true → a ≡ b
same_number a b h = (Decides-eqb a b).0 h

pub number_same : (a b : ℕ) → a ≡ b → (a == b) ≡ true
number_same a b h = (Decides-eqb a b).1 h

pub number_other : (a b : ℕ) → (a ≡ b → ⊥) → (a == b) ≡ false
number_other a b h = no_test (a == b) (λ k. h (same_number a b k))

pub is_less : (a b : ℕ) → nat_lt a b ≡ true → a < b
is_less a b h = (Decides-ltb a b).0 h

pub less_is : (a b : ℕ) → a < b → nat_lt a b ≡ true
less_is a b h = (Decides-ltb a b).1 h
