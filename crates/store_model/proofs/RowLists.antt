-- Lists of rows under a map, a filter and a push.
use Rattle.std.proofs.Common.{◌≡◌, ℕ, ◌+◌, ◌<◌, ◌≤◌, List, [], ◌∷◌, ◌++◌, length, get_or, refl, sym, subst, arith, inl, inr, Option, Some, None}
use Rattle.std.specs.Prelude.{All, AllPairs, Bool, true, false, map, bytes_eq, ◌≢◌, if◌then◌else◌}
use Rattle.std.specs.List.{filter}
use Rattle.std.specs.Option.{option_or}
use Rattle.std.proofs.lemmas.Bool.{both_ways, cases_order}
use Rattle.std.proofs.lemmas.Slice.Eq.{bytes_eq-Decides}
use Rattle.std.proofs.lemmas.List.{length-map, get_or-map, get_or_append_left, get_or_push, length_push}
use Rattle.std.proofs.lemmas.List.Elements.{All-nil, All-cons, All-map}
use Rattle.policy_model.specs.Changes.{change}
use Rattle.policy_model.specs.Rules.{Row}

-- what all mapped elements are
pub all_unmap : {X Y : Type 0} (P : Y → Type 0) (f : X → Y) (xs : List X) → All P (map f xs) → All (λ x. P (f x)) xs
all_unmap P f xs h k d lt = subst P (get_or-map f xs k d (f d) lt) (h k (f d) (subst (λ n. k < n) (sym (length-map xs f)) lt))

pub pairs_map : {X Y : Type 0} (R : Y → Y → Type 0) (f : X → Y) (xs : List X) → AllPairs (λ a b. R (f a) (f b)) xs → AllPairs R (map f xs)
pairs_map R f [] h i j d lt in' = absurd (omega (arith, in'))
pairs_map R f (x ∷ xs) h i j d lt in' =
    let jl : j < length (x ∷ xs) = subst (λ n. j < n) (length-map (x ∷ xs) f) in' in
    subst (λ a. R a (get_or (map f (x ∷ xs)) j d)) (sym (get_or-map f (x ∷ xs) i x d (omega (arith, lt, jl))))
    (subst (λ b. R (f (get_or (x ∷ xs) i x)) b) (sym (get_or-map f (x ∷ xs) j x d jl)) (h i j x lt jl))

pub pairs_unmap : {X Y : Type 0} (R : Y → Y → Type 0) (f : X → Y) (xs : List X) → AllPairs R (map f xs) → AllPairs (λ a b. R (f a) (f b)) xs
pairs_unmap R f xs h i j d lt in' =
    let jl = subst (λ n. j < n) (sym (length-map xs f)) in' in
    subst (λ a. R a (f (get_or xs j d))) (get_or-map f xs i d (f d) (omega (arith, lt, in')))
    (subst (λ b. R (get_or (map f xs) i (f d)) b) (get_or-map f xs j d (f d) in') (h i j (f d) lt jl))

-- one element more at the end
pub push_cases : {X : Type 0} (P : ℕ → X → Type 0) (xs : List X) (x : X) → ((k : ℕ) (d : X) → k < length xs → P k (get_or xs k d)) → P (length xs) x → (k : ℕ) (d : X) → k < length (xs ++ x ∷ []) → P k (get_or (xs ++ x ∷ []) k d)
push_cases P xs x h p k d lt = elim (cases_order k (length xs)) as (λ _. P k (get_or (xs ++ x ∷ []) k d)) [
  | inl same ↦ subst (P k) (sym (get_or_push xs x d k (sym same))) (subst (λ n. P n x) (sym same) p)
  | inr other ↦ elim other as (λ _. P k (get_or (xs ++ x ∷ []) k d)) [
    | inl below ↦ subst (P k) (sym (get_or_append_left xs (x ∷ []) d k below)) (h k d below)
    | inr above ↦ absurd (omega (arith, above, lt, length_push xs x))
  ]
]

-- rows that are changed where a test passes
changed : (P : Row → Type 0) (f : Row → Row) (r : Row) (b : Bool) → P r → (b ≡ true → P (f r)) → P (if b then f r else r)
changed P f r true h k = k refl
changed P f r false h k = h

pub all_change : (P A : Row → Type 0) (test : Row → Bool) (f : Row → Row) (rows : List Row) → All P rows → All A rows → ((r : Row) → test r ≡ true → A r → P r → P (f r)) → All P (change test f rows)
all_change P A test f rows h a step =
    All-map P (λ r. if test r then f r else r) rows
    (λ k d l. changed P f (get_or rows k d) (test (get_or rows k d)) (h k d l) (λ t. step (get_or rows k d) t (a k d l) (h k d l)))

-- a filter keeps no more
shorter : {X : Type 0} (b : Bool) (x : X) (xs : List X) (n : ℕ) → length xs ≤ n → length (if b then x ∷ xs else xs) ≤ n + 1
shorter true x xs n h = omega (arith, h)
shorter false x xs n h = omega (arith, h)

pub filter_most : {X : Type 0} (p : X → Bool) (xs : List X) → length (filter p xs) ≤ length xs
filter_most p [] = omega arith
filter_most p (x ∷ xs) = omega (arith, shorter (p x) x (filter p xs) (length xs) (filter_most p xs))

-- nothing passes
none_left : {X : Type 0} (p : X → Bool) (b : Bool) (x : X) (xs : List X) → p x ≡ b → (if b then x ∷ filter p xs else filter p xs) ≡ [] → (p x ≡ false) × (filter p xs ≡ [])
none_left p true x xs e h = cc
none_left p false x xs e h = (e, h)

pub none_pass : {X : Type 0} (p : X → Bool) (xs : List X) → filter p xs ≡ [] → All (λ x. p x ≡ false) xs
none_pass p [] h = All-nil (λ x. p x ≡ false)
none_pass p (x ∷ xs) h =
    let both = none_left p (p x) x xs refl h in
    All-cons (λ y. p y ≡ false) x xs both.0 (none_pass p xs both.1)

-- bytes that differ, as a test and as a fact
bytes_differ : (a b : List ℕ) (t : Bool) → bytes_eq a b ≡ t → a ≢ b → t ≡ false
bytes_differ a b true e h = absurd (h ((bytes_eq-Decides a b).0 e))
bytes_differ a b false e h = refl

pub other_bytes : (a b : List ℕ) → a ≢ b → bytes_eq a b ≡ false
other_bytes a b h = bytes_differ a b (bytes_eq a b) refl h

pub same_bytes : (a b : List ℕ) → bytes_eq a b ≡ false → a ≢ b
same_bytes a b h e = both_ways (bytes_eq a b) h ((bytes_eq-Decides a b).1 e)

pub or_none : {X : Type 0} (a b : Option X) → option_or a b ≡ None → (a ≡ None) × (b ≡ None)
or_none None b h = (refl, h)
or_none (Some x) b h = cc
