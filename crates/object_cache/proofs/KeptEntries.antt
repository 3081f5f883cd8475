-- Filters of entries, over the program's entries and those of the definitions.
use Rattle.std.proofs.Common.{◌≡◌, List, [], ◌∷◌, ◌++◌, refl, ap, ◌∙◌, arith}
use Rattle.std.specs.Prelude.{Bool, true, false, is_some}
use Rattle.std.specs.List.{filter, find, list_any}
use Rattle.std.proofs.lemmas.List.Elements.{filter-append}
use Rattle.object_cache.specs.declared.entry.Entry as code
use Rattle.policy_model.specs.History.{Entry}
use Rattle.object_cache.specs.Entry.{entry_of, entries_of}

one_kept : (test : Entry → Bool) (x : code.Entry) (xs : List code.Entry) (b : Bool) → test (entry_of x) ≡ b →
    entries_of (filter (λ y. test (entry_of y)) xs) ≡ filter test (entries_of xs) → entries_of (filter (λ y. test (entry_of y)) (x ∷ xs)) ≡ filter test (entries_of (x ∷ xs))
one_kept test x xs true is ih = grind (arith, is, ih)
one_kept test x xs false is ih = grind (arith, is, ih)

-- what is kept by a test of the definitions
kept_alike : (test : Entry → Bool) (xs : List code.Entry) → entries_of (filter (λ x. test (entry_of x)) xs) ≡ filter test (entries_of xs)
kept_alike test [] = refl
kept_alike test (x ∷ xs) = one_kept test x xs (test (entry_of x)) refl (kept_alike test xs)

-- the same of a list that is known to be what is kept
pub kept_by : (test : Entry → Bool) (xs ys : List code.Entry) → ys ≡ filter (λ x. test (entry_of x)) xs → entries_of ys ≡ filter test (entries_of xs)
kept_by test xs ys is = ap entries_of is ∙ kept_alike test xs

one_found : (test : Entry → Bool) (x : Entry) (xs : List Entry) (b : Bool) → test x ≡ b → list_any test xs ≡ is_some (find test xs) → list_any test (x ∷ xs) ≡ is_some (find test (x ∷ xs))
one_found test x xs true is ih = grind (arith, is, ih)
one_found test x xs false is ih = grind (arith, is, ih)

-- there is one exactly where one is found
pub any_found : (test : Entry → Bool) (xs : List Entry) → list_any test xs ≡ is_some (find test xs)
any_found test [] = refl
any_found test (x ∷ xs) = one_found test x xs (test x) refl (any_found test xs)

again_one : (test : Entry → Bool) (x : Entry) (xs : List Entry) (b : Bool) → test x ≡ b → filter test (filter test xs) ≡ filter test xs → filter test (filter test (x ∷ xs)) ≡ filter test (x ∷ xs)
again_one test x xs true is ih = grind (arith, is, ih)
again_one test x xs false is ih = grind (arith, is, ih)

-- what is kept is kept again
pub kept_again : (test : Entry → Bool) (xs : List Entry) → filter test (filter test xs) ≡ filter test xs
kept_again test [] = refl
kept_again test (x ∷ xs) = again_one test x xs (test x) refl (kept_again test xs)

pub last_kept : (test : Entry → Bool) (e : Entry) → test e ≡ true → filter test (e ∷ []) ≡ e ∷ []
last_kept test e h = grind (arith, h)

-- and one more behind it that passes
pub kept_last : (test : Entry → Bool) (xs : List Entry) (e : Entry) → test e ≡ true → filter test (filter test xs ++ e ∷ []) ≡ filter test xs ++ e ∷ []
kept_last test xs e h = filter-append test (filter test xs) (e ∷ []) ∙ ap (λ r. r ++ filter test (e ∷ [])) (kept_again test xs) ∙ ap (λ r. filter test xs ++ r) (last_kept test e h)
