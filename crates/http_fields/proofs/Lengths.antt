-- The length of a body, by the fields that are there.
use Rattle.std.proofs.Common.{◌≡◌, ℕ, Bool, true, false, List, [], ◌∷◌, Err, refl, sym, ap, ◌∙◌, subst, codes, bytes_eq}
use Rattle.std.proofs.lemmas.Bool.{false≢true}
use Rattle.std.specs.List.{list_any}
use Rattle.http_model.specs.Faults.{no_length, bad_length}
use Rattle.http_model.specs.Fields.{Pair, is_named, values, by_digits, by_lengths, measured}

abbrev has : List ℕ → List Pair → Bool
has name pairs = list_any (is_named name) pairs

module _ (name : List ℕ) (p : Pair) (pairs : List Pair) where
  other_first : is_named name p ≡ false → has name (p ∷ pairs) ≡ has name pairs
  other_first other = rw other refl

  other_values : is_named name p ≡ false → values name (p ∷ pairs) ≡ values name pairs
  other_values other = rw other refl

  is_first : is_named name p ≡ true → has name (p ∷ pairs) ≡ true
  is_first is = rw is refl

  first_value : is_named name p ≡ true → values name (p ∷ pairs) ≡ p.1 ∷ values name pairs
  first_value is = rw is refl

-- without a field of the name it has no value
none_named : (name : List ℕ) (pairs : List Pair) → has name pairs ≡ false → values name pairs ≡ []
none_named name [] e = refl
none_named name (p ∷ pairs) e = go name p pairs e (none_named name pairs) (is_named name p) refl
  where
    go : (name : List ℕ) (p : Pair) (pairs : List Pair) → has name (p ∷ pairs) ≡ false → (has name pairs ≡ false → values name pairs ≡ []) → (b : Bool) → is_named name p ≡ b → values name (p ∷ pairs) ≡ []
    go name p pairs e later true is = absurd (false≢true (sym e ∙ is_first name p pairs is))
    go name p pairs e later false other = other_values name p pairs other ∙ later (sym (other_first name p pairs other) ∙ e)

-- there are values
abbrev HasValues : List (List ℕ) → Type 0
HasValues lengths = (value : List ℕ) × (more : List (List ℕ)) × (lengths ≡ value ∷ more)

-- with a field of the name it has some
some_named : (name : List ℕ) (pairs : List Pair) → has name pairs ≡ true → HasValues (values name pairs)
some_named name [] e = absurd (false≢true e)
some_named name (p ∷ pairs) e = go name p pairs e (some_named name pairs) (is_named name p) refl
  where
    go : (name : List ℕ) (p : Pair) (pairs : List Pair) → has name (p ∷ pairs) ≡ true → (has name pairs ≡ true → HasValues (values name pairs)) → (b : Bool) → is_named name p ≡ b
        → HasValues (values name (p ∷ pairs))
    go name p pairs e later true is = (p.1, values name pairs, first_value name p pairs is)
    go name p pairs e later false other = subst HasValues (sym (other_values name p pairs other)) (later (sym (other_first name p pairs other) ∙ e))

module _ (method : List ℕ) (pairs : List Pair) where
  pub coded : true ≡ has (codes "transfer-encoding") pairs → measured method pairs ≡ Err no_length
  coded e = rw (sym e) refl

  module _ (plain : false ≡ has (codes "transfer-encoding") pairs) where
    pub by_values : (lengths : List (List ℕ)) → values (codes "content-length") pairs ≡ lengths → measured method pairs ≡ by_lengths (bytes_eq method (codes "POST")) lengths
    by_values lengths e = rw (sym plain, e) refl

    module _ (value : List ℕ) (rest : List Pair) (first : values (codes "content-length") pairs ≡ value ∷ values (codes "content-length") rest) where
      pub twice : true ≡ has (codes "content-length") rest → measured method pairs ≡ Err bad_length
      twice e =
          let second = some_named (codes "content-length") rest (sym e) in
          by_values (value ∷ second.0 ∷ second.1) (first ∙ ap (λ t. value ∷ t) second.2)

      pub once : false ≡ has (codes "content-length") rest → measured method pairs ≡ by_digits value
      once e = by_values (value ∷ []) (first ∙ ap (λ t. value ∷ t) (none_named (codes "content-length") rest (sym e)))
