-- The reading of object identifiers takes bytes just where they are those of one.
use Rattle.std.proofs.Common.{◌≡◌, ◌≢◌, IsTrue, ℕ, zero, suc, ◌+◌, ◌≤◌, Bool, true, false, ◌==◌, ◌||◌, List, [], ◌∷◌, length, Option, Some, None, refl, sym, ap, ◌∙◌, arith, length-append}
use Rattle.req_tree.specs.Oid.{WriteNumbers, IsOidBytes, IsBytes}
use Rattle.req_tree.specs.Steps.{HasNumbers}
use Rattle.req_tree.specs.OidReading.{septets_at, numbers_behind, is_oid}
use Rattle.req_tree.proofs.OidNumbers.{septets_at-reads, has_before, has_none, bytes_after, oid_numbers, oid_some, oid_from, empty_when}

-- what is left behind a number is nothing, or numbers again
behind_when : (a b : Bool) (bytes rest : List ℕ) (n : ℕ) → (length rest == 0) ≡ a → (a || b) ≡ true → IsBytes bytes → septets_at bytes ≡ Some (n, rest) → (b ≡ true → HasNumbers rest) → HasNumbers bytes
behind_when true b bytes rest n ends h are e next = has_before n bytes rest are e (has_none rest (empty_when rest ends))
behind_when false true bytes rest n ends h are e next = has_before n bytes rest are e (next refl)
behind_when false false bytes rest n ends h are e next = cc

behind_sound : (count : ℕ) (p : Option (ℕ × List ℕ)) (bytes : List ℕ) → septets_at bytes ≡ p → IsBytes bytes → numbers_behind count p ≡ true → HasNumbers bytes
behind_sound zero None bytes e are h = cc
behind_sound (suc count) None bytes e are h = cc
behind_sound zero (Some p) bytes e are h = has_before p.0 bytes p.1 are e (has_none p.1 (empty_when p.1 h))
behind_sound (suc count) (Some p) bytes e are h =
    behind_when (length p.1 == 0) (numbers_behind count (septets_at p.1)) bytes p.1 p.0 refl h are e (behind_sound count (septets_at p.1) p.1 refl (bytes_after p.0 bytes p.1 are e))

or_right : (a b : Bool) → b ≡ true → (a || b) ≡ true
or_right true b h = refl
or_right false b h = h

behind_complete : (count : ℕ) (numbers bytes : List ℕ) → length bytes ≤ count → WriteNumbers numbers bytes → bytes ≢ [] → numbers_behind count (septets_at bytes) ≡ true
behind_complete count [] bytes fits w some = absurd (some w)
behind_complete zero (n ∷ numbers) bytes fits w some =
    let sizes : length bytes ≡ length w.0 + length w.1 = ap length w.2 ∙ length-append w.0 w.1 in
    let size : length w.0 ≡ length w.3.front + 1 = ap length w.3.parts ∙ length-append w.3.front (w.3.last ∷ []) in
    absurd (omega (arith, sizes, size, fits))
behind_complete (suc count) (n ∷ numbers) bytes fits w some =
    let sizes : length bytes ≡ length w.0 + length w.1 = ap length w.2 ∙ length-append w.0 w.1 in
    let size : length w.0 ≡ length w.3.front + 1 = ap length w.3.parts ∙ length-append w.3.front (w.3.last ∷ []) in
    let read : septets_at bytes ≡ Some (n, w.1) = ap septets_at w.2 ∙ septets_at-reads n w.0 w.1 w.3 in
    ap (numbers_behind (suc count)) read ∙ by_rest w.1 (λ (more : w.1 ≢ []). behind_complete count numbers w.1 (omega (arith, sizes, size, fits)) w.4 more)
  where
    by_rest : (rest : List ℕ) → (rest ≢ [] → numbers_behind count (septets_at rest) ≡ true) → numbers_behind (suc count) (Some (n, rest)) ≡ true
    by_rest [] next = refl
    by_rest (x ∷ rest) next = or_right (length (x ∷ rest) == 0) _ (next (λ e. cc))

pub is_oid-sound : (bytes : List ℕ) → IsBytes bytes → is_oid bytes ≡ true → IsOidBytes bytes
unfolding is_oid
is_oid-sound bytes are h = oid_from bytes (some bytes h) (behind_sound (length bytes) (septets_at bytes) bytes refl are h)
  where
    some : (xs : List ℕ) → numbers_behind (length xs) (septets_at xs) ≡ true → xs ≢ []
    some [] h e = cc
    some (x ∷ xs) h e = cc

pub is_oid-complete : (bytes : List ℕ) → IsOidBytes bytes → is_oid bytes ≡ true
unfolding is_oid
is_oid-complete bytes oid =
    let has = oid_numbers bytes oid in
    behind_complete (length bytes) has.0 bytes (omega arith) has.1 (oid_some bytes oid)

-- a test that holds just of object identifiers is the reading
pub same_test : (bytes : List ℕ) (test : Bool) → IsBytes bytes → (IsTrue test → IsOidBytes bytes) × (IsOidBytes bytes → IsTrue test) → test ≡ is_oid bytes
same_test bytes true are h = sym (is_oid-complete bytes (h.0 refl))
same_test bytes false are h = by_test (is_oid bytes) refl
  where
    by_test : (b : Bool) → is_oid bytes ≡ b → false ≡ is_oid bytes
    by_test true e = let differs : false ≡ true = h.1 (is_oid-sound bytes are e) in cc
    by_test false e = sym e

-- no bytes are not read
pub none_read : (bytes : List ℕ) (none : Bool) → none ≡ (length bytes == 0) → none ≡ true → false ≡ is_oid bytes
unfolding is_oid
none_read bytes none e is = sym (ap is_oid (empty_when bytes (sym e ∙ is)))
