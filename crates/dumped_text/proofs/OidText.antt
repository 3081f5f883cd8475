-- The text of an object identifier is that of its arcs.
use Rattle.std.proofs.Common.{◌≡◌, ℕ, zero, suc, ◌+◌, ◌*◌, ◌-◌, ◌/◌, ◌%◌, ◌<◌, ◌≤◌, min, Bool, true, false, nat_lt, if◌then◌else◌, List, [], ◌∷◌, ◌++◌, All, refl, sym, ap, ◌∙◌, append_assoc, arith}
use Rattle.std.proofs.lemmas.Bool.Decides.{nat_tests}
use Rattle.std.proofs.lemmas.List.Elements.{All-head, All-tail}
use Rattle.std.specs.List.{fold}
use Rattle.req_tree.specs.Oid.{WriteNumbers, IsOid, IsOidBytes, IsOidText, dotted}
use Rattle.dumped_text.specs.Dumped.{numbers_from, arcs, oid_text}

pub then_is : {A : Type 0} (b : Bool) (x y : A) → b ≡ true → (if b then x else y) ≡ x
then_is true x y h = refl
then_is false x y h = cc

pub else_is : {A : Type 0} (b : Bool) (x y : A) → b ≡ false → (if b then x else y) ≡ y
else_is false x y h = refl
else_is true x y h = cc

-- the number of bytes in base 128 behind a number
abbrev pub base_from : ℕ → List ℕ → ℕ
base_from part bytes = fold (λ n b. 128 * n + b % 128) part bytes

-- a number at the front is read, and then the rest
numbers_from-one : (front : List ℕ) (part last : ℕ) (rest : List ℕ) → All (λ b. (128 ≤ b) × (b < 256)) front → last < 128
    → numbers_from part (front ++ last ∷ rest) ≡ base_from part (front ++ last ∷ []) ∷ numbers_from 0 rest
numbers_from-one [] part last rest high end =
    let ends : nat_lt last 128 ≡ true = grind (arith, nat_tests) in
    let low : 128 * part + last ≡ 128 * part + last % 128 = omega arith in
    then_is _ _ _ ends ∙ ap (λ n. n ∷ numbers_from 0 rest) low
numbers_from-one (b ∷ front) part last rest high end =
    let head = All-head (λ b. (128 ≤ b) × (b < 256)) b front high in
    let b_high : 128 ≤ b = head.0 in
    let goes_on : nat_lt b 128 ≡ false = grind (arith, nat_tests, b_high) in
    else_is _ _ _ goes_on ∙ numbers_from-one front (128 * part + b % 128) last rest (All-tail (λ b. (128 ≤ b) × (b < 256)) b front high) end

-- the numbers that were written are read
numbers_from-written : (numbers bytes : List ℕ) → WriteNumbers numbers bytes → numbers_from 0 bytes ≡ numbers
numbers_from-written [] bytes h = ap (numbers_from 0) h
numbers_from-written (n ∷ numbers) bytes h =
    let w = h.3 in
    let parts : bytes ≡ w.front ++ w.last ∷ h.1 = h.2 ∙ ap (λ x. x ++ h.1) w.parts ∙ append_assoc w.front (w.last ∷ []) h.1 in
    let value : base_from 0 (w.front ++ w.last ∷ []) ≡ n = ap (base_from 0) (sym w.parts) ∙ w.value in
    ap (numbers_from 0) parts
    ∙ numbers_from-one w.front 0 w.last h.1 w.more w.end
    ∙ ap (λ k. k ∷ numbers_from 0 h.1) value
    ∙ ap (λ rest. n ∷ rest) (numbers_from-written numbers h.1 h.4)

-- the first number is taken apart again
first_two : (a b : ℕ) → a ≤ 2 → (a < 2 → b ≤ 39) → (min ((40 * a + b) / 40) 2 ≡ a) × (40 * a + b - 40 * min ((40 * a + b) / 40) 2 ≡ b)
first_two zero b small fits = let k : b ≤ 39 = fits (omega arith) in (omega (arith, k), omega (arith, k))
first_two (suc zero) b small fits = let k : b ≤ 39 = fits (omega arith) in (omega (arith, k), omega (arith, k))
first_two (suc (suc zero)) b small fits = (omega arith, omega arith)
first_two (suc (suc (suc a))) b small fits = absurd (omega (arith, small))

pub oid_text-is : (oid : List ℕ) → IsOidBytes oid → IsOidText oid (oid_text oid)
unfolding oid_text
oid_text-is oid h =
    let is : IsOid h.0 oid = h.1 in
    let read : numbers_from 0 oid ≡ (40 * is.a + is.b) ∷ is.rest = numbers_from-written _ oid is.bytes_are in
    let two = first_two is.a is.b is.a_fits is.b_fits in
    let same : arcs ((40 * is.a + is.b) ∷ is.rest) ≡ is.a ∷ is.b ∷ is.rest =
    ap (λ x. x ∷ (40 * is.a + is.b - 40 * min ((40 * is.a + is.b) / 40) 2) ∷ is.rest) two.0 ∙ ap (λ y. is.a ∷ y ∷ is.rest) two.1 in
    (h.0, h.1, ap (λ ns. dotted (arcs ns)) read ∙ ap dotted (same ∙ sym is.arcs_are))
