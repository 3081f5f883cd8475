-- Bytes begin with one blob at most, and what begins with one has no fault.
use Rattle.std.proofs.Common.{◌≡◌, ℕ, ◌+◌, ◌≤◌, Bool, true, false, List, ◌++◌, length, take, drop, refl, sym, ap, ◌∙◌, arith, Option, None, Some, [], ◌∷◌, ◌==◌, nat_lt, ◌||◌, if◌then◌else◌, length-append}
use Rattle.std.proofs.Math.Seq.{drop-append_seam}
use Rattle.std.proofs.lemmas.Bool.Decides.{nat_tests}
use Rattle.std.proofs.lemmas.List.{take-append-drop, length-take-le}
use Rattle.cs_blob.specs.Numbers.{number_at}
use Rattle.cs_blob.specs.Blobs.{IsBlob, blob_fault}
use Rattle.cs_blob.specs.declared.fault.BlobFault.{BlobFault}
use Rattle.cs_blob.specs.declared.fault.BlobFault.TheVariants.{Short, BadMagic, BadLength}
use Rattle.cs_blob.proofs.NumbersPlaced.{number_at-take, number_at-front}

-- the front of a length that the header tells is a blob
pub blob_read : (magic n : ℕ) (bytes whole rest : List ℕ) → 8 ≤ n → n ≤ length bytes → number_at 0 bytes ≡ magic → number_at 4 bytes ≡ n → whole ≡ take n bytes → rest ≡ drop n bytes
    → IsBlob magic whole × (bytes ≡ whole ++ rest)
blob_read magic n bytes whole rest header fits kind sized front back =
    let long : length whole ≡ n = ap length front ∙ length-take-le n bytes fits in (
      record {
        header = omega (arith, long, header);
        kind = ap (number_at 0) front ∙ number_at-take 0 n bytes (omega arith) fits ∙ kind;
        sized = ap (number_at 4) front ∙ number_at-take 4 n bytes (omega arith) fits ∙ sized ∙ sym long;
      },
      sym (take-append-drop n bytes) ∙ ap (λ r. r ++ drop n bytes) (sym front) ∙ ap (λ r. whole ++ r) (sym back),
    )

lt_test : (a b : ℕ) → b ≤ a → nat_lt a b ≡ false
lt_test a b h = grind (arith, nat_tests)

eq_test : (a b : ℕ) → a ≡ b → (a == b) ≡ true
eq_test a b h = grind (arith, nat_tests)

tests : {A : Type 0} (s k b : Bool) (w x y z : A) → s ≡ false → k ≡ true → b ≡ false → (if s then w else (if k then (if b then x else y) else z)) ≡ y
tests false true false w x y z h k b = refl
tests true k b w x y z h i j = cc
tests false false b w x y z h i j = cc
tests false true true w x y z h i j = cc

no_or : (a b : Bool) → a ≡ false → b ≡ false → (a || b) ≡ false
no_or false b h k = k
no_or true b h k = cc

-- what the header of the bytes tells of the blob at their front
pub kind_is : (magic : ℕ) (bytes whole rest : List ℕ) → IsBlob magic whole → bytes ≡ whole ++ rest → number_at 0 bytes ≡ magic
kind_is magic bytes whole rest blob is =
    let header : 8 ≤ length whole = blob.header in
    ap (number_at 0) is ∙ number_at-front 0 whole rest (omega (arith, header)) ∙ blob.kind

pub sized_is : (magic : ℕ) (bytes whole rest : List ℕ) → IsBlob magic whole → bytes ≡ whole ++ rest → number_at 4 bytes ≡ length whole
sized_is magic bytes whole rest blob is =
    let header : 8 ≤ length whole = blob.header in
    ap (number_at 4) is ∙ number_at-front 4 whole rest (omega (arith, header)) ∙ blob.sized

pub in_bounds : (magic : ℕ) (bytes whole rest : List ℕ) → IsBlob magic whole → bytes ≡ whole ++ rest → (8 ≤ number_at 4 bytes) × (number_at 4 bytes ≤ length bytes)
in_bounds magic bytes whole rest blob is =
    let sum : length bytes ≡ length whole + length rest = ap length is ∙ length-append whole rest in
    let header : 8 ≤ length whole = blob.header in
    let sized : number_at 4 bytes ≡ length whole = sized_is magic bytes whole rest blob is in
    (omega (arith, sum, header, sized), omega (arith, sum, header, sized))

-- what begins with a blob has none of the faults
pub no_fault : (magic : ℕ) (bytes whole rest : List ℕ) → IsBlob magic whole → bytes ≡ whole ++ rest → blob_fault magic bytes ≡ None
no_fault magic bytes whole rest blob is =
    let bounds = in_bounds magic bytes whole rest blob is in
    let low : 8 ≤ number_at 4 bytes = bounds.0 in
    let high : number_at 4 bytes ≤ length bytes = bounds.1 in
    tests (nat_lt (length bytes) 8) (number_at 0 bytes == magic) (nat_lt (number_at 4 bytes) 8 || nat_lt (length bytes) (number_at 4 bytes)) _ _ _ _
    (lt_test (length bytes) 8 (omega (arith, low, high)))
    (eq_test (number_at 0 bytes) magic (kind_is magic bytes whole rest blob is))
    (no_or _ _ (lt_test (number_at 4 bytes) 8 low) (lt_test (length bytes) (number_at 4 bytes) high))

-- the blob is as long as its header tells
pub whole_is : (magic : ℕ) (bytes whole rest : List ℕ) → IsBlob magic whole → bytes ≡ whole ++ rest → take (number_at 4 bytes) bytes ≡ whole
whole_is magic bytes whole rest blob is =
    ap (λ n. take n bytes) (sized_is magic bytes whole rest blob is) ∙ ap (take (length whole)) is ∙ take-append whole rest
  where
    take-append : (xs ys : List ℕ) → take (length xs) (xs ++ ys) ≡ xs
    take-append [] ys = refl
    take-append (x ∷ xs) ys = ap (λ r. x ∷ r) (take-append xs ys)

pub rest_is : (magic : ℕ) (bytes whole rest : List ℕ) → IsBlob magic whole → bytes ≡ whole ++ rest → drop (number_at 4 bytes) bytes ≡ rest
rest_is magic bytes whole rest blob is =
    ap (λ n. drop n bytes) (sized_is magic bytes whole rest blob is) ∙ ap (drop (length whole)) is ∙ drop-append_seam whole rest

-- bytes begin with one blob at most
pub same_blob : (magic : ℕ) (bytes whole rest other behind : List ℕ) → IsBlob magic whole → bytes ≡ whole ++ rest → IsBlob magic other → bytes ≡ other ++ behind
    → (whole ≡ other) × (rest ≡ behind)
same_blob magic bytes whole rest other behind blob is blob' is' = (
  sym (whole_is magic bytes whole rest blob is) ∙ whole_is magic bytes other behind blob' is',
  sym (rest_is magic bytes whole rest blob is) ∙ rest_is magic bytes other behind blob' is',
)

some_fault : (fault : BlobFault) (o : Option BlobFault) → o ≡ None → o ≡ Some fault → ⊥
some_fault fault o h k = cc

pub no_blob : (magic : ℕ) (bytes whole rest : List ℕ) (fault : BlobFault) → blob_fault magic bytes ≡ Some fault → IsBlob magic whole → bytes ≡ whole ++ rest → ⊥
no_blob magic bytes whole rest fault h blob is = some_fault fault _ (no_fault magic bytes whole rest blob is) h

-- a header without a fault
header_is : (magic : ℕ) (bytes : List ℕ) → blob_fault magic bytes ≡ None → (number_at 0 bytes ≡ magic) × (8 ≤ number_at 4 bytes) × (number_at 4 bytes ≤ length bytes)
header_is magic bytes h = by_tests (nat_lt (length bytes) 8) (number_at 0 bytes == magic) (nat_lt (number_at 4 bytes) 8) (nat_lt (length bytes) (number_at 4 bytes)) refl refl refl h
  where
    none : Option BlobFault
    none = None

    by_tests : (s k l m : Bool) → (number_at 0 bytes == magic) ≡ k → nat_lt (number_at 4 bytes) 8 ≡ l → nat_lt (length bytes) (number_at 4 bytes) ≡ m
        → (if s then Some Short else (if k then (if l || m then Some BadLength else None) else Some BadMagic)) ≡ None
        → (number_at 0 bytes ≡ magic) × (8 ≤ number_at 4 bytes) × (number_at 4 bytes ≤ length bytes)
    by_tests true k l m e f g h = absurd cc
    by_tests false false l m e f g h = absurd cc
    by_tests false true true m e f g h = absurd cc
    by_tests false true false true e f g h = absurd cc
    by_tests false true false false e f g h = (grind (arith, nat_tests, e), grind (arith, nat_tests, f), grind (arith, nat_tests, g))

-- bytes without a fault begin with a blob, as long as its header tells
pub found_at_front : (magic : ℕ) (bytes : List ℕ) → blob_fault magic bytes ≡ None → IsBlob magic (take (number_at 4 bytes) bytes)
found_at_front magic bytes h =
    let facts = header_is magic bytes h in
    (blob_read magic (number_at 4 bytes) bytes (take (number_at 4 bytes) bytes) (drop (number_at 4 bytes) bytes) facts.1 facts.2 facts.0 refl refl refl).0

-- the front of bytes that begin with a blob has no fault, and its header tells where the blob ends
pub only_at_front : (magic : ℕ) (bytes whole rest : List ℕ) → IsBlob magic whole → bytes ≡ whole ++ rest
    → (blob_fault magic bytes ≡ None) × (take (number_at 4 bytes) bytes ≡ whole) × (drop (number_at 4 bytes) bytes ≡ rest)
only_at_front magic bytes whole rest blob is = (no_fault magic bytes whole rest blob is, whole_is magic bytes whole rest blob is, rest_is magic bytes whole rest blob is)
