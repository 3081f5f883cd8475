-- How long the parts of a super-blob are that is written, what its header holds, and which part is added.
use Rattle.std.proofs.Common.{◌≡◌, ℕ, suc, ◌+◌, ◌*◌, ◌<◌, ◌≤◌, ◌^◌, Bool, true, false, ◌||◌, ◌==◌, nat_lt, nat_le, if◌then◌else◌, List, [], ◌∷◌, ◌++◌, length, refl, sym, ap, subst, ◌∙◌, append_assoc, arith, None, Some, length-append}
use Rattle.std.proofs.lemmas.Bool.Decides.{nat_tests}
use Rattle.byteorder.specs.Numbers.{length-bytes_high_first}
use Rattle.cs_blob.specs.Numbers.{number_at, word}
use Rattle.cs_blob.specs.Blobs.{IsSized}
use Rattle.cs_blob.specs.SuperBlobs.{count_of}
use Rattle.cs_blob.specs.Writing.{Draft, has_kind, body_bytes, total_of, add_fault, index_bytes, written, AreParts, IsDraft}
use Rattle.cs_blob.specs.declared.fault.WriterFault.TheVariants.{PartTwice, TooManyParts, TooLong}
use Rattle.cs_blob.proofs.NumbersPlaced.{number_at-behind, number_at-written}

-- a part: its type and its bytes
abbrev pub Part : Type 0
Part = ℕ × List ℕ

pub body-append : (xs ys : List Part) → body_bytes (xs ++ ys) ≡ body_bytes xs ++ body_bytes ys
body-append [] ys = refl
body-append (x ∷ xs) ys = ap (λ r. x.1 ++ r) (body-append xs ys) ∙ sym (append_assoc x.1 (body_bytes xs) (body_bytes ys))

append-nil : (xs : List ℕ) → xs ++ [] ≡ xs
append-nil [] = refl
append-nil (x ∷ xs) = ap (λ r. x ∷ r) (append-nil xs)

-- one more part
pub total-more : (parts : List Part) (kind : ℕ) (part : List ℕ) → total_of (parts ++ (kind, part) ∷ []) ≡ total_of parts + (8 + length part)
total-more parts kind part =
    let body : length (body_bytes (parts ++ (kind, part) ∷ [])) ≡ length (body_bytes parts) + length part =
    ap length (body-append parts ((kind, part) ∷ []) ∙ ap (λ r. body_bytes parts ++ r) (append-nil part)) ∙ length-append (body_bytes parts) part in
    let count : length (parts ++ (kind, part) ∷ []) ≡ length parts + 1 = length-append parts ((kind, part) ∷ []) in
    omega (arith, body, count)

no_or : (a b : Bool) → (a || b) ≡ false → (a ≡ false) × (b ≡ false)
no_or false b h = (refl, h)
no_or true b h = cc

or_no : (a b : Bool) → a ≡ false → b ≡ false → (a || b) ≡ false
or_no false b h k = k
or_no true b h k = cc

other_kind : (a b : ℕ) → (a == b) ≡ false → (b == a) ≡ false
other_kind a b h = grind (arith, nat_tests, h)

kind-more : (parts : List Part) (kind other : ℕ) (part : List ℕ) → has_kind parts other ≡ false → (kind == other) ≡ false → has_kind (parts ++ (kind, part) ∷ []) other ≡ false
kind-more [] kind other part h k = or_no _ _ k refl
kind-more (p ∷ parts) kind other part h k = let apart = no_or (p.0 == other) _ h in or_no _ _ apart.0 (kind-more parts kind other part apart.1 k)

parts-more : (parts : List Part) (kind : ℕ) (part : List ℕ) → AreParts parts → IsSized part → kind < 2 ^ 32 → has_kind parts kind ≡ false → AreParts (parts ++ (kind, part) ∷ [])
parts-more [] kind part are sized small own = (sized, small, refl, tt)
parts-more (p ∷ parts) kind part are sized small own =
    let apart = no_or (p.0 == kind) _ own in
    (are.0, are.1, kind-more parts kind p.0 part are.2 (other_kind p.0 kind apart.0), parts-more parts kind part are.3 sized small apart.1)

pub draft-more : (parts : List Part) (kind : ℕ) (part : List ℕ) → IsDraft parts → IsSized part → kind < 2 ^ 32 → has_kind parts kind ≡ false → length parts < 64
    → total_of parts + (8 + length part) ≤ 16777216 → IsDraft (parts ++ (kind, part) ∷ [])
draft-more parts kind part draft sized small own few short =
    let count : length (parts ++ (kind, part) ∷ []) ≡ length parts + 1 = length-append parts ((kind, part) ∷ []) in
    record {
      sound = parts-more parts kind part draft.sound sized small own;
      few = omega (arith, count, few);
      short = omega (arith, total-more parts kind part, short);
    }

le_test : (a b : ℕ) → b < a → nat_le a b ≡ false
le_test a b h = grind (arith, nat_tests)

lt_no : (a b : ℕ) → b ≤ a → nat_lt a b ≡ false
lt_no a b h = grind (arith, nat_tests)

lt_yes : (a b : ℕ) → a < b → nat_lt a b ≡ true
lt_yes a b h = grind (arith, nat_tests)

at_third : {A : Type 0} (a b c : Bool) (w x y z : A) → a ≡ false → b ≡ false → (if a then w else (if b then x else (if c then y else z))) ≡ (if c then y else z)
at_third false false c w x y z h k = refl
at_third true b c w x y z h k = cc
at_third false true c w x y z h k = cc

last_of : {A : Type 0} (c d : Bool) (y z : A) → c ≡ d → (if c then y else z) ≡ (if d then y else z)
last_of c d y z h = ap (λ b. if b then y else z) h

pub fits_when : (parts : List Part) (kind : ℕ) (part : List ℕ) → has_kind parts kind ≡ false → length parts < 64 → total_of parts + (8 + length part) ≤ 16777216 → add_fault parts kind part ≡ None
fits_when parts kind part own few short =
    at_third (has_kind parts kind) (nat_le 64 (length parts)) (nat_lt 16777216 (total_of (parts ++ (kind, part) ∷ []))) (Some PartTwice) (Some TooManyParts) (Some TooLong) None own (le_test 64 (length parts) few) ∙ last_of _ false (Some TooLong) None (lt_no 16777216 (total_of (parts ++ (kind, part) ∷ [])) (omega (arith, total-more parts kind part, short)))

pub long_when : (parts : List Part) (kind : ℕ) (part : List ℕ) → has_kind parts kind ≡ false → length parts < 64 → 16777216 < total_of parts + (8 + length part) → add_fault parts kind part ≡ Some TooLong
long_when parts kind part own few long =
    at_third (has_kind parts kind) (nat_le 64 (length parts)) (nat_lt 16777216 (total_of (parts ++ (kind, part) ∷ []))) (Some PartTwice) (Some TooManyParts) (Some TooLong) None own (le_test 64 (length parts) few) ∙ last_of _ true (Some TooLong) None (lt_yes 16777216 (total_of (parts ++ (kind, part) ∷ [])) (omega (arith, total-more parts kind part, long)))

-- a number behind a front
number_in : (front : List ℕ) (n : ℕ) (back : List ℕ) → n < 2 ^ 32 → number_at (length front) (front ++ (word n ++ back)) ≡ n
number_in front n back small = ap (λ k. number_at k (front ++ (word n ++ back))) (add_zero (length front)) ∙ number_at-behind front (word n ++ back) 0 ∙ number_at-written n back small
  where
    add_zero : (k : ℕ) → k ≡ k + 0
    add_zero k = omega arith

pub number_placed : (place : ℕ) (front : List ℕ) (n : ℕ) (back whole : List ℕ) → n < 2 ^ 32 → place ≡ length front → whole ≡ front ++ (word n ++ back) → number_at place whole ≡ n
number_placed place front n back whole small at is = ap (λ k. number_at k whole) at ∙ ap (number_at (length front)) is ∙ number_in front n back small

pub length-word : (n : ℕ) → length (word n) ≡ 4
unfolding word
length-word n = length-bytes_high_first 4 n

pub length-index : (offset : ℕ) (parts : List Part) → length (index_bytes offset parts) ≡ 8 * length parts
length-index offset [] = refl
length-index offset (p ∷ parts) =
    let rest : List ℕ = index_bytes (offset + length p.1) parts in
    let outer : length (word p.0 ++ word offset ++ rest) ≡ length (word p.0 ++ word offset) + length rest = length-append (word p.0 ++ word offset) rest in
    let inner : length (word p.0 ++ word offset) ≡ length (word p.0) + length (word offset) = length-append (word p.0) (word offset) in
    outer ∙ sum (length (word p.0 ++ word offset)) (length (word p.0)) (length (word offset)) (length rest) (length parts) inner (length-word p.0) (length-word offset) (length-index (offset + length p.1) parts)
  where
    sum : (x a b r n : ℕ) → x ≡ a + b → a ≡ 4 → b ≡ 4 → r ≡ 8 * n → x + r ≡ 8 * suc n
    sum x a b r n e f g h = omega arith

pub index-append : (offset : ℕ) (xs ys : List Part) → index_bytes offset (xs ++ ys) ≡ index_bytes offset xs ++ index_bytes (offset + length (body_bytes xs)) ys
index-append offset [] ys = ap (λ k. index_bytes k ys) (zero_more offset)
  where
    zero_more : (k : ℕ) → k ≡ k + 0
    zero_more k = omega arith
index-append offset (p ∷ xs) ys =
    ap (λ r. word p.0 ++ word offset ++ r) (index-append (offset + length p.1) xs ys ∙ ap (λ k. index_bytes (offset + length p.1) xs ++ index_bytes k ys) (sums offset (length p.1) (length (body_bytes xs)) (length (p.1 ++ body_bytes xs)) (length-append p.1 (body_bytes xs))))
    ∙ sym (append_assoc (word p.0 ++ word offset) (index_bytes (offset + length p.1) xs) (index_bytes (offset + length (p.1 ++ body_bytes xs)) ys))
  where
    sums : (o a b c : ℕ) → c ≡ a + b → o + a + b ≡ o + c
    sums o a b c h = omega arith

-- all before the index
abbrev pub head_of : Draft → List ℕ
head_of draft = word draft.magic ++ word (total_of draft.parts) ++ word (length draft.parts)

pub length-head : (draft : Draft) → length (head_of draft) ≡ 12
length-head draft =
    let outer = length-append (word draft.magic ++ word (total_of draft.parts)) (word (length draft.parts)) in
    let inner = length-append (word draft.magic) (word (total_of draft.parts)) in
    three (length (word draft.magic)) (length (word (total_of draft.parts))) (length (word (length draft.parts))) _ _ (length-word draft.magic) (length-word (total_of draft.parts)) (length-word (length draft.parts)) inner outer
  where
    three : (a b c ab abc : ℕ) → a ≡ 4 → b ≡ 4 → c ≡ 4 → ab ≡ a + b → abc ≡ ab + c → abc ≡ 12
    three a b c ab abc e f g h k = omega arith

pub written_is : (draft : Draft) → written draft ≡ (head_of draft ++ index_bytes (12 + 8 * length draft.parts) draft.parts) ++ body_bytes draft.parts
written_is draft = refl

pub length-written : (draft : Draft) → length (written draft) ≡ total_of draft.parts
length-written draft =
    let parts : List Part = draft.parts in
    let outer : length ((head_of draft ++ index_bytes (12 + 8 * length parts) parts) ++ body_bytes parts) ≡ length (head_of draft ++ index_bytes (12 + 8 * length parts) parts) + length (body_bytes parts) =
    length-append (head_of draft ++ index_bytes (12 + 8 * length parts) parts) (body_bytes parts) in
    let inner : length (head_of draft ++ index_bytes (12 + 8 * length parts) parts) ≡ length (head_of draft) + length (index_bytes (12 + 8 * length parts) parts) = length-append (head_of draft) (index_bytes (12 + 8 * length parts) parts) in
    ap length (written_is draft) ∙ sum (length (head_of draft)) (length (index_bytes (12 + 8 * length parts) parts)) (length parts) (length (body_bytes parts)) _ _ (length-head draft) (length-index (12 + 8 * length parts) parts) inner outer
  where
    sum : (a i n b ai aib : ℕ) → a ≡ 12 → i ≡ 8 * n → ai ≡ a + i → aib ≡ ai + b → aib ≡ 12 + 8 * n + b
    sum a i n b ai aib e f g h = omega arith

-- the three numbers of the header
pub written_magic : (draft : Draft) → draft.magic < 2 ^ 32 → number_at 0 (written draft) ≡ draft.magic
written_magic draft small =
    number_placed 0 [] draft.magic (word (total_of draft.parts) ++ (word (length draft.parts) ++ (index_bytes (12 + 8 * length draft.parts) draft.parts ++ body_bytes draft.parts))) (written draft) small refl
    (simp append_assoc)

pub written_total : (draft : Draft) → total_of draft.parts < 2 ^ 32 → number_at 4 (written draft) ≡ total_of draft.parts
written_total draft small =
    number_placed 4 (word draft.magic) (total_of draft.parts) (word (length draft.parts) ++ (index_bytes (12 + 8 * length draft.parts) draft.parts ++ body_bytes draft.parts)) (written draft) small (sym (length-word draft.magic))
    (simp append_assoc)

pub written_count : (draft : Draft) → length draft.parts < 2 ^ 32 → count_of (written draft) ≡ length draft.parts
written_count draft small =
    number_placed 8 (word draft.magic ++ word (total_of draft.parts)) (length draft.parts) (index_bytes (12 + 8 * length draft.parts) draft.parts ++ body_bytes draft.parts) (written draft) small
    (sym (length-append (word draft.magic) (word (total_of draft.parts)) ∙ two _ _ (length-word draft.magic) (length-word (total_of draft.parts))))
    (simp append_assoc)
  where
    two : (a b : ℕ) → a ≡ 4 → b ≡ 4 → a + b ≡ 8
    two a b h k = omega arith

-- what the writer keeps, with one more part
pub draft-grown : (parts grown : List Part) (kind : ℕ) (part copy : List ℕ) (size magic : ℕ) → IsDraft parts × (size ≡ total_of parts) × (magic < 2 ^ 32) → IsSized part → kind < 2 ^ 32
    → has_kind parts kind ≡ false → length parts < 64 → total_of parts + (8 + length part) ≤ 16777216 → grown ≡ parts ++ (kind, copy) ∷ [] → copy ≡ part
    → IsDraft grown × (size + (8 + length part) ≡ total_of grown) × (magic < 2 ^ 32)
draft-grown parts grown kind part copy size magic was sized small own few short is same =
    let all : grown ≡ parts ++ (kind, part) ∷ [] = is ∙ ap (λ p. parts ++ (kind, p) ∷ []) same in (
      subst IsDraft (sym all) (draft-more parts kind part was.0 sized small own few short),
      ap (λ n. n + (8 + length part)) was.1 ∙ sym (total-more parts kind part) ∙ ap total_of (sym all),
      was.2,
    )
