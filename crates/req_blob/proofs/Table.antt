-- The table of opcodes, both ways.
use Rattle.std.proofs.Common.{◌≡◌, ℕ, ◌+◌, ◌%◌, ◌^◌, ◌<◌, ◌≤◌, Bool, true, false, ◌==◌, nat_lt, if◌then◌else◌, refl, ap, ◌∙◌, arith}
use Rattle.std.proofs.lemmas.Bool.Decides.{nat_tests}
use Rattle.req_blob.specs.declared.opcode.Leaf.{Leaf}
use Rattle.req_blob.specs.declared.opcode.Leaf.TheVariants as l
use Rattle.req_blob.specs.declared.opcode.Opcode.{Opcode}
use Rattle.req_blob.specs.declared.opcode.Opcode.TheVariants as o
use Rattle.req_blob.specs.Opcodes.{unknown_of, opcode_at, opcode_of}

-- the number of an opcode without subexpressions
abbrev pub leaf_number : Leaf → ℕ
leaf_number l.Never = 0
leaf_number l.Always = 1
leaf_number l.Ident = 2
leaf_number l.AppleAnchor = 3
leaf_number l.AnchorHash = 4
leaf_number l.LegacyInfo = 5
leaf_number l.CdHash = 8
leaf_number l.InfoField = 10
leaf_number l.CertField = 11
leaf_number l.TrustedCert = 12
leaf_number l.TrustedAny = 13
leaf_number l.CertOid = 14
leaf_number l.AppleGeneric = 15
leaf_number l.EntitlementField = 16
leaf_number l.CertPolicy = 17
leaf_number l.NamedAnchor = 18
leaf_number l.NamedCode = 19
leaf_number l.Platform = 20
leaf_number l.Notarized = 21
leaf_number l.LegacyDevId = 23

-- one test of the chain: the number is this one, or greater
if_number : (P : Opcode → Type 0) (k i : ℕ) {x y : Opcode} → i ≤ k → (k ≡ i → P x) → (i + 1 ≤ k → P y) → P (if k == i then x else y)
if_number P k i {x} {y} low here above = by_test (k == i) refl
  where
    by_test : (b : Bool) → (k == i) ≡ b → P (if b then x else y)
    by_test true e = here (grind (arith, nat_tests, e))
    by_test false e = above (grind (arith, nat_tests, e, low))

-- what an opcode says of the first word and its number
abbrev pub IsRight : ℕ → ℕ → Opcode → Type 0
IsRight first k (o.Leaf leaf) = k ≡ leaf_number leaf
IsRight first k o.Both = k ≡ 6
IsRight first k o.Either = k ≡ 7
IsRight first k o.Negate = k ≡ 9
IsRight first k o.OutOfScope = Unit {0}
IsRight first k o.SkipFalse = (24 ≤ k) × (2 ^ 31 ≤ first)
IsRight first k o.SkipNext = (24 ≤ k) × (2 ^ 30 ≤ first) × (first < 2 ^ 31)
IsRight first k o.Unknown = Unit {0}

unknown_right : (first k : ℕ) → 24 ≤ k → IsRight first k (unknown_of first)
unknown_right first k big = by_tests (nat_lt first (2 ^ 30)) (nat_lt first (2 ^ 31)) refl refl
  where
    by_tests : (a b : Bool) → nat_lt first (2 ^ 30) ≡ a → nat_lt first (2 ^ 31) ≡ b → IsRight first k (if a then o.Unknown else (if b then o.SkipNext else o.SkipFalse))
    by_tests true b e f = tt
    by_tests false true e f = (big, (grind (arith, nat_tests, e)), (grind (arith, nat_tests, f)))
    by_tests false false e f = (big, (grind (arith, nat_tests, f)))

right_at : (first k : ℕ) → IsRight first k (opcode_at first k)
right_at first k =
    if_number (IsRight first k) k 0 (omega arith) (λ e. e) (λ (b1 : 1 ≤ k).
    if_number (IsRight first k) k 1 b1 (λ e. e) (λ (b2 : 2 ≤ k).
    if_number (IsRight first k) k 2 b2 (λ e. e) (λ (b3 : 3 ≤ k).
    if_number (IsRight first k) k 3 b3 (λ e. e) (λ (b4 : 4 ≤ k).
    if_number (IsRight first k) k 4 b4 (λ e. e) (λ (b5 : 5 ≤ k).
    if_number (IsRight first k) k 5 b5 (λ e. e) (λ (b6 : 6 ≤ k).
    if_number (IsRight first k) k 6 b6 (λ e. e) (λ (b7 : 7 ≤ k).
    if_number (IsRight first k) k 7 b7 (λ e. e) (λ (b8 : 8 ≤ k).
    if_number (IsRight first k) k 8 b8 (λ e. e) (λ (b9 : 9 ≤ k).
    if_number (IsRight first k) k 9 b9 (λ e. e) (λ (b10 : 10 ≤ k).
    if_number (IsRight first k) k 10 b10 (λ e. e) (λ (b11 : 11 ≤ k).
    if_number (IsRight first k) k 11 b11 (λ e. e) (λ (b12 : 12 ≤ k).
    if_number (IsRight first k) k 12 b12 (λ e. e) (λ (b13 : 13 ≤ k).
    if_number (IsRight first k) k 13 b13 (λ e. e) (λ (b14 : 14 ≤ k).
    if_number (IsRight first k) k 14 b14 (λ e. e) (λ (b15 : 15 ≤ k).
    if_number (IsRight first k) k 15 b15 (λ e. e) (λ (b16 : 16 ≤ k).
    if_number (IsRight first k) k 16 b16 (λ e. e) (λ (b17 : 17 ≤ k).
    if_number (IsRight first k) k 17 b17 (λ e. e) (λ (b18 : 18 ≤ k).
    if_number (IsRight first k) k 18 b18 (λ e. e) (λ (b19 : 19 ≤ k).
    if_number (IsRight first k) k 19 b19 (λ e. e) (λ (b20 : 20 ≤ k).
    if_number (IsRight first k) k 20 b20 (λ e. e) (λ (b21 : 21 ≤ k).
    if_number (IsRight first k) k 21 b21 (λ e. e) (λ (b22 : 22 ≤ k).
    if_number (IsRight first k) k 22 b22 (λ e. tt) (λ (b23 : 23 ≤ k).
    if_number (IsRight first k) k 23 b23 (λ e. e) (λ (b24 : 24 ≤ k).
    unknown_right first k b24))))))))))))))))))))))))

pub opcode_right : (first : ℕ) → IsRight first (first % 2 ^ 24) (opcode_of first)
unfolding opcode_of
opcode_right first = right_at first (first % 2 ^ 24)

unknown_at : (first k : ℕ) → 24 ≤ k → opcode_at first k ≡ unknown_of first
unknown_at first k big =
    if_number (λ op. op ≡ unknown_of first) k 0 (omega arith) (λ e. absurd (omega (arith, e, big))) (λ (b1 : 1 ≤ k).
    if_number (λ op. op ≡ unknown_of first) k 1 b1 (λ e. absurd (omega (arith, e, big))) (λ (b2 : 2 ≤ k).
    if_number (λ op. op ≡ unknown_of first) k 2 b2 (λ e. absurd (omega (arith, e, big))) (λ (b3 : 3 ≤ k).
    if_number (λ op. op ≡ unknown_of first) k 3 b3 (λ e. absurd (omega (arith, e, big))) (λ (b4 : 4 ≤ k).
    if_number (λ op. op ≡ unknown_of first) k 4 b4 (λ e. absurd (omega (arith, e, big))) (λ (b5 : 5 ≤ k).
    if_number (λ op. op ≡ unknown_of first) k 5 b5 (λ e. absurd (omega (arith, e, big))) (λ (b6 : 6 ≤ k).
    if_number (λ op. op ≡ unknown_of first) k 6 b6 (λ e. absurd (omega (arith, e, big))) (λ (b7 : 7 ≤ k).
    if_number (λ op. op ≡ unknown_of first) k 7 b7 (λ e. absurd (omega (arith, e, big))) (λ (b8 : 8 ≤ k).
    if_number (λ op. op ≡ unknown_of first) k 8 b8 (λ e. absurd (omega (arith, e, big))) (λ (b9 : 9 ≤ k).
    if_number (λ op. op ≡ unknown_of first) k 9 b9 (λ e. absurd (omega (arith, e, big))) (λ (b10 : 10 ≤ k).
    if_number (λ op. op ≡ unknown_of first) k 10 b10 (λ e. absurd (omega (arith, e, big))) (λ (b11 : 11 ≤ k).
    if_number (λ op. op ≡ unknown_of first) k 11 b11 (λ e. absurd (omega (arith, e, big))) (λ (b12 : 12 ≤ k).
    if_number (λ op. op ≡ unknown_of first) k 12 b12 (λ e. absurd (omega (arith, e, big))) (λ (b13 : 13 ≤ k).
    if_number (λ op. op ≡ unknown_of first) k 13 b13 (λ e. absurd (omega (arith, e, big))) (λ (b14 : 14 ≤ k).
    if_number (λ op. op ≡ unknown_of first) k 14 b14 (λ e. absurd (omega (arith, e, big))) (λ (b15 : 15 ≤ k).
    if_number (λ op. op ≡ unknown_of first) k 15 b15 (λ e. absurd (omega (arith, e, big))) (λ (b16 : 16 ≤ k).
    if_number (λ op. op ≡ unknown_of first) k 16 b16 (λ e. absurd (omega (arith, e, big))) (λ (b17 : 17 ≤ k).
    if_number (λ op. op ≡ unknown_of first) k 17 b17 (λ e. absurd (omega (arith, e, big))) (λ (b18 : 18 ≤ k).
    if_number (λ op. op ≡ unknown_of first) k 18 b18 (λ e. absurd (omega (arith, e, big))) (λ (b19 : 19 ≤ k).
    if_number (λ op. op ≡ unknown_of first) k 19 b19 (λ e. absurd (omega (arith, e, big))) (λ (b20 : 20 ≤ k).
    if_number (λ op. op ≡ unknown_of first) k 20 b20 (λ e. absurd (omega (arith, e, big))) (λ (b21 : 21 ≤ k).
    if_number (λ op. op ≡ unknown_of first) k 21 b21 (λ e. absurd (omega (arith, e, big))) (λ (b22 : 22 ≤ k).
    if_number (λ op. op ≡ unknown_of first) k 22 b22 (λ e. absurd (omega (arith, e, big))) (λ (b23 : 23 ≤ k).
    if_number (λ op. op ≡ unknown_of first) k 23 b23 (λ e. absurd (omega (arith, e, big))) (λ (b24 : 24 ≤ k).
    refl))))))))))))))))))))))))

pub opcode_of-unknown : (first : ℕ) → 24 ≤ first % 2 ^ 24 → opcode_of first ≡ unknown_of first
unfolding opcode_of
opcode_of-unknown first big = unknown_at first (first % 2 ^ 24) big

pub opcode_of-leaf : (leaf : Leaf) (first : ℕ) → first % 2 ^ 24 ≡ leaf_number leaf → opcode_of first ≡ o.Leaf leaf
unfolding opcode_of
opcode_of-leaf l.Never first h = ap (opcode_at first) h
opcode_of-leaf l.Always first h = ap (opcode_at first) h
opcode_of-leaf l.Ident first h = ap (opcode_at first) h
opcode_of-leaf l.AppleAnchor first h = ap (opcode_at first) h
opcode_of-leaf l.AnchorHash first h = ap (opcode_at first) h
opcode_of-leaf l.LegacyInfo first h = ap (opcode_at first) h
opcode_of-leaf l.CdHash first h = ap (opcode_at first) h
opcode_of-leaf l.InfoField first h = ap (opcode_at first) h
opcode_of-leaf l.CertField first h = ap (opcode_at first) h
opcode_of-leaf l.TrustedCert first h = ap (opcode_at first) h
opcode_of-leaf l.TrustedAny first h = ap (opcode_at first) h
opcode_of-leaf l.CertOid first h = ap (opcode_at first) h
opcode_of-leaf l.AppleGeneric first h = ap (opcode_at first) h
opcode_of-leaf l.EntitlementField first h = ap (opcode_at first) h
opcode_of-leaf l.CertPolicy first h = ap (opcode_at first) h
opcode_of-leaf l.NamedAnchor first h = ap (opcode_at first) h
opcode_of-leaf l.NamedCode first h = ap (opcode_at first) h
opcode_of-leaf l.Platform first h = ap (opcode_at first) h
opcode_of-leaf l.Notarized first h = ap (opcode_at first) h
opcode_of-leaf l.LegacyDevId first h = ap (opcode_at first) h

pub opcode_of-both : (first : ℕ) → first % 2 ^ 24 ≡ 6 → opcode_of first ≡ o.Both
unfolding opcode_of
opcode_of-both first h = ap (opcode_at first) h

pub opcode_of-either : (first : ℕ) → first % 2 ^ 24 ≡ 7 → opcode_of first ≡ o.Either
unfolding opcode_of
opcode_of-either first h = ap (opcode_at first) h

pub opcode_of-negate : (first : ℕ) → first % 2 ^ 24 ≡ 9 → opcode_of first ≡ o.Negate
unfolding opcode_of
opcode_of-negate first h = ap (opcode_at first) h

pub skip_false_of : (first : ℕ) → 24 ≤ first % 2 ^ 24 → 2 ^ 31 ≤ first → opcode_of first ≡ o.SkipFalse
skip_false_of first big high = opcode_of-unknown first big ∙ by_tests (nat_lt first (2 ^ 30)) (nat_lt first (2 ^ 31)) refl refl
  where
    by_tests : (a b : Bool) → nat_lt first (2 ^ 30) ≡ a → nat_lt first (2 ^ 31) ≡ b → (if a then o.Unknown else (if b then o.SkipNext else o.SkipFalse)) ≡ o.SkipFalse
    by_tests true b e f = absurd (grind (arith, nat_tests, e, high))
    by_tests false true e f = absurd (grind (arith, nat_tests, f, high))
    by_tests false false e f = refl

pub skip_next_of : (first : ℕ) → 24 ≤ first % 2 ^ 24 → 2 ^ 30 ≤ first → first < 2 ^ 31 → opcode_of first ≡ o.SkipNext
skip_next_of first big high low = opcode_of-unknown first big ∙ by_tests (nat_lt first (2 ^ 30)) (nat_lt first (2 ^ 31)) refl refl
  where
    by_tests : (a b : Bool) → nat_lt first (2 ^ 30) ≡ a → nat_lt first (2 ^ 31) ≡ b → (if a then o.Unknown else (if b then o.SkipNext else o.SkipFalse)) ≡ o.SkipNext
    by_tests true b e f = absurd (grind (arith, nat_tests, e, high))
    by_tests false true e f = refl
    by_tests false false e f = absurd (grind (arith, nat_tests, f, low))
