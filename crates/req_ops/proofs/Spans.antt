-- Spans of bytes that lie apart between two places have room there together.
use Rattle.std.proofs.Common.{◌≡◌, ℕ, zero, suc, ◌+◌, ◌-◌, ◌≤◌, Bool, true, false, leb, List, [], ◌∷◌, length, map, refl, ap, arith, ◌⊎◌, inl, inr}
use Rattle.std.proofs.lemmas.Bool.Decides.{nat_tests}

-- a place, and how many bytes from there on
abbrev pub Span : Type 0
Span = ℕ × ℕ

abbrev pub total : List Span → ℕ
total [] = 0
total (x ∷ xs) = x.1 + total xs

-- one ends before the other begins
abbrev pub Apart : Span → Span → Type 0
Apart x y = (x.0 + x.1 ≤ y.0) ⊎ (y.0 + y.1 ≤ x.0)

abbrev pub Inside : ℕ → ℕ → List Span → Type 0
Inside low high [] = Unit {0}
Inside low high (x ∷ xs) = (low ≤ x.0) × (x.0 + x.1 ≤ high) × Inside low high xs

abbrev pub ApartFrom : Span → List Span → Type 0
ApartFrom x [] = Unit {0}
ApartFrom x (y ∷ ys) = Apart x y × ApartFrom x ys

abbrev pub AllApart : List Span → Type 0
AllApart [] = Unit {0}
AllApart (x ∷ xs) = ApartFrom x xs × AllApart xs

-- where a span lies once another is cut out
abbrev moved : Bool → ℕ → Span → Span
moved true size y = (y.0 - size, y.1)
moved false size y = y

abbrev without : Span → Span → Span
without x y = moved (leb (x.0 + x.1) y.0) x.1 y

-- which side of a span another lies on
abbrev Lies : Span → Span → Bool → Type 0
Lies x y true = x.0 + x.1 ≤ y.0
Lies x y false = y.0 + y.1 ≤ x.0

lies : (x y : Span) (b : Bool) → leb (x.0 + x.1) y.0 ≡ b → Apart x y → Lies x y b
lies x y true e h = grind (arith, nat_tests, e)
lies x y false e (inl h) = absurd (grind (arith, nat_tests, e, h))
lies x y false e (inr h) = h

moved_size : (b : Bool) (size : ℕ) (y : Span) → (moved b size y).1 ≡ y.1
moved_size true size y = refl
moved_size false size y = refl

moved_inside : (x y : Span) (b : Bool) (low high : ℕ) → Lies x y b → low ≤ x.0 → x.0 + x.1 ≤ high → low ≤ y.0 → y.0 + y.1 ≤ high
    → (low ≤ (moved b x.1 y).0) × ((moved b x.1 y).0 + (moved b x.1 y).1 ≤ high - x.1)
moved_inside x y true low high h p q r s = (omega (arith, h, p, q, r, s), omega (arith, h, p, q, r, s))
moved_inside x y false low high h p q r s = (r, omega (arith, h, p, q, r, s))

moved_apart : (x y z : Span) (b c : Bool) → Lies x y b → Lies x z c → Apart y z → Apart (moved b x.1 y) (moved c x.1 z)
moved_apart x y z true true h g (inl p) = inl (omega (arith, h, g, p))
moved_apart x y z true true h g (inr p) = inr (omega (arith, h, g, p))
moved_apart x y z true false h g p = inr (omega (arith, h, g))
moved_apart x y z false true h g p = inl (omega (arith, h, g))
moved_apart x y z false false h g p = p

-- ---- lists

same_total : (x : Span) (ys : List Span) → total (map (without x) ys) ≡ total ys
same_total x [] = refl
same_total x (y ∷ ys) = omega (arith, moved_size (leb (x.0 + x.1) y.0) x.1 y, same_total x ys)

same_count : (x : Span) (ys : List Span) → length (map (without x) ys) ≡ length ys
same_count x [] = refl
same_count x (y ∷ ys) = ap suc (same_count x ys)

all_inside : (x : Span) (ys : List Span) (low high : ℕ) → ApartFrom x ys → low ≤ x.0 → x.0 + x.1 ≤ high → Inside low high ys → Inside low (high - x.1) (map (without x) ys)
all_inside x [] low high apart p q h = tt
all_inside x (y ∷ ys) low high apart p q h =
    let here = moved_inside x y (leb (x.0 + x.1) y.0) low high (lies x y (leb (x.0 + x.1) y.0) refl apart.0) p q h.0 h.1 in
    (here.0, here.1, all_inside x ys low high apart.1 p q h.2)

still_apart_from : (x y : Span) (zs : List Span) → Apart x y → ApartFrom x zs → ApartFrom y zs → ApartFrom (without x y) (map (without x) zs)
still_apart_from x y [] p q h = tt
still_apart_from x y (z ∷ zs) p q h = (
  moved_apart x y z (leb (x.0 + x.1) y.0) (leb (x.0 + x.1) z.0) (lies x y (leb (x.0 + x.1) y.0) refl p) (lies x z (leb (x.0 + x.1) z.0) refl q.0) h.0,
  still_apart_from x y zs p q.1 h.1,
)

still_apart : (x : Span) (ys : List Span) → ApartFrom x ys → AllApart ys → AllApart (map (without x) ys)
still_apart x [] p h = tt
still_apart x (y ∷ ys) p h = (still_apart_from x y ys p.0 p.1 h.0, still_apart x ys p.1 h.1)

room_for : (count : ℕ) (xs : List Span) (low high : ℕ) → length xs ≤ count → low ≤ high → Inside low high xs → AllApart xs → low + total xs ≤ high
room_for count [] low high fits le inside apart = omega (arith, le)
room_for zero (x ∷ xs) low high fits le inside apart = absurd (omega (arith, fits))
room_for (suc count) (x ∷ xs) low high fits le inside apart =
    let rest = room_for count (map (without x) xs) low (high - x.1) (omega (arith, fits, same_count x xs)) (omega (arith, inside.0, inside.1)) (all_inside x xs low high apart.0 inside.0 inside.1 inside.2) (still_apart x xs apart.0 apart.1) in
    omega (arith, rest, same_total x xs, inside.0, inside.1)

-- spans that lie apart between two places have room there together
pub have_room : (xs : List Span) (low high : ℕ) → low ≤ high → Inside low high xs → AllApart xs → low + total xs ≤ high
have_room xs low high le inside apart = room_for (length xs) xs low high (omega arith) le inside apart
