-- The places of a part are just the digits that stand for it.
use Rattle.std.proofs.Common.{◌≡◌, ◌≢◌, ℕ, zero, suc, ◌+◌, ◌*◌, ◌-◌, ◌/◌, ◌%◌, ◌^◌, ◌<◌, ◌≤◌, ◌==◌, Bool, true, false, List, [], ◌∷◌, ◌++◌, length, All, refl, sym, ap, subst, ◌∙◌, arith}
use Rattle.std.proofs.lemmas.Bool.Decides.{nat_tests}
use Rattle.std.proofs.lemmas.Nat.{div-mul-add, mod-mul-add, div-add-mod', div_below, mod_below, pow-add}
use Rattle.std.proofs.lemmas.List.Elements.{All-nil, All-cons, All-head, All-tail}
use Rattle.std.proofs.Math.Nat.{pow-suc}
use Rattle.std.specs.List.{fold}
use Rattle.req_tree.specs.NumericOrder.{number_of}
use Rattle.policy_model.specs.Texts.{places}
use Rattle.policy_model.specs.Laws.{IsFraction}

abbrev value_from : ℕ → List ℕ → ℕ
value_from n digits = fold (λ k b. 10 * k + (b - 48)) n digits

spread : (n e p v : ℕ) → (10 * n + e) * p + v ≡ n * (p * 10) + ((10 * 0 + e) * p + v)
spread n e p v = omega arith

-- what digits are worth behind a number
from : (n : ℕ) (ds : List ℕ) → value_from n ds ≡ n * 10 ^ length ds + value_from 0 ds
from n [] = omega arith
from n (d ∷ ds) =
    from (10 * n + (d - 48)) ds
    ∙ spread n (d - 48) (10 ^ length ds) (value_from 0 ds)
    ∙ ap (λ x. n * x + ((10 * 0 + (d - 48)) * 10 ^ length ds + value_from 0 ds)) (sym (pow-suc 10 (length ds)))
    ∙ ap (λ x. n * 10 ^ suc (length ds) + x) (sym (from (10 * 0 + (d - 48)) ds))

-- the first digit, and the others
number_first : (d : ℕ) (ds : List ℕ) → number_of (d ∷ ds) ≡ (d - 48) * 10 ^ length ds + number_of ds
number_first d ds = from (10 * 0 + (d - 48)) ds ∙ plain (d - 48) (10 ^ length ds) (value_from 0 ds)
  where
    plain : (e p v : ℕ) → (10 * 0 + e) * p + v ≡ e * p + v
    plain e p v = omega arith

abbrev Digit : ℕ → Type 0
Digit d = (48 ≤ d) × (d ≤ 57)

-- the same for any number of places
record Stands (count part : ℕ) (digits : List ℕ) : Type 0 where
  each : All Digit digits
  most : length digits ≤ count
  value : number_of digits * 10 ^ (count - length digits) ≡ part
  shortest : (front : List ℕ) → digits ≢ front ++ 48 ∷ []

some_power : (n : ℕ) → 1 ≤ 10 ^ n
some_power zero = omega arith
some_power (suc n) = omega (arith, pow-suc 10 n, some_power n)

below_ten : (a b p v : ℕ) → a + b ≡ 9 → v < p → a * p + v < p * 10
below_ten a b p v e h = omega (arith, ap (λ x. x * p) e, h)

-- so many digits write less than that power of ten
number_below : (ds : List ℕ) → All Digit ds → number_of ds < 10 ^ length ds
number_below [] h = omega arith
number_below (d ∷ ds) h =
    let digit : Digit d = All-head Digit d ds h in
    let rest : number_of ds < 10 ^ length ds = number_below ds (All-tail Digit d ds h) in
    let nine : (d - 48) + (57 - d) ≡ 9 = omega (arith, digit.0, digit.1) in
    let small : (d - 48) * 10 ^ length ds + number_of ds < 10 ^ length ds * 10 = below_ten (d - 48) (57 - d) (10 ^ length ds) (number_of ds) nine rest in
    subst (λ x. x < 10 ^ suc (length ds)) (sym (number_first d ds)) (subst (λ x. (d - 48) * 10 ^ length ds + number_of ds < x) (sym (pow-suc 10 (length ds))) small)

not_empty : (front : List ℕ) → [] ≢ front ++ 48 ∷ []
not_empty [] e = cc
not_empty (f ∷ front) e = cc

nothing : (n : ℕ) → Stands n 0 []
nothing n = record { each = All-nil Digit; most = omega arith; value = omega arith; shortest = not_empty }

-- no zero is last behind a first digit
not_last : (n part q d : ℕ) (ds : List ℕ) → 0 < part → d ≡ 48 + q → Stands n (part - q * 10 ^ n) ds → (front : List ℕ) → d ∷ ds ≢ front ++ 48 ∷ []
not_last n part q d ds some first h [] e =
    let head : d ≡ 48 = cc in
    let tail : ds ≡ [] = cc in
    let none : q ≡ 0 = omega (arith, head, first) in
    let worth : number_of ds * 10 ^ (n - length ds) ≡ part - q * 10 ^ n = h.value in
    let empty : number_of ds ≡ 0 = ap number_of tail in
    let a : number_of ds * 10 ^ (n - length ds) ≡ 0 * 10 ^ (n - length ds) = ap (λ x. x * 10 ^ (n - length ds)) empty in
    let b : q * 10 ^ n ≡ 0 * 10 ^ n = ap (λ x. x * 10 ^ n) none in
    absurd (omega (arith, some, worth, a, b))
not_last n part q d ds some first h (f ∷ front) e =
    let tail : ds ≡ front ++ 48 ∷ [] = cc in
    h.shortest front tail

-- a first digit more
more : (n part q r : ℕ) (ds : List ℕ) → 0 < part → q ≤ 9 → q * 10 ^ n + r ≡ part → Stands n r ds → Stands (suc n) part ((48 + q) ∷ ds)
more n part q r ds some small whole h =
    let room : length ds + (n - length ds) ≡ n = omega (arith, h.most) in
    let left : suc n - suc (length ds) ≡ n - length ds = omega arith in
    let power : 10 ^ n ≡ 10 ^ length ds * 10 ^ (n - length ds) = ap (λ k. 10 ^ k) (sym room) ∙ pow-add 10 (length ds) (n - length ds) in
    let first : number_of ((48 + q) ∷ ds) ≡ (48 + q - 48) * 10 ^ length ds + number_of ds = number_first (48 + q) ds in
    let digit : 48 + q - 48 ≡ q = omega arith in
    let scaled : (48 + q - 48) * 10 ^ length ds ≡ q * 10 ^ length ds = ap (λ x. x * 10 ^ length ds) digit in
    let plain : number_of ((48 + q) ∷ ds) ≡ q * 10 ^ length ds + number_of ds = omega (arith, first, scaled) in
    let large : q * 10 ^ n ≡ q * (10 ^ length ds * 10 ^ (n - length ds)) = ap (λ x. q * x) power in
    let over : number_of ((48 + q) ∷ ds) * 10 ^ (n - length ds) ≡ (q * 10 ^ length ds + number_of ds) * 10 ^ (n - length ds) = ap (λ x. x * 10 ^ (n - length ds)) plain in
    let rest : part - q * 10 ^ n ≡ r = omega (arith, whole) in
    record {
      each = All-cons Digit (48 + q) ds (omega arith, omega (arith, small)) h.each;
      most = omega (arith, h.most);
      value = ap (λ k. number_of ((48 + q) ∷ ds) * 10 ^ k) left ∙ omega (arith, over, large, h.value, whole);
      shortest = not_last n part q (48 + q) ds some refl (subst (λ x. Stands n x ds) (sym rest) h);
    }

nothing_left : (count part : ℕ) → part ≡ 0 → places count part ≡ []
unfolding places
nothing_left zero part e = refl
nothing_left (suc n) part e = grind (arith, nat_tests, e)

one_place : (n part : ℕ) → 0 < part → places (suc n) part ≡ (48 + part / 10 ^ n) ∷ places n (part % 10 ^ n)
unfolding places
one_place n part some = grind (arith, nat_tests, some)

-- the places of a part stand for it
stand : (n part : ℕ) → part < 10 ^ n → Stands n part (places n part)
stand zero part h =
    let none : part ≡ 0 = omega (arith, h) in
    subst (λ x. Stands 0 part x) (sym (nothing_left 0 part none)) (subst (λ x. Stands 0 x []) (sym none) (nothing 0))
stand (suc n) part h = by_cases (part == 0) refl (λ r below. stand n r below)
  where
    by_cases : (b : Bool) → (part == 0) ≡ b → ((r : ℕ) → r < 10 ^ n → Stands n r (places n r)) → Stands (suc n) part (places (suc n) part)
    by_cases true t lower =
        let none : part ≡ 0 = grind (arith, nat_tests, t) in
        subst (λ x. Stands (suc n) part x) (sym (nothing_left (suc n) part none)) (subst (λ x. Stands (suc n) x []) (sym none) (nothing (suc n)))
    by_cases false t lower =
        let some : 0 < part = grind (arith, nat_tests, t) in
        let pos : 0 < 10 ^ n = omega (arith, some_power n) in
        let turned : part < 10 * 10 ^ n = omega (arith, h, pow-suc 10 n) in
        let small : part / 10 ^ n < 10 = div_below part (10 ^ n) 10 pos turned in
        let below : part % 10 ^ n < 10 ^ n = mod_below part (10 ^ n) pos in
        subst (λ x. Stands (suc n) part x) (sym (one_place n part some))
        (more n part (part / 10 ^ n) (part % 10 ^ n) (places n (part % 10 ^ n)) some (omega (arith, small)) (div-add-mod' part (10 ^ n)) (lower (part % 10 ^ n) below))

scaled_below : (m p w : ℕ) → m < p → 0 < w → m * w < p * w
scaled_below m p w h k =
    let gap : m + 1 + (p - (m + 1)) ≡ p = omega (arith, h) in
    omega (arith, ap (λ x. x * w) gap, k)

-- no other digits do
only : (n part : ℕ) (digits : List ℕ) → Stands n part digits → digits ≡ places n part
only n part [] h =
    let none : part ≡ 0 = omega (arith, h.value) in
    sym (nothing_left n part none)
only zero part (d ∷ ds) h = absurd (omega (arith, h.most))
only (suc n) part (d ∷ ds) h = by_cases (part == 0) refl (λ r rest. only n r ds rest)
  where
    split_value : (q p v w : ℕ) → (q * p + v) * w ≡ q * (p * w) + v * w
    split_value q p v w = omega arith

    most : length ds ≤ n
    most = omega (arith, h.most)

    left : suc n - suc (length ds) ≡ n - length ds
    left = omega arith

    power : 10 ^ length ds * 10 ^ (n - length ds) ≡ 10 ^ n
    power = sym (pow-add 10 (length ds) (n - length ds)) ∙ ap (λ k. 10 ^ k) (omega (arith, most))

    whole : (d - 48) * 10 ^ n + number_of ds * 10 ^ (n - length ds) ≡ part
    whole =
        ap (λ x. (d - 48) * x + number_of ds * 10 ^ (n - length ds)) (sym power)
        ∙ sym (split_value (d - 48) (10 ^ length ds) (number_of ds) (10 ^ (n - length ds)))
        ∙ ap (λ x. x * 10 ^ (n - length ds)) (sym (number_first d ds))
        ∙ ap (λ k. number_of (d ∷ ds) * 10 ^ k) (sym left)
        ∙ h.value

    digit : Digit d
    digit = All-head Digit d ds h.each

    below : number_of ds * 10 ^ (n - length ds) < 10 ^ n
    below = subst (λ x. number_of ds * 10 ^ (n - length ds) < x) power
        (scaled_below (number_of ds) (10 ^ length ds) (10 ^ (n - length ds)) (number_below ds (All-tail Digit d ds h.each)) (omega (arith, some_power (n - length ds))))

    others : Stands n (number_of ds * 10 ^ (n - length ds)) ds
    others = record { each = All-tail Digit d ds h.each; most = most; value = refl; shortest = λ front e. h.shortest (d ∷ front) (ap (λ l. d ∷ l) e) }

    by_cases : (b : Bool) → (part == 0) ≡ b → ((r : ℕ) → Stands n r ds → ds ≡ places n r) → d ∷ ds ≡ places (suc n) part
    by_cases true t lower =
        let none : part ≡ 0 = grind (arith, nat_tests, t) in
        let empty : number_of ds * 10 ^ (n - length ds) ≡ 0 = omega (arith, whole, none) in
        let no_more : ds ≡ [] = lower _ others ∙ nothing_left n _ empty in
        let scale : (10 ^ n - 1) + 1 ≡ 10 ^ n = omega (arith, some_power n) in
        let zero' : d - 48 ≡ 0 = at_least (d - 48) (10 ^ n - 1) (ap (λ x. (d - 48) * x) scale ∙ omega (arith, whole, none, empty)) in
        let head : d ≡ 48 = omega (arith, digit.0, zero') in
        absurd (h.shortest [] (ap (λ x. x ∷ ds) head ∙ ap (λ l. 48 ∷ l) no_more))
      where
        at_least : (q k : ℕ) → q * (k + 1) ≡ 0 → q ≡ 0
        at_least q k e = omega (arith, e)
    by_cases false t lower =
        let some : 0 < part = grind (arith, nat_tests, t) in
        let first : part / 10 ^ n ≡ d - 48 = ap (λ x. x / 10 ^ n) (sym whole) ∙ div-mul-add (d - 48) (10 ^ n) _ below in
        let behind : part % 10 ^ n ≡ number_of ds * 10 ^ (n - length ds) = ap (λ x. x % 10 ^ n) (sym whole) ∙ mod-mul-add (d - 48) (10 ^ n) _ below in
        let head : d ≡ 48 + part / 10 ^ n = omega (arith, first, digit.0) in
        ap (λ x. x ∷ ds) head ∙ ap (λ l. (48 + part / 10 ^ n) ∷ l) (lower _ others ∙ ap (λ x. places n x) (sym behind)) ∙ sym (one_place n part some)

pub fraction_stands : (part : ℕ) → part < 1000000 → IsFraction part (places 6 part)
fraction_stands part h =
    let s = stand 6 part h in
    record { each = s.each; most = s.most; value = s.value; shortest = s.shortest }

pub fraction_only : (part : ℕ) (digits : List ℕ) → IsFraction part digits → digits ≡ places 6 part
fraction_only part digits f = only 6 part digits (record { each = f.each; most = f.most; value = f.value; shortest = f.shortest })
