-- Numbers in base 128: the reading takes just what is written, and a number is written in one way.
use Rattle.std.proofs.Common.{IsTrue, ◌≡◌, ◌≢◌, ℕ, suc, ◌+◌, ◌*◌, ◌-◌, ◌/◌, ◌%◌, ◌^◌, ◌<◌, ◌≤◌, Bool, true, false, ◌==◌, nat_lt, if◌then◌else◌, List, [], ◌∷◌, ◌++◌, length, All, Option, None, Some, refl, sym, ap, subst, ◌∙◌, append_assoc, arith, slice_index, min}
use Rattle.std.proofs.lemmas.Bool.Decides.{nat_tests}
use Rattle.std.specs.List.{fold}
use Rattle.std.proofs.lemmas.List.Elements.{All-nil, All-cons, All-head, All-tail}
use Rattle.req_tree.specs.Oid.{WritesNumber, WriteNumbers, IsOid, IsOidBytes}
use Rattle.req_tree.specs.Steps.{HasNumbers}
use Rattle.req_tree.specs.OidReading.{septets_from, septets_at}
pub use Rattle.req_tree.specs.Oid.{IsBytes}

-- the number after a part of it
abbrev pub base_from : ℕ → List ℕ → ℕ
base_from part bytes = fold (λ n b. 128 * n + b % 128) part bytes

-- a byte with the high bit
abbrev pub HighByte : ℕ → Type 0
HighByte b = (128 ≤ b) × (b < 256)

-- bytes with the high bit, head by head
abbrev pub IsHigh : List ℕ → Type 0
IsHigh [] = Unit {0}
IsHigh (b ∷ rest) = HighByte b × IsHigh rest

high_of : (xs : List ℕ) → All HighByte xs → IsHigh xs
high_of [] h = tt
high_of (x ∷ xs) h = (All-head HighByte x xs h, high_of xs (All-tail HighByte x xs h))

all_of : (xs : List ℕ) → IsHigh xs → All HighByte xs
all_of [] h = All-nil HighByte
all_of (x ∷ xs) h = All-cons HighByte x xs h.0 (all_of xs h.1)

base_from-last : (part : ℕ) (xs : List ℕ) (b : ℕ) → base_from part (xs ++ b ∷ []) ≡ 128 * base_from part xs + b % 128
base_from-last part [] b = refl
base_from-last part (x ∷ xs) b = base_from-last (128 * part + x % 128) xs b

base_from-le : (part : ℕ) (xs : List ℕ) → part ≤ base_from part xs
base_from-le part [] = omega arith
base_from-le part (x ∷ xs) = omega (arith, base_from-le (128 * part + x % 128) xs)

both_true : {A : Type 0} (b c : Bool) (x y z : A) → b ≡ true → c ≡ true → (if b then (if c then x else y) else z) ≡ x
both_true true true x y z h k = refl
both_true true false x y z h k = cc
both_true false c x y z h k = cc

then_else : {A : Type 0} (b c : Bool) (x y z : A) → b ≡ true → c ≡ false → (if b then (if c then x else y) else z) ≡ y
then_else true false x y z h k = refl
then_else true true x y z h k = cc
then_else false c x y z h k = cc

-- what stands at the front is read, whatever follows
septets_from-reads : (front : List ℕ) (part last : ℕ) (rest : List ℕ) → IsHigh front → last < 128 → base_from part (front ++ last ∷ []) < 2 ^ 32
    → septets_from part (front ++ last ∷ rest) ≡ Some (base_from part (front ++ last ∷ []), rest)
septets_from-reads [] part last rest high end small =
    let fits : nat_lt (128 * part + last % 128) (2 ^ 32) ≡ true = grind (arith, nat_tests) in
    let ends : nat_lt last 128 ≡ true = grind (arith, nat_tests) in
    both_true _ _ _ _ _ fits ends
septets_from-reads (b ∷ front) part last rest high end small =
    let more : 128 * part + b % 128 ≤ base_from (128 * part + b % 128) (front ++ last ∷ []) = base_from-le (128 * part + b % 128) (front ++ last ∷ []) in
    let fits : nat_lt (128 * part + b % 128) (2 ^ 32) ≡ true = grind (arith, nat_tests, more, small) in
    let b_high : 128 ≤ b = high.0.0 in
    let goes_on : nat_lt b 128 ≡ false = grind (arith, nat_tests, b_high) in
    then_else _ _ _ _ _ fits goes_on ∙ septets_from-reads front (128 * part + b % 128) last rest high.1 end small

number_in : Option (ℕ × List ℕ) → ℕ
number_in None = 0
number_in (Some p) = p.0

rest_in : Option (ℕ × List ℕ) → List ℕ
rest_in None = []
rest_in (Some p) = p.1

same_number : (m n : ℕ) (a b : List ℕ) → ◌≡◌ {A = Option (ℕ × List ℕ)} (Some (m, a)) (Some (n, b)) → m ≡ n
unfolding number_in
same_number m n a b h = ap number_in h

same_rest : (m n : ℕ) (a b : List ℕ) → ◌≡◌ {A = Option (ℕ × List ℕ)} (Some (m, a)) (Some (n, b)) → a ≡ b
unfolding rest_in
same_rest m n a b h = ap rest_in h

-- what a reading took
pub record Took (part n : ℕ) (bytes rest : List ℕ) : Type 0 where
  pub front : List ℕ
  pub last : ℕ
  pub parts : bytes ≡ front ++ last ∷ rest
  pub high : IsHigh front
  pub end : last < 128
  pub value : base_from part (front ++ last ∷ []) ≡ n
  pub small : n < 2 ^ 32

took_one : (part b n : ℕ) (after rest : List ℕ) → 128 * part + b % 128 < 2 ^ 32 → b < 128 → 128 * part + b % 128 ≡ n → after ≡ rest → Took part n (b ∷ after) rest
took_one part b n after rest fits end is same = record {
  front = [];
  last = b;
  parts = ap (λ r. b ∷ r) same;
  high = tt;
  end = end;
  value = is;
  small = omega arith;
}

took_more : (part b n : ℕ) (after rest : List ℕ) → HighByte b → Took (128 * part + b % 128) n after rest → Took part n (b ∷ after) rest
took_more part b n after rest high t = record {
  front = b ∷ t.front;
  last = t.last;
  parts = ap (λ r. b ∷ r) t.parts;
  high = (high, t.high);
  end = t.end;
  value = t.value;
  small = t.small;
}

-- a reading takes what is written
septets_from-took : (bytes : List ℕ) (part n : ℕ) (rest : List ℕ) → IsBytes bytes → septets_from part bytes ≡ Some (n, rest) → Took part n bytes rest
septets_from-took [] part n rest are h = cc
septets_from-took (b ∷ after) part n rest are h = by_tests (nat_lt (128 * part + b % 128) (2 ^ 32)) (nat_lt b 128) refl refl h (septets_from-took after (128 * part + b % 128) n rest (λ i. are (suc i)))
  where
    by_tests : (fits ends : Bool) → nat_lt (128 * part + b % 128) (2 ^ 32) ≡ fits → nat_lt b 128 ≡ ends
        → (if fits then (if ends then Some (128 * part + b % 128, after) else septets_from (128 * part + b % 128) after) else None) ≡ Some (n, rest)
        → (septets_from (128 * part + b % 128) after ≡ Some (n, rest) → Took (128 * part + b % 128) n after rest)
        → Took part n (b ∷ after) rest
    by_tests false ends f e g again = cc
    by_tests true true f e g again =
        let fits : 128 * part + b % 128 < 2 ^ 32 = grind (arith, nat_tests, f) in
        let ends : b < 128 = grind (arith, nat_tests, e) in
        took_one part b n after rest fits ends (same_number _ n after rest g) (same_rest (128 * part + b % 128) n after rest g)
    by_tests true false f e g again =
        let high : 128 ≤ b = grind (arith, nat_tests, e) in
        took_more part b n after rest (high, are 0) (again g)

-- the front of a number does not begin with 128, nor does the number
abbrev pub NoPad : List ℕ → Type 0
NoPad bytes = slice_index bytes 0 ≢ 128

if_false : {A : Type 0} (b : Bool) (x y : A) → b ≡ false → (if b then x else y) ≡ y
if_false false x y h = refl
if_false true x y h = cc

pub not_eq : (a b : ℕ) → a ≢ b → (a == b) ≡ false
not_eq a b h = grind (arith, nat_tests)

first-append : (front : List ℕ) (last : ℕ) (rest : List ℕ) → slice_index ((front ++ last ∷ []) ++ rest) 0 ≡ slice_index (front ++ last ∷ []) 0
first-append [] last rest = refl
first-append (x ∷ front) last rest = refl

-- a number that is written is read
pub septets_at-reads : (n : ℕ) (bytes rest : List ℕ) → WritesNumber n bytes → septets_at (bytes ++ rest) ≡ Some (n, rest)
septets_at-reads n bytes rest w =
    let begins : slice_index (bytes ++ rest) 0 ≡ slice_index bytes 0 = ap (λ bs. slice_index (bs ++ rest) 0) w.parts ∙ first-append w.front w.last rest ∙ ap (λ bs. slice_index bs 0) (sym w.parts) in
    let no_pad : slice_index (bytes ++ rest) 0 ≢ 128 = λ e. w.fewest (sym begins ∙ e) in
    let parts : bytes ++ rest ≡ w.front ++ w.last ∷ rest = ap (λ bs. bs ++ rest) w.parts ∙ append_assoc w.front (w.last ∷ []) rest in
    let value : base_from 0 (w.front ++ w.last ∷ []) ≡ n = ap (base_from 0) (sym w.parts) ∙ w.value in
    let small : base_from 0 (w.front ++ w.last ∷ []) < 2 ^ 32 = subst (λ (k : ℕ). k < 2 ^ 32) (sym value) w.small in
    if_false _ _ _ (not_eq _ _ no_pad)
    ∙ ap (septets_from 0) parts
    ∙ septets_from-reads w.front 0 w.last rest (high_of w.front w.more) w.end small
    ∙ ap (λ k. Some (k, rest)) value

is_written : (n : ℕ) (bytes rest : List ℕ) → NoPad bytes → (t : Took 0 n bytes rest) → WritesNumber n (t.front ++ t.last ∷ [])
is_written n bytes rest no_pad t = record {
  front = t.front;
  last = t.last;
  parts = refl;
  more = all_of t.front t.high;
  end = t.end;
  fewest = λ e. no_pad (ap (λ bs. slice_index bs 0) (t.parts ∙ sym (append_assoc t.front (t.last ∷ []) rest)) ∙ first-append t.front t.last rest ∙ e);
  value = t.value;
  small = t.small;
}

at_number : (b : Bool) (n : ℕ) (bytes rest : List ℕ) → (slice_index bytes 0 == 128) ≡ b → (if b then None else septets_from 0 bytes) ≡ Some (n, rest)
    → NoPad bytes × (septets_from 0 bytes ≡ Some (n, rest))
at_number true n bytes rest e h = cc
at_number false n bytes rest e h = (λ (k : slice_index bytes 0 ≡ 128). absurd (grind (arith, nat_tests, e, k)), h)

-- what is read at the front, before what is written behind it
pub numbers_before : (n : ℕ) (numbers bytes rest : List ℕ) → IsBytes bytes → septets_at bytes ≡ Some (n, rest) → WriteNumbers numbers rest → WriteNumbers (n ∷ numbers) bytes
numbers_before n numbers bytes rest are h w =
    let read = at_number (slice_index bytes 0 == 128) n bytes rest refl h in
    let t : Took 0 n bytes rest = septets_from-took bytes 0 n rest are read.1 in
    (t.front ++ t.last ∷ [], rest, t.parts ∙ sym (append_assoc t.front (t.last ∷ []) rest), is_written n bytes rest read.0 t, w)

-- what follows the first number is read
pub numbers_next : (numbers : List ℕ) (n : ℕ) (bytes rest : List ℕ) → WriteNumbers numbers bytes → septets_at bytes ≡ Some (n, rest)
    → (later : List ℕ) × (numbers ≡ n ∷ later) × WriteNumbers later rest
numbers_next [] n bytes rest w h =
    let none : septets_at bytes ≡ None = ap septets_at w in
    cc
numbers_next (m ∷ numbers) n bytes rest w h =
    let read : septets_at bytes ≡ Some (m, w.1) = ap septets_at w.2 ∙ septets_at-reads m w.0 w.1 w.3 in
    let same : m ≡ n = same_number m n w.1 rest (sym read ∙ h) in
    let behind : w.1 ≡ rest = same_rest m n w.1 rest (sym read ∙ h) in
    (numbers, ap (λ k. k ∷ numbers) same, subst (WriteNumbers numbers) behind w.4)

-- where nothing is read there are no numbers
pub numbers_end : (numbers bytes : List ℕ) → WriteNumbers numbers bytes → septets_at bytes ≡ None → (numbers ≡ []) × (bytes ≡ [])
numbers_end [] bytes w h = (refl, w)
numbers_end (m ∷ numbers) bytes w h =
    let read : septets_at bytes ≡ Some (m, w.1) = ap septets_at w.2 ∙ septets_at-reads m w.0 w.1 w.3 in
    cc

-- bytes are those of one list of numbers
pub same_numbers : (ns ms bytes : List ℕ) → WriteNumbers ns bytes → WriteNumbers ms bytes → ns ≡ ms
same_numbers [] ms bytes w v = sym (numbers_end ms bytes v (ap septets_at w)).0
same_numbers (n ∷ ns) ms bytes w v =
    let read : septets_at bytes ≡ Some (n, w.1) = ap septets_at w.2 ∙ septets_at-reads n w.0 w.1 w.3 in
    let next = numbers_next ms n bytes w.1 v read in
    ap (λ r. n ∷ r) (same_numbers ns next.0 w.1 w.4 next.2) ∙ sym next.1

-- a list by its end
data Ends : List ℕ → Type 0 where
  empty : (xs : List ℕ) → xs ≡ [] → Ends xs
  more : (xs ys : List ℕ) (y : ℕ) → Ends ys → xs ≡ ys ++ y ∷ [] → Ends xs

ends_after : (done rest whole : List ℕ) → Ends done → whole ≡ done ++ rest → Ends whole
ends_after done [] whole e h = ends_same done whole e (h ∙ append-nil done)
  where
    append-nil : (xs : List ℕ) → xs ++ [] ≡ xs
    append-nil [] = refl
    append-nil (x ∷ xs) = ap (λ r. x ∷ r) (append-nil xs)

    ends_same : (xs ys : List ℕ) → Ends xs → ys ≡ xs → Ends ys
    ends_same xs ys e h = subst Ends (sym h) e
ends_after done (x ∷ rest) whole e h =
    ends_after (done ++ x ∷ []) rest whole (more (done ++ x ∷ []) done x e refl) (h ∙ sym (append_assoc done (x ∷ []) rest))

ends_of : (xs : List ℕ) → Ends xs
ends_of xs = ends_after [] xs xs (empty [] refl) refl

first_of_front : (xs : List ℕ) (x : ℕ) → NoPad (xs ++ x ∷ []) → NoPad xs
first_of_front [] x h = λ e. absurd (omega (arith, e))
first_of_front (y ∷ xs) x h = h

IsHigh-last : (xs : List ℕ) (x : ℕ) → IsHigh (xs ++ x ∷ []) → IsHigh xs × HighByte x
IsHigh-last [] x h = (tt, h.0)
IsHigh-last (y ∷ xs) x h =
    let rest = IsHigh-last xs x h.1 in
    ((h.0, rest.0), rest.1)

not_zero : (xs : List ℕ) (x : ℕ) → IsHigh (xs ++ x ∷ []) → NoPad (xs ++ x ∷ []) → 0 < base_from 0 (xs ++ x ∷ [])
not_zero [] x h k =
    let low : 128 ≤ x = h.0.0 in
    let top : x < 256 = h.0.1 in
    let other : x ≢ 128 = k in
    omega arith
not_zero (y ∷ xs) x h k =
    let low : 128 ≤ y = h.0.0 in
    let top : y < 256 = h.0.1 in
    let other : y ≢ 128 = k in
    omega (arith, base_from-le (128 * 0 + y % 128) (xs ++ x ∷ []))

-- high bytes that do not begin with 128 are those of one number
same_front : (a b : List ℕ) → Ends a → Ends b → IsHigh a → IsHigh b → NoPad a → NoPad b → base_from 0 a ≡ base_from 0 b → a ≡ b
same_front a b (empty _ is) (empty _ is') ha hb pa pb e = is ∙ sym is'
same_front a b (empty _ is) (more _ ys y ends is') ha hb pa pb e =
    let some : 0 < base_from 0 (ys ++ y ∷ []) = not_zero ys y (subst IsHigh is' hb) (subst NoPad is' pb) in
    let zero_a : base_from 0 a ≡ 0 = ap (base_from 0) is in
    let same : base_from 0 b ≡ base_from 0 (ys ++ y ∷ []) = ap (base_from 0) is' in
    absurd (omega (arith, some, zero_a, same, e))
same_front a b (more _ xs x ends is) (empty _ is') ha hb pa pb e =
    let some : 0 < base_from 0 (xs ++ x ∷ []) = not_zero xs x (subst IsHigh is ha) (subst NoPad is pa) in
    let zero_b : base_from 0 b ≡ 0 = ap (base_from 0) is' in
    let same : base_from 0 a ≡ base_from 0 (xs ++ x ∷ []) = ap (base_from 0) is in
    absurd (omega (arith, some, zero_b, same, e))
same_front a b (more _ xs x ends is) (more _ ys y ends' is') ha hb pa pb e =
    let high_a = IsHigh-last xs x (subst IsHigh is ha) in
    let high_b = IsHigh-last ys y (subst IsHigh is' hb) in
    let value_a : base_from 0 a ≡ 128 * base_from 0 xs + x % 128 = ap (base_from 0) is ∙ base_from-last 0 xs x in
    let value_b : base_from 0 b ≡ 128 * base_from 0 ys + y % 128 = ap (base_from 0) is' ∙ base_from-last 0 ys y in
    let x_low : 128 ≤ x = high_a.1.0 in
    let x_top : x < 256 = high_a.1.1 in
    let y_low : 128 ≤ y = high_b.1.0 in
    let y_top : y < 256 = high_b.1.1 in
    let fronts : base_from 0 xs ≡ base_from 0 ys = omega (arith, value_a, value_b, e) in
    let lasts : x ≡ y = omega (arith, value_a, value_b, e) in
    let same : xs ≡ ys = same_front xs ys ends ends' high_a.0 high_b.0 (first_of_front xs x (subst NoPad is pa)) (first_of_front ys y (subst NoPad is' pb)) fronts in
    is ∙ ap (λ r. r ++ x ∷ []) same ∙ ap (λ k. ys ++ k ∷ []) lasts ∙ sym is'

-- a number is written in one way
same_bytes : (n : ℕ) (a b : List ℕ) → WritesNumber n a → WritesNumber n b → a ≡ b
same_bytes n a b w v =
    let value_a : n ≡ 128 * base_from 0 w.front + w.last % 128 = sym w.value ∙ ap (base_from 0) w.parts ∙ base_from-last 0 w.front w.last in
    let value_b : n ≡ 128 * base_from 0 v.front + v.last % 128 = sym v.value ∙ ap (base_from 0) v.parts ∙ base_from-last 0 v.front v.last in
    let end_a : w.last < 128 = w.end in
    let end_b : v.last < 128 = v.end in
    let fronts : base_from 0 w.front ≡ base_from 0 v.front = omega (arith, value_a, value_b) in
    let lasts : w.last ≡ v.last = omega (arith, value_a, value_b) in
    let pad_a : NoPad w.front = first_of_front w.front w.last (subst NoPad w.parts w.fewest) in
    let pad_b : NoPad v.front = first_of_front v.front v.last (subst NoPad v.parts v.fewest) in
    let same : w.front ≡ v.front = same_front w.front v.front (ends_of w.front) (ends_of v.front) (high_of w.front w.more) (high_of v.front v.more) pad_a pad_b fronts in
    w.parts ∙ ap (λ r. r ++ w.last ∷ []) same ∙ ap (λ k. v.front ++ k ∷ []) lasts ∙ sym v.parts

-- numbers are written in one way
pub same_list : (ns a b : List ℕ) → WriteNumbers ns a → WriteNumbers ns b → a ≡ b
same_list [] a b w v = w ∙ sym v
same_list (n ∷ ns) a b w v =
    w.2 ∙ ap (λ r. r ++ w.1) (same_bytes n w.0 v.0 w.3 v.3) ∙ ap (λ r. v.0 ++ r) (same_list ns w.1 v.1 w.4 v.4) ∙ sym v.2

-- the first number splits into two arcs
pub oid_of_arcs : (a b n : ℕ) (numbers bytes : List ℕ) → a ≤ 2 → (a < 2 → b ≤ 39) → n ≡ 40 * a + b → WriteNumbers (n ∷ numbers) bytes → IsOid (a ∷ b ∷ numbers) bytes
oid_of_arcs a b n numbers bytes a_fits b_fits is w = record {
  a = a;
  b = b;
  rest = numbers;
  arcs_are = refl;
  a_fits = a_fits;
  b_fits = b_fits;
  bytes_are = subst (λ (k : ℕ). WriteNumbers (k ∷ numbers) bytes) is w;
}

-- 2 where that leaves the second arc, else what 40 leaves
abbrev pub first_arc : ℕ → ℕ
first_arc n = min (n / 40) 2

pub oid_of_numbers : (n : ℕ) (numbers bytes : List ℕ) → WriteNumbers (n ∷ numbers) bytes → IsOid (first_arc n ∷ (n - 40 * first_arc n) ∷ numbers) bytes
oid_of_numbers n numbers bytes w = oid_of_arcs (first_arc n) (n - 40 * first_arc n) n numbers bytes (omega arith) (λ (low : first_arc n < 2). omega arith) (omega arith) w

-- the bytes behind others are bytes
bytes_behind : (front rest : List ℕ) → IsBytes (front ++ rest) → IsBytes rest
bytes_behind [] rest are = are
bytes_behind (x ∷ front) rest are = bytes_behind front rest (λ i. are (suc i))

pub bytes_after : (n : ℕ) (bytes rest : List ℕ) → IsBytes bytes → septets_at bytes ≡ Some (n, rest) → IsBytes rest
bytes_after n bytes rest are h =
    let read = at_number (slice_index bytes 0 == 128) n bytes rest refl h in
    let t : Took 0 n bytes rest = septets_from-took bytes 0 n rest are read.1 in
    let parts : bytes ≡ (t.front ++ t.last ∷ []) ++ rest = t.parts ∙ sym (append_assoc t.front (t.last ∷ []) rest) in
    bytes_behind (t.front ++ t.last ∷ []) rest (subst IsBytes parts are)

pub has_after : (n : ℕ) (bytes rest : List ℕ) → septets_at bytes ≡ Some (n, rest) → HasNumbers bytes → HasNumbers rest
has_after n bytes rest h has =
    let next = numbers_next has.0 n bytes rest has.1 h in
    (next.0, next.2)

pub has_before : (n : ℕ) (bytes rest : List ℕ) → IsBytes bytes → septets_at bytes ≡ Some (n, rest) → HasNumbers rest → HasNumbers bytes
has_before n bytes rest are h has = (n ∷ has.0, numbers_before n has.0 bytes rest are h has.1)

pub has_end : (bytes : List ℕ) → septets_at bytes ≡ None → HasNumbers bytes → bytes ≡ []
has_end bytes h has = (numbers_end has.0 bytes has.1 h).1

pub has_none : (bytes : List ℕ) → bytes ≡ [] → HasNumbers bytes
has_none bytes h = ([], h)

no_oid : (xs rest : List ℕ) (x : ℕ) → [] ≡ (xs ++ x ∷ []) ++ rest → ⊥
no_oid [] rest x h = cc
no_oid (y ∷ xs) rest x h = cc

-- an object identifier is numbers, and not none
pub oid_numbers : (bytes : List ℕ) → IsOidBytes bytes → HasNumbers bytes
oid_numbers bytes o = ((40 * o.1.a + o.1.b) ∷ o.1.rest, o.1.bytes_are)

pub oid_some : (bytes : List ℕ) → IsOidBytes bytes → bytes ≢ []
oid_some bytes o = λ none.
    let w = o.1.bytes_are in
    no_oid w.3.front w.1 w.3.last (sym none ∙ w.2 ∙ ap (λ bs. bs ++ w.1) w.3.parts)

pub oid_from : (bytes : List ℕ) → bytes ≢ [] → HasNumbers bytes → IsOidBytes bytes
oid_from bytes some has = by_numbers has.0 has.1
  where
    by_numbers : (ns : List ℕ) → WriteNumbers ns bytes → IsOidBytes bytes
    by_numbers [] w = absurd (some w)
    by_numbers (n ∷ ns) w = (_, oid_of_numbers n ns bytes w)

pub empty_when : (xs : List ℕ) → (length xs == 0) ≡ true → xs ≡ []
empty_when [] h = refl
empty_when (x ∷ xs) h = absurd (grind (arith, nat_tests, h))

tested_empty : (xs : List ℕ) → xs ≡ [] → (length xs == 0) ≡ true
tested_empty [] h = refl
tested_empty (x ∷ xs) h = cc

-- the loop has come to the end, or to bytes that are no number
pub has_numbers_when : (bytes rest : List ℕ) (ends : Bool) → ends ≡ (length rest == 0) → septets_at rest ≡ None → (HasNumbers bytes → HasNumbers rest) → (HasNumbers rest → HasNumbers bytes)
    → (IsTrue ends → HasNumbers bytes) × (HasNumbers bytes → IsTrue ends)
has_numbers_when bytes rest ends e none to back =
    (λ h. back (has_none rest (empty_when rest (sym e ∙ h))), λ has. e ∙ tested_empty rest (has_end rest none (to has)))

pub is_oid_when : (bytes : List ℕ) (numbers none : Bool) → none ≡ (length bytes == 0) → none ≡ false → ((IsTrue numbers → HasNumbers bytes) × (HasNumbers bytes → IsTrue numbers))
    → (IsTrue numbers → IsOidBytes bytes) × (IsOidBytes bytes → IsTrue numbers)
is_oid_when bytes numbers none e some h =
    (λ k. oid_from bytes (λ (is : bytes ≡ []). test_differs none e some is) (h.0 k), λ oid. h.1 (oid_numbers bytes oid))
  where
    test_differs : (b : Bool) → b ≡ (length bytes == 0) → b ≡ false → bytes ≡ [] → ⊥
    test_differs b e some none = let is : (length bytes == 0) ≡ true = tested_empty bytes none in cc
