-- The bytes that write numbers in base 128 are the septets of those numbers.
use Rattle.std.proofs.Common.{◌≡◌, ◌≢◌, ℕ, zero, suc, ◌+◌, ◌*◌, ◌/◌, ◌%◌, ◌<◌, ◌≤◌, false, ◌==◌, if◌then◌else◌, List, [], ◌∷◌, ◌++◌, All, Option, None, Some, Ok, Err, refl, sym, ap, subst, ◌∙◌, append_assoc, arith, slice_index}
use Rattle.std.specs.List.{fold, flat_map}
use Rattle.std.proofs.lemmas.List.Elements.{All-head, All-tail}
use Rattle.req_tree.specs.Oid.{WritesNumber, WriteNumbers}
use Rattle.req_tree.specs.declared.fault.OidFault.{OidFault}
use Rattle.req_tree.specs.OidReading.{numbers_of_text}
use Rattle.code_facts.specs.OidText.{front_septets, septets, oid_of_numbers, oid_of_text}
use Rattle.code_facts.proofs.Bits.{no_test, same_number}

-- the number after a part of it
abbrev base_from : ℕ → List ℕ → ℕ
base_from part bytes = fold (λ n b. 128 * n + b % 128) part bytes

-- a byte with the high bit
abbrev HighByte : ℕ → Type 0
HighByte b = (128 ≤ b) × (b < 256)

abbrev IsHigh : List ℕ → Type 0
IsHigh [] = Unit {0}
IsHigh (b ∷ rest) = HighByte b × IsHigh rest

-- the bytes do not begin with 128
abbrev NoPad : List ℕ → Type 0
NoPad xs = slice_index xs 0 ≢ 128

high_of : (xs : List ℕ) → All HighByte xs → IsHigh xs
high_of [] h = tt
high_of (x ∷ xs) h = (All-head HighByte x xs h, high_of xs (All-tail HighByte x xs h))

base_from-last : (part : ℕ) (xs : List ℕ) (b : ℕ) → base_from part (xs ++ b ∷ []) ≡ 128 * base_from part xs + b % 128
base_from-last part [] b = refl
base_from-last part (x ∷ xs) b = base_from-last (128 * part + x % 128) xs b

base_from-le : (part : ℕ) (xs : List ℕ) → part ≤ base_from part xs
base_from-le part [] = omega arith
base_from-le part (x ∷ xs) = omega (arith, base_from-le (128 * part + x % 128) xs)

-- a list by its end
data Ends : List ℕ → Type 0 where
  empty : (xs : List ℕ) → xs ≡ [] → Ends xs
  more : (xs ys : List ℕ) (y : ℕ) → Ends ys → xs ≡ ys ++ y ∷ [] → Ends xs

append-nil : (xs : List ℕ) → xs ++ [] ≡ xs
append-nil [] = refl
append-nil (x ∷ xs) = ap (λ r. x ∷ r) (append-nil xs)

ends_after : (done rest whole : List ℕ) → Ends done → whole ≡ done ++ rest → Ends whole
ends_after done [] whole e h = subst Ends (sym (h ∙ append-nil done)) e
ends_after done (x ∷ rest) whole e h = ends_after (done ++ x ∷ []) rest whole (more (done ++ x ∷ []) done x e refl) (h ∙ sym (append_assoc done (x ∷ []) rest))

ends_of : (xs : List ℕ) → Ends xs
ends_of xs = ends_after [] xs xs (empty [] refl) refl

first_of_front : (xs : List ℕ) (x : ℕ) → NoPad (xs ++ x ∷ []) → NoPad xs
first_of_front [] x h = λ e. absurd (omega (arith, e))
first_of_front (y ∷ xs) x h = h

IsHigh-last : (xs : List ℕ) (x : ℕ) → IsHigh (xs ++ x ∷ []) → IsHigh xs × HighByte x
IsHigh-last [] x h = (tt, h.0)
IsHigh-last (y ∷ xs) x h =
    let rest = IsHigh-last xs x h.1 in
    ((h.0, rest.0), rest.1)

not_zero : (xs : List ℕ) (x : ℕ) → IsHigh (xs ++ x ∷ []) → NoPad (xs ++ x ∷ []) → 0 < base_from 0 (xs ++ x ∷ [])
not_zero [] x h k =
    let low : 128 ≤ x = h.0.0 in
    let top : x < 256 = h.0.1 in
    let other : x ≢ 128 = k in
    omega arith
not_zero (y ∷ xs) x h k =
    let low : 128 ≤ y = h.0.0 in
    let top : y < 256 = h.0.1 in
    let other : y ≢ 128 = k in
    omega (arith, base_from-le (128 * 0 + y % 128) (xs ++ x ∷ []))

none_when : (n : ℕ) (xs ys : List ℕ) → 0 < n → (if n == 0 then xs else ys) ≡ ys
none_when n xs ys h = let some : (n == 0) ≡ false = no_test (n == 0) (λ e. let z : n ≡ 0 = same_number n 0 e in absurd (omega arith)) in rw some refl

no_septets : (count : ℕ) → front_septets count 0 ≡ []
no_septets zero = refl
no_septets (suc count) = refl

-- how many numbers so many septets write
abbrev room : ℕ → ℕ
room zero = 1
room (suc count) = 128 * room count

front_is : (count : ℕ) (front : List ℕ) → Ends front → IsHigh front → NoPad front → base_from 0 front < room count → front_septets count (base_from 0 front) ≡ front
front_is count front (empty _ is) high pad small = ap (λ xs. front_septets count (base_from 0 xs)) is ∙ no_septets count ∙ sym is
front_is zero front (more _ xs x ends is) high pad small =
    let some : 0 < base_from 0 (xs ++ x ∷ []) = not_zero xs x (subst IsHigh is high) (subst NoPad is pad) in
    let same : base_from 0 front ≡ base_from 0 (xs ++ x ∷ []) = ap (base_from 0) is in
    absurd (omega (arith, some, same, small))
front_is (suc count) front (more _ xs x ends is) high pad small =
    let parts = IsHigh-last xs x (subst IsHigh is high) in
    let low : 128 ≤ x = parts.1.0 in
    let top : x < 256 = parts.1.1 in
    let some : 0 < base_from 0 (xs ++ x ∷ []) = not_zero xs x (subst IsHigh is high) (subst NoPad is pad) in
    let same : base_from 0 front ≡ base_from 0 (xs ++ x ∷ []) = ap (base_from 0) is in
    let value : base_from 0 front ≡ 128 * base_from 0 xs + x % 128 = same ∙ base_from-last 0 xs x in
    let front_value : base_from 0 front / 128 ≡ base_from 0 xs = omega (arith, value) in
    let last_value : 128 + base_from 0 front % 128 ≡ x = omega (arith, value) in
    let fits : base_from 0 xs < room count = omega (arith, value, small) in
    none_when (base_from 0 front) [] (front_septets count (base_from 0 front / 128) ++ (128 + base_from 0 front % 128) ∷ []) (omega (arith, some, same))
    ∙ ap (λ n. front_septets count n ++ (128 + base_from 0 front % 128) ∷ []) front_value
    ∙ ap (λ ys. ys ++ (128 + base_from 0 front % 128) ∷ []) (front_is count xs ends parts.0 (first_of_front xs x (subst NoPad is pad)) fits)
    ∙ ap (λ b. xs ++ b ∷ []) last_value ∙ sym is

septets_are : (n : ℕ) (bytes : List ℕ) → WritesNumber n bytes → septets n ≡ bytes
septets_are n bytes w =
    let value : n ≡ 128 * base_from 0 w.front + w.last % 128 = sym w.value ∙ ap (base_from 0) w.parts ∙ base_from-last 0 w.front w.last in
    let end : w.last < 128 = w.end in
    let front_value : n / 128 ≡ base_from 0 w.front = omega (arith, value) in
    let last_value : n % 128 ≡ w.last = omega (arith, value) in
    let small : base_from 0 w.front < room 4 = omega (arith, value, w.small) in
    let pad : NoPad w.front = first_of_front w.front w.last (subst NoPad w.parts w.fewest) in
    ap (λ k. front_septets 4 k ++ (n % 128) ∷ []) front_value
    ∙ ap (λ ys. ys ++ (n % 128) ∷ []) (front_is 4 w.front (ends_of w.front) (high_of w.front w.more) pad small)
    ∙ ap (λ b. w.front ++ b ∷ []) last_value ∙ sym w.parts

all_septets : (numbers bytes : List ℕ) → WriteNumbers numbers bytes → flat_map septets numbers ≡ bytes
all_septets [] bytes w = sym w
all_septets (n ∷ numbers) bytes w = ap (λ xs. xs ++ flat_map septets numbers) (septets_are n w.0 w.3) ∙ ap (λ ys. w.0 ++ ys) (all_septets numbers w.1 w.4) ∙ sym w.2

-- bytes that write the numbers of a text are those of the object identifier that it names
pub oid_read : (text numbers bytes : List ℕ) → numbers_of_text text ≡ Ok numbers → WriteNumbers numbers bytes → Some bytes ≡ oid_of_text text
oid_read text numbers bytes read w = ap (λ (b : List ℕ). Some b) (sym (all_septets numbers bytes w)) ∙ sym (ap oid_of_numbers read)

pub no_oid_read : (text : List ℕ) (fault : OidFault) → numbers_of_text text ≡ Err fault → ◌≡◌ {A = Option (List ℕ)} None (oid_of_text text)
no_oid_read text fault read = sym (ap oid_of_numbers read)
