-- A priority's text stands for that priority alone.
use Rattle.std.proofs.Common.{◌≡◌, ◌⊎◌, inl, inr, ℕ, suc, ◌+◌, ◌*◌, ◌-◌, ◌/◌, ◌%◌, ◌^◌, ◌<◌, ◌≤◌, ◌==◌, Bool, true, false, pos, negsuc, int_lt, List, [], ◌∷◌, ◌++◌, length, All, if◌then◌else◌, decimal, refl, sym, ap, ◌∙◌, arith}
use Rattle.std.proofs.lemmas.Int.{ints}
use Rattle.std.proofs.lemmas.Bool.{and_parts}
use Rattle.std.proofs.lemmas.Bool.Decides.{nat_tests}
use Rattle.std.proofs.lemmas.Nat.{div-add-mod', mod_below, div_below}
use Rattle.std.proofs.lemmas.List.Elements.{All-nil, All-cons, All-head, All-tail}
use Rattle.std.proofs.lemmas.Str.Parse.{IsNumeralModel, FoldsDigits, numerals_by_fold, tells_all_ascii_digits}
use Rattle.std.proofs.lemmas.Fmt.{digits_decimal, decimal_injective, decimal_nonempty}
use Rattle.std.specs.List.{fold}
use Rattle.std.specs.Str.{all_ascii_digits}
use Rattle.std.specs.Char.{is_ascii_digit}
use Rattle.req_tree.specs.NumericOrder.{number_of}
use Rattle.policy_model.specs.declared.limits.TheConstants.{UNIT}
use Rattle.policy_model.specs.Texts.{places, fraction_text, priority_text}
use Rattle.policy_model.specs.Laws.{PriorityTextIsItsOwn}
use Rattle.policy_model.proofs.DecimalPlaces.{fraction_stands}

abbrev value_from : ℕ → List ℕ → ℕ
value_from n digits = fold (λ k b. 10 * k + (b - 48)) n digits

folds : FoldsDigits value_from
folds = record { empty = λ n. refl; more = λ n c cs digit. ap (λ k. value_from k cs) (ten n c) }
  where
    ten : (n c : ℕ) → 10 * n + (c - 48) ≡ n * 10 + (c - 48)
    ten n c = omega arith

own : IsNumeralModel (λ ds. all_ascii_digits ds ≡ true) number_of
own = numerals_by_fold _ tells_all_ascii_digits value_from folds

abbrev Digit : ℕ → Type 0
Digit b = 48 ≤ b

one_digit : (b : ℕ) → is_ascii_digit b ≡ true → Digit b
one_digit b h = grind (arith, nat_tests, h)

all_digits : (ds : List ℕ) → all_ascii_digits ds ≡ true → All Digit ds
all_digits [] h = All-nil Digit
all_digits (b ∷ rest) h =
    let parts = and_parts (is_ascii_digit b) _ h in
    All-cons Digit b rest (one_digit b parts.0) (all_digits rest parts.1)

decimal_digits : (n : ℕ) → n < 2 ^ 64 → All Digit (decimal n)
decimal_digits n h = all_digits (decimal n) (digits_decimal own n h)

-- what follows the units: nothing, or a dot
abbrev Behind : List ℕ → Type 0
Behind text = (text ≡ []) ⊎ ((rest : List ℕ) × (text ≡ 46 ∷ rest))

behind : (part : ℕ) → Behind (fraction_text part)
behind part = by_case (part == 0)
  where
    by_case : (b : Bool) → Behind (if b then [] else 46 ∷ places 6 part)
    by_case true = inl refl
    by_case false = inr (places 6 part, refl)

no_digit_there : (text : List ℕ) (b : ℕ) (bs : List ℕ) → Behind text → Digit b → text ≡ b ∷ bs → ⊥
no_digit_there text b bs (inl none) digit e = absurd (empty (sym none ∙ e))
  where
    empty : [] ≡ b ∷ bs → ⊥
    empty e = cc
no_digit_there text b bs (inr (rest, dot)) digit e = omega (arith, digit, head (sym dot ∙ e))
  where
    head : 46 ∷ rest ≡ b ∷ bs → 46 ≡ b
    head e = cc

-- digits, and what follows them, are told apart
parts_are : (xs ys f g : List ℕ) → All Digit xs → All Digit ys → Behind f → Behind g → xs ++ f ≡ ys ++ g → (xs ≡ ys) × (f ≡ g)
parts_are [] [] f g dx dy bf bg e = (refl, e)
parts_are [] (y ∷ ys) f g dx dy bf bg e = absurd (no_digit_there f y (ys ++ g) bf (All-head Digit y ys dy) e)
parts_are (x ∷ xs) [] f g dx dy bf bg e = absurd (no_digit_there g x (xs ++ f) bg (All-head Digit x xs dx) (sym e))
parts_are (x ∷ xs) (y ∷ ys) f g dx dy bf bg e =
    let head : x ≡ y = cc in
    let tail : xs ++ f ≡ ys ++ g = cc in
    let rest = parts_are xs ys f g (All-tail Digit x xs dx) (All-tail Digit y ys dy) bf bg tail in
    (ap (λ b. b ∷ xs) head ∙ ap (λ bs. y ∷ bs) rest.0, rest.1)

same_part : (q r : ℕ) → q < UNIT → r < UNIT → fraction_text q ≡ fraction_text r → q ≡ r
same_part q r hq hr e = by_cases (q == 0) (r == 0) refl refl e
  where
    value : places 6 q ≡ places 6 r → q ≡ r
    value same = sym (fraction_stands q hq).value ∙ ap (λ ds. number_of ds * 10 ^ (6 - length ds)) same ∙ (fraction_stands r hr).value

    by_cases : (b c : Bool) → (q == 0) ≡ b → (r == 0) ≡ c → (if b then [] else 46 ∷ places 6 q) ≡ (if c then [] else 46 ∷ places 6 r) → q ≡ r
    by_cases true true a d e = grind (arith, nat_tests, a, d)
    by_cases true false a d e = absurd (cc)
    by_cases false true a d e = absurd (cc)
    by_cases false false a d e = value cc

-- the text without its sign
abbrev size_text : ℕ → List ℕ
size_text n = decimal (n / UNIT) ++ fraction_text (n % UNIT)

below : (n : ℕ) → n ≤ 1000000000000 → n / UNIT < 2 ^ 64
below n h =
    let less : n / UNIT < 1000001 = div_below n UNIT 1000001 (omega arith) (omega (arith, h)) in
    omega (arith, less)

same_size : (m n : ℕ) → m ≤ 1000000000000 → n ≤ 1000000000000 → size_text m ≡ size_text n → m ≡ n
same_size m n hm hn e =
    let parts = parts_are (decimal (m / UNIT)) (decimal (n / UNIT)) (fraction_text (m % UNIT)) (fraction_text (n % UNIT))
    (decimal_digits (m / UNIT) (below m hm)) (decimal_digits (n / UNIT) (below n hn)) (behind (m % UNIT)) (behind (n % UNIT)) e in
    let units : m / UNIT ≡ n / UNIT = decimal_injective (m / UNIT) (n / UNIT) (below m hm) (below n hn) parts.0 in
    let rest : m % UNIT ≡ n % UNIT = same_part (m % UNIT) (n % UNIT) (mod_below m UNIT (omega arith)) (mod_below n UNIT (omega arith)) parts.1 in
    sym (div-add-mod' m UNIT) ∙ ap (λ q. q * UNIT + m % UNIT) units ∙ ap (λ r. n / UNIT * UNIT + r) rest ∙ div-add-mod' n UNIT

no_sign : (n : ℕ) (text : List ℕ) → n ≤ 1000000000000 → 45 ∷ text ≡ size_text n → ⊥
no_sign n text h e = go (decimal (n / UNIT)) (decimal_digits (n / UNIT) (below n h)) (decimal_nonempty (n / UNIT) (below n h)) e
  where
    go : (ds : List ℕ) → All Digit ds → 0 < length ds → 45 ∷ text ≡ ds ++ fraction_text (n % UNIT) → ⊥
    go [] digits some e = absurd (omega (arith, some))
    go (d ∷ ds) digits some e =
        let head : 45 ≡ d = cc in
        omega (arith, head, All-head Digit d ds digits)

not_below : (m : ℕ) → int_lt (pos m) (pos 0) ≡ false
not_below m = grind (arith, ints, nat_tests)

is_below : (m : ℕ) → int_lt (negsuc m) (pos 0) ≡ true
is_below m = grind (arith, ints, nat_tests)

-- a priority's text is its size, behind a sign where it is below zero
plain : (m : ℕ) → priority_text (pos m) ≡ size_text m
plain m = ap (λ (b : Bool). (if b then 45 ∷ [] else []) ++ decimal (m / UNIT) ++ fraction_text (m % UNIT)) (not_below m)

signed : (m : ℕ) → priority_text (negsuc m) ≡ 45 ∷ size_text (suc m)
signed m = ap (λ (b : Bool). (if b then 45 ∷ [] else []) ++ decimal (suc m / UNIT) ++ fraction_text (suc m % UNIT)) (is_below m)

pub priority_text_is_its_own : PriorityTextIsItsOwn
priority_text_is_its_own (pos m) (pos n) hm hn e = ap pos (same_size m n hm hn (sym (plain m) ∙ e ∙ plain n))
priority_text_is_its_own (pos m) (negsuc n) hm hn e = absurd (no_sign m (size_text (suc n)) hm (sym (signed n) ∙ sym e ∙ plain m))
priority_text_is_its_own (negsuc m) (pos n) hm hn e = absurd (no_sign n (size_text (suc m)) hn (sym (signed m) ∙ e ∙ plain n))
priority_text_is_its_own (negsuc m) (negsuc n) hm hn e =
    let sizes : suc m ≡ suc n = same_size (suc m) (suc n) hm hn (tail (sym (signed m) ∙ e ∙ signed n)) in
    ap negsuc (omega (arith, sizes))
  where
    tail : 45 ∷ size_text (suc m) ≡ 45 ∷ size_text (suc n) → size_text (suc m) ≡ size_text (suc n)
    tail e = cc
