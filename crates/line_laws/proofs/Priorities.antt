-- A priority is read back from its text.
use Rattle.std.proofs.Common.{◌≡◌, ℕ, zero, suc, ◌+◌, ◌*◌, ◌-◌, ◌/◌, ◌%◌, ◌^◌, ◌<◌, ◌≤◌, ◌==◌, Bool, true, false, not, ◌&&◌, nat_le, nat_lt, ℤ, pos, negsuc, neg_ℤ, int_lt, List, [], ◌∷◌, ◌++◌, length, drop, All, Some, None, if◌then◌else◌, decimal, refl, ap, ◌∙◌, arith, length-append, append-nil}
use Rattle.std.specs.Prelude.{unsigned_abs}
use Rattle.std.specs.Option.{option_map}
use Rattle.std.specs.List.{list_all, position, position_or_len}
use Rattle.std.specs.Char.{is_ascii_digit}
use Rattle.std.proofs.lemmas.Int.{ints}
use Rattle.std.proofs.lemmas.Bool.{and_parts}
use Rattle.std.proofs.lemmas.Bool.Decides.{nat_tests}
use Rattle.std.proofs.lemmas.Nat.{div-add-mod', mod_below, div_below}
use Rattle.std.proofs.lemmas.List.Elements.{All-head, All-tail}
use Rattle.std.proofs.Math.Nat.{pow-suc}
use Rattle.std.proofs.Math.Seq.{take-append_seam, drop-append-add}
use Rattle.req_tree.specs.NumericOrder.{number_of}
use Rattle.policy_model.specs.declared.limits.TheConstants.{UNIT}
use Rattle.policy_model.specs.Texts.{places, fraction_text, priority_text}
use Rattle.policy_model.specs.Laws.{IsFraction, PlacesStand}
use Rattle.line_model.specs.Words.{units_word, fraction_word, sum_within, amount_from, amount_word, priority_word}
use Rattle.line_laws.proofs.Numbers.{AreDigits, are_digits, at_least_one, number_reads, number_back}

abbrev is_dot : ℕ → Bool
is_dot b = b == 46

digit_no_dot : (d : ℕ) → is_ascii_digit d ≡ true → is_dot d ≡ false
digit_no_dot d h = grind (arith, nat_tests, h)

digit_no_sign : (d : ℕ) → is_ascii_digit d ≡ true → (d == 45) ≡ false
digit_no_sign d h = grind (arith, nat_tests, h)

-- where the first dot stands behind digits
dot_behind : (ds behind : List ℕ) → AreDigits ds → position_or_len is_dot (ds ++ 46 ∷ behind) ≡ length ds
dot_behind [] behind h = refl
dot_behind (d ∷ ds) behind h =
    let parts = and_parts (is_ascii_digit d) (list_all is_ascii_digit ds) h in
    let rest = dot_behind ds behind parts.1 in
    ap (λ (c : Bool). if not c then 1 + position_or_len is_dot (ds ++ 46 ∷ behind) else 0) (digit_no_dot d parts.0)
    ∙ omega (arith, rest)

no_dot_in : (ds : List ℕ) → AreDigits ds → position_or_len is_dot ds ≡ length ds
no_dot_in [] h = refl
no_dot_in (d ∷ ds) h =
    let parts = and_parts (is_ascii_digit d) (list_all is_ascii_digit ds) h in
    let rest = no_dot_in ds parts.1 in
    ap (λ (c : Bool). if not c then 1 + position_or_len is_dot ds else 0) (digit_no_dot d parts.0)
    ∙ omega (arith, rest)

dot_place : (ds behind : List ℕ) → AreDigits ds → position is_dot (ds ++ 46 ∷ behind) ≡ Some (length ds)
dot_place ds behind h =
    let inside : nat_lt (length ds) (length (ds ++ 46 ∷ behind)) ≡ true = grind (arith, nat_tests, length-append ds (46 ∷ behind)) in
    ap (λ k. if nat_lt k (length (ds ++ 46 ∷ behind)) then Some k else None) (dot_behind ds behind h)
    ∙ ap (λ (c : Bool). if c then Some (length ds) else None) inside

no_dot : (ds : List ℕ) → AreDigits ds → position is_dot ds ≡ None
no_dot ds h =
    let past : nat_lt (length ds) (length ds) ≡ false = grind (arith, nat_tests) in
    ap (λ k. if nat_lt k (length ds) then Some k else None) (no_dot_in ds h)
    ∙ ap (λ (c : Bool). if c then Some (length ds) else None) past

units_back : (q : ℕ) → q ≤ 1000000 → units_word (decimal q) ≡ Some (q * UNIT)
units_back q h = ap (option_map (λ n. n * UNIT)) (number_back 7 1000000 q (omega arith) (omega (arith, h)) (omega (arith, h)) h)

some_power : (n : ℕ) → 0 < 10 ^ n
some_power zero = omega arith
some_power (suc n) = omega (arith, pow-suc 10 n, some_power n)

module _ (stand : PlacesStand) where
  fraction : (r : ℕ) → r < UNIT → IsFraction r (places 6 r)
  fraction r h = stand r h

  digit_test : (d : ℕ) → (48 ≤ d) × (d ≤ 57) → is_ascii_digit d ≡ true
  digit_test d h = grind (arith, nat_tests, h.0, h.1)

  all_digits : (ds : List ℕ) → All (λ d. (48 ≤ d) × (d ≤ 57)) ds → AreDigits ds
  all_digits [] h = refl
  all_digits (d ∷ ds) h =
      ap (λ (c : Bool). c && list_all is_ascii_digit ds) (digit_test d (All-head (λ d. (48 ≤ d) × (d ≤ 57)) d ds h))
      ∙ all_digits ds (All-tail (λ d. (48 ≤ d) × (d ≤ 57)) d ds h)

  pub places_digits : (r : ℕ) → r < UNIT → AreDigits (places 6 r)
  places_digits r h = all_digits (places 6 r) (fraction r h).each

  at_most : (a p r : ℕ) → 0 < p → a * p ≡ r → a ≤ r
  at_most a p r some e =
      let scale : (p - 1) + 1 ≡ p = omega (arith, some) in
      omega (arith, ap (λ x. a * x) scale, e)

  some_places : (ds : List ℕ) (k r : ℕ) → 0 < r → number_of ds * k ≡ r → 0 < length ds
  some_places [] k r some e = absurd (omega (arith, some, e))
  some_places (d ∷ ds) k r some e = omega arith

  fraction_back : (r : ℕ) → 0 < r → r < UNIT → fraction_word (places 6 r) ≡ Some r
  fraction_back r some h =
      let f = fraction r h in
      let k : ℕ = 6 - length (places 6 r) in
      let small : number_of (places 6 r) ≤ r = at_most (number_of (places 6 r)) (10 ^ (6 - length (places 6 r))) r (some_power (6 - length (places 6 r))) f.value in
      ap (option_map (λ n. n * 10 ^ (6 - length (places 6 r))))
      (number_reads 6 999999 (places 6 r) (some_places (places 6 r) (10 ^ (6 - length (places 6 r))) r some f.value) f.most (places_digits r h) (omega (arith, small, h)))
      ∙ ap Some f.value

  -- a priority's text without its sign
  abbrev pub size_text : ℕ → List ℕ
  size_text n = decimal (n / UNIT) ++ fraction_text (n % UNIT)

  few_units : (n : ℕ) → n ≤ 1000000000000 → n / UNIT ≤ 1000000
  few_units n h =
      let less : n / UNIT < 1000001 = div_below n UNIT 1000001 (omega arith) (omega (arith, h)) in
      omega (arith, less)

  pub units_digits : (n : ℕ) → n ≤ 1000000000000 → AreDigits (decimal (n / UNIT))
  units_digits n h = are_digits (n / UNIT) (omega (arith, few_units n h))

  -- units and no fraction
  whole_back : (n q : ℕ) → q ≤ 1000000 → q * UNIT ≡ n → amount_word (decimal q ++ []) ≡ Some n
  whole_back n q few is =
      ap amount_word (append-nil (decimal q))
      ∙ ap (λ o. amount_from o (decimal q)) (no_dot (decimal q) (are_digits q (omega (arith, few))))
      ∙ units_back q few ∙ ap Some is

  -- units and a fraction
  parts_back : (n q r : ℕ) → n ≤ 1000000000000 → q ≤ 1000000 → 0 < r → r < UNIT → q * UNIT + r ≡ n → amount_word (decimal q ++ 46 ∷ places 6 r) ≡ Some n
  parts_back n q r most few some less is =
      let digits : AreDigits (decimal q) = are_digits q (omega (arith, few)) in
      let within : nat_le (q * UNIT + r) 1000000000000 ≡ true = grind (arith, nat_tests, is, most) in
      ap (λ o. amount_from o (decimal q ++ 46 ∷ places 6 r)) (dot_place (decimal q) (places 6 r) digits)
      ∙ ap (λ ds. sum_within (units_word ds) (fraction_word (drop (length (decimal q) + 1) (decimal q ++ 46 ∷ places 6 r)))) (take-append_seam (decimal q) (46 ∷ places 6 r))
      ∙ ap (λ ds. sum_within (units_word (decimal q)) (fraction_word ds)) (drop-append-add (decimal q) (46 ∷ places 6 r) 1)
      ∙ ap (λ o. sum_within o (fraction_word (places 6 r))) (units_back q few)
      ∙ ap (sum_within (Some (q * UNIT))) (fraction_back r some less)
      ∙ ap (λ (c : Bool). if c then Some (q * UNIT + r) else None) within
      ∙ ap Some is

  size_back : (n : ℕ) → n ≤ 1000000000000 → amount_word (size_text n) ≡ Some n
  size_back n h = by_case (n % UNIT == 0) refl
    where
      less : n % UNIT < UNIT
      less = mod_below n UNIT (omega arith)

      whole : n / UNIT * UNIT + n % UNIT ≡ n
      whole = div-add-mod' n UNIT

      by_case : (none : Bool) → (n % UNIT == 0) ≡ none → amount_word (decimal (n / UNIT) ++ (if none then [] else 46 ∷ places 6 (n % UNIT))) ≡ Some n
      by_case true e =
          let none : n % UNIT ≡ 0 = grind (arith, nat_tests, e) in
          whole_back n (n / UNIT) (few_units n h) (omega (arith, whole, none))
      by_case false e =
          let some : 0 < n % UNIT = grind (arith, nat_tests, e) in
          parts_back n (n / UNIT) (n % UNIT) h (few_units n h) some less whole

  -- digits have no sign
  unsigned_back : (ds behind : List ℕ) (n : ℕ) → AreDigits ds → 0 < length ds → amount_word (ds ++ behind) ≡ Some n → priority_word (ds ++ behind) ≡ Some (pos n)
  unsigned_back [] behind n digits some is = absurd (omega (arith, some))
  unsigned_back (d ∷ ds) behind n digits some is =
      let digit = (and_parts (is_ascii_digit d) (list_all is_ascii_digit ds) digits).0 in
      ap (λ (c : Bool). if c then option_map (λ n. neg_ℤ (pos n)) (amount_word (ds ++ behind)) else option_map pos (amount_word (d ∷ ds ++ behind))) (digit_no_sign d digit)
      ∙ ap (option_map pos) is

  not_below : (m : ℕ) → int_lt (pos m) (pos 0) ≡ false
  not_below m = grind (arith, ints, nat_tests)

  is_below : (m : ℕ) → int_lt (negsuc m) (pos 0) ≡ true
  is_below m = grind (arith, ints, nat_tests)

  pub plain_text : (m : ℕ) → priority_text (pos m) ≡ size_text m
  plain_text m = ap (λ (b : Bool). (if b then 45 ∷ [] else []) ++ decimal (m / UNIT) ++ fraction_text (m % UNIT)) (not_below m)

  pub signed_text : (m : ℕ) → priority_text (negsuc m) ≡ 45 ∷ size_text (suc m)
  signed_text m = ap (λ (b : Bool). (if b then 45 ∷ [] else []) ++ decimal (suc m / UNIT) ++ fraction_text (suc m % UNIT)) (is_below m)

  pub priority_back : (p : ℤ) → unsigned_abs p ≤ 1000000000000 → priority_word (priority_text p) ≡ Some p
  priority_back (pos m) h =
      ap priority_word (plain_text m)
      ∙ unsigned_back (decimal (m / UNIT)) (fraction_text (m % UNIT)) m (units_digits m h) (at_least_one (m / UNIT) (omega (arith, few_units m h))) (size_back m h)
  priority_back (negsuc m) h = ap priority_word (signed_text m) ∙ ap (option_map (λ n. neg_ℤ (pos n))) (size_back (suc m) h)
