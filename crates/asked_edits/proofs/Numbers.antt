-- The numbers that words read as are within their bounds.
use Rattle.std.proofs.Common.{◌≡◌, ℕ, ◌+◌, ◌*◌, ◌≤◌, ◌==◌, ℤ, suc, zero, List, [], ◌∷◌, length, Bool, true, false, ◌&&◌, nat_le, Option, Some, None, if◌then◌else◌, codes, refl, ap, subst, arith}
use Rattle.std.specs.Prelude.{pos, neg_ℤ, option_map, position, take, drop}
use Rattle.std.specs.Str.{bytes_eq}
use Rattle.std.specs.List.{list_all}
use Rattle.std.specs.Char.{is_ascii_digit}
use Rattle.std.proofs.lemmas.Bool.Decides.{nat_tests}
use Rattle.req_tree.specs.NumericOrder.{number_of}
use Rattle.policy_model.specs.declared.limits.TheConstants.{GREATEST_MOMENT, UNIT, MOST_RECEIPTS}
use Rattle.policy_model.specs.Contents.{by_id}
use Rattle.line_model.specs.declared.limits.TheConstants.{MOMENT_DIGITS, RULE_DIGITS, PRIORITY_DIGITS, GREATEST_UNITS}
use Rattle.line_model.specs.Words.{number_word, moment_word, expiry_word, units_word, fraction_word, sum_within, amount_from, amount_word, priority_word, from_one, rule_word}
use Rattle.line_laws.specs.Limits.{IsExpiry, IsPriority, IsName}
use Rattle.asked_edits.proofs.Readings.{some_is, not_some, mapped, tested}

last_of_four : (a b c d : Bool) → (a && b && c && d) ≡ true → d ≡ true
last_of_four true true true d h = h
last_of_four true true false d h = cc
last_of_four true false c d h = cc
last_of_four false b c d h = cc

at_most_from : (a b : ℕ) → nat_le a b ≡ true → a ≤ b
at_most_from a b h = grind (arith, nat_tests, h)

number_within : (most greatest : ℕ) (word : List ℕ) (n : ℕ) → number_word most greatest word ≡ Some n → n ≤ greatest
number_within most greatest word n e =
    let is = tested (nat_le 1 (length word) && nat_le (length word) most && list_all is_ascii_digit word && nat_le (number_of word) greatest) (number_of word) n e in
    subst (λ m. m ≤ greatest) is.1
    (at_most_from (number_of word) greatest (last_of_four (nat_le 1 (length word)) (nat_le (length word) most) (list_all is_ascii_digit word) (nat_le (number_of word) greatest) is.0))

ends_within : (never : Bool) (moment : Option ℕ) (expires : Option ℕ) → (if never then Some None else option_map Some moment) ≡ Some expires
    → ((m : ℕ) → moment ≡ Some m → m ≤ GREATEST_MOMENT) → IsExpiry expires
ends_within true moment expires e h = subst IsExpiry (some_is None expires e) tt
ends_within false None expires e h = absurd (not_some expires e)
ends_within false (Some m) expires e h = subst IsExpiry (some_is (Some m) expires e) (h m refl)

pub expiry_fits : (word : List ℕ) (expires : Option ℕ) → expiry_word word ≡ Some expires → IsExpiry expires
expiry_fits word expires e =
    ends_within (bytes_eq word (codes "never")) (moment_word word) expires e (λ m is. number_within MOMENT_DIGITS GREATEST_MOMENT word m is)

-- the greatest priority in millionths
abbrev Greatest : ℕ → Type 0
Greatest n = n ≤ GREATEST_UNITS * UNIT

units_within : (word : List ℕ) (n : ℕ) → units_word word ≡ Some n → Greatest n
units_within word n e =
    let is = mapped (λ n. n * UNIT) (number_word PRIORITY_DIGITS GREATEST_UNITS word) n e in
    let few : is.0 ≤ GREATEST_UNITS = number_within PRIORITY_DIGITS GREATEST_UNITS word is.0 is.1 in
    subst Greatest is.2 (omega (arith, few))

sum_at_most : (a b : Option ℕ) (n : ℕ) → sum_within a b ≡ Some n → Greatest n
sum_at_most (Some u) (Some m) n e =
    let is = tested (nat_le (u + m) (GREATEST_UNITS * UNIT)) (u + m) n e in
    subst Greatest is.1 (at_most_from (u + m) (GREATEST_UNITS * UNIT) is.0)
sum_at_most None b n e = absurd (not_some n e)
sum_at_most (Some u) None n e = absurd (not_some n e)

amount_within : (dot : Option ℕ) (word : List ℕ) (n : ℕ) → amount_from dot word ≡ Some n → Greatest n
amount_within None word n e = units_within word n e
amount_within (Some dot) word n e = sum_at_most (units_word (take dot word)) (fraction_word (drop (dot + 1) word)) n e

above : (n : ℕ) → Greatest n → IsPriority (pos n)
above n h = h

below : (n : ℕ) → Greatest n → IsPriority (neg_ℤ (pos n))
below zero h = h
below (suc n) h = h

signed : (minus : Bool) (a b : Option ℕ) (p : ℤ) → (if minus then option_map (λ n. neg_ℤ (pos n)) a else option_map pos b) ≡ Some p
    → ((n : ℕ) → a ≡ Some n → Greatest n) → ((n : ℕ) → b ≡ Some n → Greatest n) → IsPriority p
signed true a b p e h k = let is = mapped (λ n. neg_ℤ (pos n)) a p e in subst IsPriority is.2 (below is.0 (h is.0 is.1))
signed false a b p e h k = let is = mapped pos b p e in subst IsPriority is.2 (above is.0 (k is.0 is.1))

pub priority_fits : (word : List ℕ) (p : ℤ) → priority_word word ≡ Some p → IsPriority p
priority_fits [] p e = absurd (not_some p e)
priority_fits (b ∷ bytes) p e =
    signed (b == 45) (amount_word bytes) (amount_word (b ∷ bytes)) p e
    (λ n is. amount_within (position (λ b. b == 46) bytes) bytes n is)
    (λ n is. amount_within (position (λ b. b == 46) (b ∷ bytes)) (b ∷ bytes) n is)

not_zero : (n : ℕ) → (n == 0) ≡ false → 1 ≤ n
not_zero n h = grind (arith, nat_tests, h)

from_one_on : (zero : Bool) (n m : ℕ) → (n == 0) ≡ zero → (if zero then None else Some n) ≡ Some m → (1 ≤ n) × (n ≡ m)
from_one_on true n m e is = absurd (not_some m is)
from_one_on false n m e is = (not_zero n e, some_is n m is)

number_from_one : (o : Option ℕ) (m : ℕ) → from_one o ≡ Some m → (o ≡ Some m) × (1 ≤ m)
number_from_one None m e = absurd (not_some m e)
number_from_one (Some n) m e =
    let is = from_one_on (n == 0) n m refl e in
    (ap Some is.1, subst (λ x. 1 ≤ x) is.1 is.0)

pub rule_fits : (word : List ℕ) (n : ℕ) → rule_word word ≡ Some n → IsName (by_id n)
rule_fits word n e =
    let is = number_from_one (number_word RULE_DIGITS MOST_RECEIPTS word) n e in
    (is.1, number_within RULE_DIGITS MOST_RECEIPTS word n is.0)
