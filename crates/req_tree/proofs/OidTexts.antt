-- Texts of object identifiers: what is read is what the text is, and each such text is read.
use Rattle.std.proofs.Common.{◌≡◌, ◌≢◌, ℕ, suc, zero, ◌+◌, ◌*◌, ◌-◌, ◌^◌, ◌<◌, ◌≤◌, min, Bool, true, false, not, ◌&&◌, ◌||◌, ◌==◌, nat_lt, nat_le, if◌then◌else◌, List, [], ◌∷◌, ◌++◌, length, take, drop, All, map, None, Some, Result, Ok, Err, refl, sym, ap, subst, ◌∙◌, append_assoc, arith, get_or, decimal, add-one}
use Rattle.std.proofs.lemmas.Bool.Decides.{nat_tests}
use Rattle.std.proofs.lemmas.List.Elements.{All-nil, All-cons}
use Rattle.std.proofs.lemmas.List.Splits.{slice_split_none, slice_split_at, join_with_byte-slice_split}
use Rattle.std.proofs.lemmas.Str.Parse.{IsNumeralModel, FoldsDigits, numerals_by_fold, tells_all_ascii_digits}
use Rattle.std.proofs.lemmas.Fmt.{decimal-digits_value, digits_decimal, digits_value-decimal, decimal_nonempty, first_decimal, decimal_digit}
use Rattle.std.specs.List.{fold, join_with_byte, flat_map}
use Rattle.std.specs.Result.{MatchResult, IfOk}
use Rattle.std.specs.Str.{all_ascii_digits}
use Rattle.std.specs.Char.{is_ascii_digit}
use Rattle.req_tree.specs.NumericOrder.{number_of}
use Rattle.req_tree.specs.Oid.{WritesNumber, WriteNumbers, IsOid, IsOidBytes, IsOidText, dotted}
use Rattle.req_tree.specs.OidReading.{arc_words, is_arc, second_number, first_number, arc_number, before, later_numbers, from_first, numbers_of_text, ReadsNumbers}
use Rattle.req_tree.specs.Steps.{words_of, dotted_arc}
use Rattle.req_tree.specs.OidReading as reading
use Rattle.req_tree.specs.declared.fault.OidFault.{OidFault}
use Rattle.req_tree.specs.declared.fault.OidFault.TheVariants.{BadArc, ArcTooLarge, TooShort, OutOfMemory}
use Rattle.req_tree.proofs.OidNumbers.{oid_of_arcs, oid_of_numbers, first_arc, same_list, same_numbers, numbers_next, numbers_end, oid_some, oid_numbers, has_end}

-- the numbers before others in a reading
abbrev pub before_all : List ℕ → Result (List ℕ) OidFault → Result (List ℕ) OidFault
before_all done (Err fault) = Err fault
before_all done (Ok rest) = Ok (done ++ rest)

-- some numbers of all were appended, and the rest is to be read
pub record Pushing (old new : List ℕ) (all rest : Result (List ℕ) OidFault) : Type 0 where
  pub done : List ℕ
  pub bytes : List ℕ
  pub written : WriteNumbers done bytes
  pub so_far : new ≡ old ++ bytes
  pub behind : all ≡ before_all done rest

-- the value of digits, one by one from a number on
abbrev pub value_from : ℕ → List ℕ → ℕ
value_from n digits = fold (λ k b. 10 * k + (b - 48)) n digits

folds : FoldsDigits value_from
folds = record {
  empty = λ n. refl;
  more = λ n c cs digit. ap (λ k. value_from k cs) (ten n c);
}
  where
    ten : (n c : ℕ) → 10 * n + (c - 48) ≡ n * 10 + (c - 48)
    ten n c = omega arith

own : IsNumeralModel (λ ds. all_ascii_digits ds ≡ true) number_of
own = numerals_by_fold _ tells_all_ascii_digits value_from folds

and_left : (a b : Bool) → (a && b) ≡ true → a ≡ true
and_left true b h = refl
and_left false b h = cc

and_right : (a b : Bool) → (a && b) ≡ true → b ≡ true
and_right true b h = h
and_right false b h = cc

arc_digits : (word : List ℕ) → is_arc word ≡ true → all_ascii_digits word ≡ true
arc_digits [] h = cc
arc_digits (b ∷ []) h = h
arc_digits (b ∷ c ∷ rest) h = and_right (not (b == 48)) _ h

arc_some : (word : List ℕ) → is_arc word ≡ true → 0 < length word
arc_some [] h = cc
arc_some (b ∷ rest) h = omega arith

not_true : (b : Bool) → not b ≡ true → b ≡ false
not_true false h = refl
not_true true h = cc

arc_start : (word : List ℕ) → is_arc word ≡ true → get_or word 0 0 ≡ 48 → length word ≡ 1
arc_start [] h k = cc
arc_start (b ∷ []) h k = refl
arc_start (b ∷ c ∷ rest) h k =
    let differs : (b == 48) ≡ false = not_true _ (and_left (not (b == 48)) _ h) in
    let is : b ≡ 48 = k in
    absurd (grind (arith, nat_tests, differs, is))

-- an arc's value is written as the arc again
pub decimal-arc : (word : List ℕ) → is_arc word ≡ true → number_of word < 2 ^ 32 → decimal (number_of word) ≡ word
decimal-arc word h small = decimal-digits_value own word (arc_digits word h) (arc_some word h) (arc_start word h) (omega arith)

arc_from : (digits : List ℕ) → all_ascii_digits digits ≡ true → 0 < length digits → (48 < get_or digits 0 0 → is_arc digits ≡ true)
arc_from [] h k some = absurd (omega (arith, k))
arc_from (b ∷ []) h k some = h
arc_from (b ∷ c ∷ rest) h k some =
    let above : 48 < b = some in
    let differs : (b == 48) ≡ false = grind (arith, nat_tests, above) in
    both (not (b == 48)) _ (ap not differs) h
  where
    both : (x y : Bool) → x ≡ true → y ≡ true → (x && y) ≡ true
    both true y h k = k
    both false y h k = cc

-- a number in decimal is an arc
pub arc-decimal : (n : ℕ) → n < 2 ^ 32 → is_arc (decimal n) ≡ true
arc-decimal zero h = ap is_arc (decimal_digit 0 (omega arith))
arc-decimal (suc n) h =
    arc_from (decimal (suc n)) (digits_decimal own (suc n) (omega arith)) (decimal_nonempty (suc n) (omega arith)) (first_decimal (suc n) (omega arith) (omega arith))

pub number_of-decimal : (n : ℕ) → n < 2 ^ 32 → number_of (decimal n) ≡ n
number_of-decimal n h = digits_value-decimal own n (omega arith)

-- no dot among digits
abbrev pub NoDot : ℕ → Type 0
NoDot b = (b == 46) ≡ false

digit_no_dot : (b : ℕ) → is_ascii_digit b ≡ true → NoDot b
digit_no_dot b h = grind (arith, nat_tests, h)

digits_no_dot : (digits : List ℕ) → all_ascii_digits digits ≡ true → All NoDot digits
digits_no_dot [] h = All-nil NoDot
digits_no_dot (b ∷ rest) h = All-cons NoDot b rest (digit_no_dot b (and_left _ _ h)) (digits_no_dot rest (and_right (is_ascii_digit b) _ h))

decimal_no_dot : (n : ℕ) → n < 2 ^ 32 → All NoDot (decimal n)
decimal_no_dot n h = digits_no_dot (decimal n) (digits_decimal own n (omega arith))

-- each number is below 2^32
abbrev pub IsSmall : List ℕ → Type 0
IsSmall [] = Unit {0}
IsSmall (n ∷ rest) = (n < 2 ^ 32) × IsSmall rest

small_numbers : (numbers bytes : List ℕ) → WriteNumbers numbers bytes → IsSmall numbers
small_numbers [] bytes w = tt
small_numbers (n ∷ numbers) bytes w = (w.3.small, small_numbers numbers w.1 w.4)

-- the words of a dotted text are its arcs
words-dotted : (a : ℕ) (rest : List ℕ) → a < 2 ^ 32 → IsSmall rest → arc_words (dotted (a ∷ rest)) ≡ map decimal (a ∷ rest)
words-dotted a [] small smalls = slice_split_none (λ b. b == 46) (decimal a) (decimal_no_dot a small)
words-dotted a (b ∷ rest) small smalls =
    slice_split_at (λ c. c == 46) (decimal a) 46 (dotted (b ∷ rest)) (decimal_no_dot a small) refl
    ∙ ap (λ r. decimal a ∷ r) (words-dotted b rest smalls.0 smalls.1)

if_true : {A : Type 0} (b : Bool) (x y : A) → b ≡ true → (if b then x else y) ≡ x
if_true true x y h = refl
if_true false x y h = cc

arc_number-decimal : (n : ℕ) → n < 2 ^ 32 → arc_number (decimal n) ≡ Ok n
arc_number-decimal n small =
    let value : number_of (decimal n) ≡ n = number_of-decimal n small in
    let fits : nat_lt (number_of (decimal n)) (2 ^ 32) ≡ true = grind (arith, nat_tests, value, small) in
    if_true _ _ _ (arc-decimal n small) ∙ if_true _ _ _ fits ∙ ap Ok value

later-decimal : (numbers : List ℕ) → IsSmall numbers → later_numbers (map decimal numbers) ≡ Ok numbers
later-decimal [] smalls = refl
later-decimal (n ∷ numbers) smalls =
    ap (λ r. before r (later_numbers (map decimal numbers))) (arc_number-decimal n smalls.0) ∙ ap (before (Ok n)) (later-decimal numbers smalls.1)

both : (x y : Bool) → x ≡ true → y ≡ true → (x && y) ≡ true
both true y h k = k
both false y h k = cc

second-decimal : (a b : ℕ) (words : List (List ℕ)) → a ≤ 2 → (a < 2 → b ≤ 39) → 40 * a + b < 2 ^ 32 → second_number a (decimal b ∷ words) ≡ Ok (40 * a + b, words)
second-decimal a b words a_fits b_fits small =
    let value : number_of (decimal b) ≡ b = number_of-decimal b (omega arith) in
    let arc : is_arc (decimal b) ≡ true = arc-decimal b (omega arith) in
    let bound : (a == 2 || nat_le (number_of (decimal b)) 39) ≡ true = ap (λ n. a == 2 || nat_le n 39) value ∙ in_bounds a b a_fits b_fits in
    let sum : nat_lt (40 * a + number_of (decimal b)) (2 ^ 32) ≡ true = ap (λ n. nat_lt (40 * a + n) (2 ^ 32)) value ∙ below (40 * a + b) small in
    if_true _ _ _ (both _ _ arc bound) ∙ if_true _ _ _ sum ∙ ap (λ n. reading.read_pair (40 * a + n) words) value
  where
    in_bounds : (a b : ℕ) → a ≤ 2 → (a < 2 → b ≤ 39) → (a == 2 || nat_le b 39) ≡ true
    in_bounds a b h k = grind (arith, nat_tests)

    below : (n : ℕ) → n < 2 ^ 32 → nat_lt n (2 ^ 32) ≡ true
    below n h = grind (arith, nat_tests)

first-decimal : (a b : ℕ) (words : List (List ℕ)) → a ≤ 2 → (a < 2 → b ≤ 39) → 40 * a + b < 2 ^ 32 → first_number (decimal a ∷ decimal b ∷ words) ≡ Ok (40 * a + b, words)
first-decimal a b words a_fits b_fits small =
    let value : number_of (decimal a) ≡ a = number_of-decimal a (omega arith) in
    let arc : is_arc (decimal a) ≡ true = arc-decimal a (omega arith) in
    let bound : nat_le (number_of (decimal a)) 2 ≡ true = ap (λ n. nat_le n 2) value ∙ within a a_fits in
    if_true _ _ _ (both _ _ arc bound) ∙ ap (λ n. second_number n (decimal b ∷ words)) value ∙ second-decimal a b words a_fits b_fits small
  where
    within : (n : ℕ) → n ≤ 2 → nat_le n 2 ≡ true
    within n h = grind (arith, nat_tests)

-- the text of an object identifier is read as its numbers
pub text_read : (oid text : List ℕ) → IsOidText oid text → (numbers : List ℕ) × (numbers_of_text text ≡ Ok numbers) × WriteNumbers numbers oid
text_read oid text t =
    let o = t.1 in
    let smalls = small_numbers ((40 * o.a + o.b) ∷ o.rest) oid o.bytes_are in
    let sum : 40 * o.a + o.b < 2 ^ 32 = smalls.0 in
    let a_fits : o.a ≤ 2 = o.a_fits in
    let b_small : o.b < 2 ^ 32 = omega (arith, sum) in
    let a_small : o.a < 2 ^ 32 = omega (arith, a_fits) in
    let words : arc_words text ≡ decimal o.a ∷ decimal o.b ∷ map decimal o.rest = ap arc_words (t.2 ∙ ap dotted o.arcs_are) ∙ words-dotted o.a (o.b ∷ o.rest) a_small (b_small, smalls.1) in (
      (40 * o.a + o.b) ∷ o.rest,
      ap (λ w. from_first (first_number w)) words
          ∙ ap from_first (first-decimal o.a o.b (map decimal o.rest) o.a_fits o.b_fits sum)
          ∙ ap (before (Ok (40 * o.a + o.b))) (later-decimal o.rest smalls.1),
      o.bytes_are,
    )

-- a number before others that were read
pub record Before (n : ℕ) (rest : Result (List ℕ) OidFault) (numbers : List ℕ) : Type 0 where
  pub later : List ℕ
  pub read : rest ≡ Ok later
  pub numbers_are : numbers ≡ n ∷ later

ok_list : (a b : List ℕ) → ◌≡◌ {A = Result (List ℕ) OidFault} (Ok a) (Ok b) → a ≡ b
ok_list a b h = cc

before_parts : (n : ℕ) (rest : Result (List ℕ) OidFault) (numbers : List ℕ) → before (Ok n) rest ≡ Ok numbers → Before n rest numbers
before_parts n (Ok later) numbers h = record { later = later; read = refl; numbers_are = sym (ok_list (n ∷ later) numbers h) }
before_parts n (Err fault) numbers h = cc

lt_from : (a b : ℕ) → nat_lt a b ≡ true → a < b
lt_from a b h = grind (arith, nat_tests)

le_from : (a b : ℕ) → nat_le a b ≡ true → a ≤ b
le_from a b h = grind (arith, nat_tests)

-- words that are read as arcs are those arcs in decimal
later_words : (words : List (List ℕ)) (numbers : List ℕ) → later_numbers words ≡ Ok numbers → words ≡ map decimal numbers
later_words [] numbers h = ap (map decimal) (ok_list [] numbers h)
later_words (word ∷ words) numbers h = by_tests (is_arc word) (nat_lt (number_of word) (2 ^ 32)) refl refl h (later_words words)
  where
    by_tests : (arc fits : Bool) → is_arc word ≡ arc → nat_lt (number_of word) (2 ^ 32) ≡ fits
        → before (if arc then (if fits then Ok (number_of word) else Err ArcTooLarge) else Err BadArc) (later_numbers words) ≡ Ok numbers
        → ((rest : List ℕ) → later_numbers words ≡ Ok rest → words ≡ map decimal rest)
        → word ∷ words ≡ map decimal numbers
    by_tests false fits a f g again = cc
    by_tests true false a f g again = cc
    by_tests true true a f g again =
        let parts = before_parts (number_of word) (later_numbers words) numbers g in
        ap (λ w. w ∷ words) (sym (decimal-arc word a (lt_from _ _ f)))
        ∙ ap (λ ws. decimal (number_of word) ∷ ws) (again parts.later parts.read)
        ∙ ap (map decimal) (sym parts.numbers_are)

-- what words are read as
abbrev pub ReadWords : List (List ℕ) → List ℕ → Type 0
ReadWords words bytes = (arcs : List ℕ) × IsOid arcs bytes × (words ≡ map decimal arcs)

second_bound : (a b : ℕ) → (a == 2 || nat_le b 39) ≡ true → a < 2 → b ≤ 39
second_bound a b h low = grind (arith, nat_tests)

found_second : (word : List ℕ) (words : List (List ℕ)) (numbers bytes : List ℕ) → is_arc word ≡ true → number_of word ≤ 2
    → from_first (second_number (number_of word) words) ≡ Ok numbers → WriteNumbers numbers bytes → ReadWords (word ∷ words) bytes
found_second word [] numbers bytes arc low h w = cc
found_second word (next ∷ words) numbers bytes arc low h w =
    by_tests (is_arc next && (number_of word == 2 || nat_le (number_of next) 39)) (nat_lt (40 * number_of word + number_of next) (2 ^ 32)) refl refl h
  where
    by_tests : (good fits : Bool) → (is_arc next && (number_of word == 2 || nat_le (number_of next) 39)) ≡ good → nat_lt (40 * number_of word + number_of next) (2 ^ 32) ≡ fits
        → from_first (if good then (if fits then Ok (40 * number_of word + number_of next, words) else Err ArcTooLarge) else Err BadArc) ≡ Ok numbers
        → ReadWords (word ∷ next ∷ words) bytes
    by_tests false fits g f k = cc
    by_tests true false g f k = cc
    by_tests true true g f k =
        let parts = before_parts (40 * number_of word + number_of next) (later_numbers words) numbers k in
        let sum : 40 * number_of word + number_of next < 2 ^ 32 = lt_from _ _ f in
        let bound : number_of word < 2 → number_of next ≤ 39 = second_bound _ _ (and_right (is_arc next) _ g) in
        let first : word ≡ decimal (number_of word) = sym (decimal-arc word arc (omega arith)) in
        let second : next ≡ decimal (number_of next) = sym (decimal-arc next (and_left (is_arc next) _ g) (omega arith)) in (
          number_of word ∷ number_of next ∷ parts.later,
          oid_of_arcs (number_of word) (number_of next) (40 * number_of word + number_of next) parts.later bytes low bound refl (subst (λ (ns : List ℕ). WriteNumbers ns bytes) parts.numbers_are w),
          ap (λ x. x ∷ next ∷ words) first ∙ ap (λ x. decimal (number_of word) ∷ x ∷ words) second ∙ ap (λ ws. decimal (number_of word) ∷ decimal (number_of next) ∷ ws) (later_words words parts.later parts.read),
        )

found_words : (words : List (List ℕ)) (numbers bytes : List ℕ) → from_first (first_number words) ≡ Ok numbers → WriteNumbers numbers bytes → ReadWords words bytes
found_words [] numbers bytes h w = cc
found_words (word ∷ words) numbers bytes h w = by_test (is_arc word && nat_le (number_of word) 2) refl h
  where
    by_test : (good : Bool) → (is_arc word && nat_le (number_of word) 2) ≡ good → from_first (if good then second_number (number_of word) words else Err BadArc) ≡ Ok numbers → ReadWords (word ∷ words) bytes
    by_test false g k = cc
    by_test true g k = found_second word words numbers bytes (and_left (is_arc word) _ g) (le_from _ _ (and_right (is_arc word) _ g)) k w

-- what is read is what the text is
pub read_text : (text numbers bytes : List ℕ) → numbers_of_text text ≡ Ok numbers → WriteNumbers numbers bytes → IsOidText bytes text
read_text text numbers bytes h w =
    let words = found_words (arc_words text) numbers bytes h w in
    (words.0, words.1, sym (join_with_byte-slice_split 46 text) ∙ ap (join_with_byte 46) words.2)

-- a text is that of one object identifier
pub one_oid : (text a b : List ℕ) → IsOidText a text → IsOidText b text → a ≡ b
one_oid text a b s t =
    let read_a = text_read a text s in
    let read_b = text_read b text t in
    let same : read_a.0 ≡ read_b.0 = ok_list read_a.0 read_b.0 (sym read_a.1 ∙ read_b.1) in
    same_list read_b.0 a b (subst (λ (ns : List ℕ). WriteNumbers ns a) same read_a.2) read_b.2

first_of : List ℕ → ℕ
first_of [] = 0
first_of (n ∷ rest) = n

rest_of : List ℕ → List ℕ
rest_of [] = []
rest_of (n ∷ rest) = rest

-- an object identifier has one text
pub one_text : (oid s t : List ℕ) → IsOidText oid s → IsOidText oid t → s ≡ t
unfolding first_of rest_of
one_text oid s t h k =
    let o = h.1 in
    let p = k.1 in
    let same : (40 * o.a + o.b) ∷ o.rest ≡ (40 * p.a + p.b) ∷ p.rest = same_numbers _ _ oid o.bytes_are p.bytes_are in
    let sums : 40 * o.a + o.b ≡ 40 * p.a + p.b = ap first_of same in
    let rests : o.rest ≡ p.rest = ap rest_of same in
    let o_low : o.a ≤ 2 = o.a_fits in
    let p_low : p.a ≤ 2 = p.a_fits in
    let firsts : o.a ≡ p.a = one_split o.a o.b p.a p.b o_low o.b_fits p_low p.b_fits sums in
    let seconds : o.b ≡ p.b = omega (arith, sums, firsts) in
    h.2 ∙ ap dotted (o.arcs_are ∙ ap (λ a. a ∷ o.b ∷ o.rest) firsts ∙ ap (λ b. p.a ∷ b ∷ o.rest) seconds ∙ ap (λ r. p.a ∷ p.b ∷ r) rests ∙ sym p.arcs_are) ∙ sym k.2
  where
    one_split : (a b c d : ℕ) → a ≤ 2 → (a < 2 → b ≤ 39) → c ≤ 2 → (c < 2 → d ≤ 39) → 40 * a + b ≡ 40 * c + d → a ≡ c
    one_split a b c d h k h' k' e = by_tests (nat_lt a 2) (nat_lt c 2) refl refl
      where
        by_tests : (x y : Bool) → nat_lt a 2 ≡ x → nat_lt c 2 ≡ y → a ≡ c
        by_tests true true x y =
            let b_fits : b ≤ 39 = k (lt_from a 2 x) in
            let d_fits : d ≤ 39 = k' (lt_from c 2 y) in
            omega (arith, e, b_fits, d_fits)
        by_tests true false x y =
            let b_fits : b ≤ 39 = k (lt_from a 2 x) in
            let c_is : 2 ≤ c = grind (arith, nat_tests, y) in
            let a_low : a < 2 = lt_from a 2 x in
            omega (arith, e, b_fits, c_is, a_low)
        by_tests false true x y =
            let d_fits : d ≤ 39 = k' (lt_from c 2 y) in
            let a_is : 2 ≤ a = grind (arith, nat_tests, x) in
            let c_low : c < 2 = lt_from c 2 y in
            omega (arith, e, d_fits, a_is, c_low)
        by_tests false false x y =
            let a_is : 2 ≤ a = grind (arith, nat_tests, x) in
            let c_is : 2 ≤ c = grind (arith, nat_tests, y) in
            omega (arith, h, h', a_is, c_is)

memory_or : (fault : OidFault) → (fault ≢ OutOfMemory → ⊥) → fault ≡ OutOfMemory
memory_or OutOfMemory h = refl
memory_or BadArc h = absurd (h (λ e. cc))
memory_or ArcTooLarge h = absurd (h (λ e. cc))
memory_or TooShort h = absurd (h (λ e. cc))

-- the text of an object identifier is refused for memory alone
pub read_only : (r : Result (List ℕ) OidFault) (text : List ℕ) → ReadsNumbers (numbers_of_text text) r → (oid : List ℕ) → IsOidText oid text
    → MatchResult r (λ read. read ≡ oid) (λ fault. fault ≡ OutOfMemory)
read_only (Ok read) text h oid t = one_oid text read oid (read_text text h.0 read h.1 h.2) t
read_only (Err fault) text h oid t =
    let reads = text_read oid text t in
    memory_or fault (λ other. no_both reads.0 fault (sym reads.1 ∙ h other))
  where
    no_both : (ns : List ℕ) (fault : OidFault) → ◌≡◌ {A = Result (List ℕ) OidFault} (Ok ns) (Err fault) → ⊥
    no_both ns fault e = cc

-- digits, byte by byte
digits_suc : (word : List ℕ) (i : ℕ) → i < length word → all_ascii_digits (take i word) ≡ true → is_ascii_digit (get_or word i 0) ≡ true → all_ascii_digits (take (suc i) word) ≡ true
digits_suc [] i h k d = absurd (omega (arith, h))
digits_suc (b ∷ rest) zero h k d = both _ _ d refl
digits_suc (b ∷ rest) (suc i) h k d = both _ _ (and_left (is_ascii_digit b) _ k) (digits_suc rest i (omega arith) (and_right (is_ascii_digit b) _ k) d)

pub digits_more : (word : List ℕ) (i : ℕ) → i < length word → all_ascii_digits (take i word) ≡ true → is_ascii_digit (get_or word i 0) ≡ true → all_ascii_digits (take (i + 1) word) ≡ true
digits_more word i h k d = rw add-one (digits_suc word i h k d)

pub no_digit : (word : List ℕ) (i : ℕ) → i < length word → is_ascii_digit (get_or word i 0) ≡ false → all_ascii_digits word ≡ false
no_digit [] i h d = absurd (omega (arith, h))
no_digit (b ∷ rest) zero h d = ap (λ t. t && all_ascii_digits rest) d
no_digit (b ∷ rest) (suc i) h d = ap (λ t. is_ascii_digit b && t) (no_digit rest i (omega arith) d) ∙ and_false (is_ascii_digit b)
  where
    and_false : (b : Bool) → (b && false) ≡ false
    and_false true = refl
    and_false false = refl

value_suc : (word : List ℕ) (i n : ℕ) → i < length word → value_from n (take (suc i) word) ≡ 10 * value_from n (take i word) + (get_or word i 0 - 48)
value_suc [] i n h = absurd (omega (arith, h))
value_suc (b ∷ rest) zero n h = refl
value_suc (b ∷ rest) (suc i) n h = value_suc rest i (10 * n + (b - 48)) (omega arith)

pub value_more : (word : List ℕ) (i : ℕ) → i < length word → number_of (take (i + 1) word) ≡ 10 * number_of (take i word) + (get_or word i 0 - 48)
value_more word i h = rw add-one (value_suc word i 0 h)

-- a text at its first dot
at_dot : (text : List ℕ) (i : ℕ) → i < length text → get_or text i 0 ≡ 46 → text ≡ take i text ++ 46 ∷ drop (suc i) text
at_dot [] i h k = absurd (omega (arith, h))
at_dot (b ∷ rest) zero h k = ap (λ c. c ∷ rest) k
at_dot (b ∷ rest) (suc i) h k = ap (λ r. b ∷ r) (at_dot rest i (omega arith) k)

split_at_dot : (text : List ℕ) (i : ℕ) → i < length text → get_or text i 0 ≡ 46 → text ≡ take i text ++ 46 ∷ drop (i + 1) text
split_at_dot text i h k = at_dot text i h k ∙ ap (λ n. take i text ++ 46 ∷ drop n text) (sym (add-one i))

pub words_at_dot : (text front back : List ℕ) (i : ℕ) → i < length text → get_or text i 0 ≡ 46 → All NoDot (take i text) → front ≡ take i text → back ≡ drop (i + 1) text
    → arc_words text ≡ front ∷ arc_words back
words_at_dot text front back i h k none f b =
    ap arc_words (split_at_dot text i h k)
    ∙ slice_split_at (λ c. c == 46) (take i text) 46 (drop (i + 1) text) none refl
    ∙ ap (λ r. r ∷ arc_words (drop (i + 1) text)) (sym f)
    ∙ ap (λ r. front ∷ arc_words r) (sym b)

pub one_word : (text : List ℕ) → All NoDot text → arc_words text ≡ text ∷ []
one_word text none = slice_split_none (λ c. c == 46) text none

-- arcs behind the first
pub join-dotted : (first : List ℕ) (rest : List ℕ) → join_with_byte 46 (first ∷ map decimal rest) ≡ first ++ flat_map dotted_arc rest
join-dotted first [] = sym (append-nil first)
  where
    append-nil : (xs : List ℕ) → xs ++ [] ≡ xs
    append-nil [] = refl
    append-nil (x ∷ xs) = ap (λ r. x ∷ r) (append-nil xs)
join-dotted first (n ∷ rest) = ap (λ r. first ++ 46 ∷ r) (join-dotted (decimal n) rest)

-- one more arc was written
pub arc_written : (old now text_1 text_2 : List ℕ) (ns bytes after : List ℕ) (n : ℕ) → reading.septets_at bytes ≡ Some (n, after)
    → text_1 ≡ now ++ 46 ∷ [] → text_2 ≡ text_1 ++ decimal n
    → (ms : List ℕ) × WriteNumbers ms bytes × (old ++ flat_map dotted_arc ns ≡ now ++ flat_map dotted_arc ms)
    → (ms : List ℕ) × WriteNumbers ms after × (old ++ flat_map dotted_arc ns ≡ text_2 ++ flat_map dotted_arc ms)
arc_written old now text_1 text_2 ns bytes after n read e f so_far =
    let next = numbers_next so_far.0 n bytes after so_far.1 read in (
      next.0,
      next.2,
      so_far.2
          ∙ ap (λ ms. now ++ flat_map dotted_arc ms) next.1
          ∙ sym (append_assoc now (dotted_arc n) (flat_map dotted_arc next.0))
          ∙ ap (λ t. t ++ flat_map dotted_arc next.0) (sym (f ∙ ap (λ t. t ++ decimal n) e ∙ append_assoc now (46 ∷ []) (decimal n))),
    )

pub arcs_written : (old now ns bytes : List ℕ) → reading.septets_at bytes ≡ None
    → (ms : List ℕ) × WriteNumbers ms bytes × (old ++ flat_map dotted_arc ns ≡ now ++ flat_map dotted_arc ms)
    → now ≡ old ++ flat_map dotted_arc ns
arcs_written old now ns bytes none so_far =
    let end = numbers_end so_far.0 bytes so_far.1 none in
    sym (so_far.2 ∙ ap (λ ms. now ++ flat_map dotted_arc ms) end.0 ∙ append-nil now)
  where
    append-nil : (xs : List ℕ) → xs ++ [] ≡ xs
    append-nil [] = refl
    append-nil (x ∷ xs) = ap (λ r. x ∷ r) (append-nil xs)

-- an object identifier begins with a number
pub no_first : (bytes : List ℕ) → IsOidBytes bytes → reading.septets_at bytes ≡ None → ⊥
no_first bytes oid none = oid_some bytes oid (has_end bytes none (oid_numbers bytes oid))

-- the whole text was written
pub oid_written : (bytes rest old text_1 text_2 : List ℕ) (n : ℕ) → IsOidBytes bytes → reading.septets_at bytes ≡ Some (n, rest)
    → text_1 ≡ old ++ (decimal (first_arc n) ++ 46 ∷ decimal (n - 40 * first_arc n))
    → ((numbers : List ℕ) → WriteNumbers numbers rest → text_2 ≡ text_1 ++ flat_map dotted_arc numbers)
    → (arcs : List ℕ) × IsOid arcs bytes × (text_2 ≡ old ++ dotted arcs)
oid_written bytes rest old text_1 text_2 n oid read e f =
    let has = oid_numbers bytes oid in
    let next = numbers_next has.0 n bytes rest has.1 read in
    let first : List ℕ = decimal (first_arc n) in
    let second : List ℕ = decimal (n - 40 * first_arc n) in (
      first_arc n ∷ (n - 40 * first_arc n) ∷ next.0,
      oid_of_numbers n next.0 bytes (subst (λ (ns : List ℕ). WriteNumbers ns bytes) next.1 has.1),
      f next.0 next.2
          ∙ ap (λ t. t ++ flat_map dotted_arc next.0) e
          ∙ append_assoc old (first ++ 46 ∷ second) (flat_map dotted_arc next.0)
          ∙ ap (λ t. old ++ t) (append_assoc first (46 ∷ second) (flat_map dotted_arc next.0) ∙ ap (λ t. first ++ 46 ∷ t) (sym (join-dotted second next.0))),
    )

-- a text whose bytes so far are all of it
pub one_word_when : (text : List ℕ) (i : ℕ) → length text ≤ i → All NoDot (take i text) → arc_words text ≡ text ∷ []
one_word_when text i h none = one_word text (subst (All NoDot) (take_whole text i h) none)
  where
    take_whole : (xs : List ℕ) (i : ℕ) → length xs ≤ i → take i xs ≡ xs
    take_whole [] zero h = refl
    take_whole [] (suc i) h = refl
    take_whole (x ∷ xs) zero h = absurd (omega (arith, h))
    take_whole (x ∷ xs) (suc i) h = ap (λ r. x ∷ r) (take_whole xs i (omega arith))

-- the capped value with one more digit
pub capped_more : (word : List ℕ) (i value more digit : ℕ) → i < length word → digit ≡ get_or word i 0 - 48 → value ≡ min (number_of (take i word)) (2 ^ 32) → more ≡ min (10 * value + digit) (2 ^ 32)
    → more ≡ min (number_of (take (i + 1) word)) (2 ^ 32)
capped_more word i value more digit h d v m = let next = value_more word i h in omega (arith, next, d, v, m)

WriteNumbers-append : (ns ms a b : List ℕ) → WriteNumbers ns a → WriteNumbers ms b → WriteNumbers (ns ++ ms) (a ++ b)
WriteNumbers-append [] ms a b w v = subst (WriteNumbers ms) (ap (λ xs. xs ++ b) (sym w)) v
WriteNumbers-append (n ∷ ns) ms a b w v = (w.0, w.1 ++ b, ap (λ xs. xs ++ b) w.2 ∙ append_assoc w.0 w.1 b, w.3, WriteNumbers-append ns ms w.1 b w.4 v)

append-nil : (xs : List ℕ) → xs ++ [] ≡ xs
append-nil [] = refl
append-nil (x ∷ xs) = ap (λ r. x ∷ r) (append-nil xs)

one_number : (n : ℕ) (bytes : List ℕ) → WritesNumber n bytes → WriteNumbers (n ∷ []) bytes
one_number n bytes w = (bytes, [], sym (append-nil bytes), w, refl)

before_all-before : (done : List ℕ) (n : ℕ) (rest : Result (List ℕ) OidFault) → before_all done (before (Ok n) rest) ≡ before_all (done ++ n ∷ []) rest
before_all-before done n (Ok rest) = ap Ok (sym (append_assoc done (n ∷ []) rest))
before_all-before done n (Err fault) = refl

-- one more number was appended
pub pushing_more : (old now new : List ℕ) (all : Result (List ℕ) OidFault) (text word : List ℕ) (words : List (List ℕ)) (n : ℕ)
    → Pushing old now all (later_numbers (arc_words text)) → arc_words text ≡ word ∷ words → arc_number word ≡ Ok n → (bytes : List ℕ) × WritesNumber n bytes × (new ≡ now ++ bytes)
    → Pushing old new all (later_numbers words)
pushing_more old now new all text word words n p w read pushed = record {
  done = p.done ++ n ∷ [];
  bytes = p.bytes ++ pushed.0;
  written = WriteNumbers-append p.done (n ∷ []) p.bytes pushed.0 p.written (one_number n pushed.0 pushed.1);
  so_far = pushed.2 ∙ ap (λ t. t ++ pushed.0) p.so_far ∙ append_assoc old p.bytes pushed.0;
  behind =
      p.behind
      ∙ ap (λ ws. before_all p.done (later_numbers ws)) w
      ∙ ap (λ r. before_all p.done (before r (later_numbers words))) read
      ∙ before_all-before p.done n (later_numbers words);
}

-- the first number and the later ones
pub all_read : (text : List ℕ) (n : ℕ) (words : List (List ℕ)) (new_0 new_1 new_2 : List ℕ) → first_number (arc_words text) ≡ Ok (n, words) → new_0 ≡ []
    → (bytes : List ℕ) × WritesNumber n bytes × (new_1 ≡ new_0 ++ bytes)
    → (read bytes : List ℕ) × (later_numbers words ≡ Ok read) × WriteNumbers read bytes × (new_2 ≡ new_1 ++ bytes)
    → (read : List ℕ) × (numbers_of_text text ≡ Ok read) × WriteNumbers read new_2
all_read text n words new_0 new_1 new_2 first empty one more = (
  n ∷ more.0,
  ap from_first first ∙ ap (before (Ok n)) more.2,
  (one.0, more.1, more.4 ∙ ap (λ t. t ++ more.1) (one.2 ∙ ap (λ t. t ++ one.0) empty), one.1, more.3),
)

-- what the public call holds
pub held_text : (text bytes oid : List ℕ) → oid ≡ bytes → ReadsNumbers (numbers_of_text text) (Ok bytes) → IsOidText oid text
held_text text bytes oid same h = subst (λ (o : List ℕ). IsOidText o text) (sym same) (read_text text h.0 bytes h.1 h.2)

pub held_bytes : (text bytes oid : List ℕ) → oid ≡ bytes → ReadsNumbers (numbers_of_text text) (Ok bytes) → IsOidBytes oid
held_bytes text bytes oid same h =
    let t = held_text text bytes oid same h in
    (t.0, t.1)

pub held_only : (text bytes oid : List ℕ) → oid ≡ bytes → ReadsNumbers (numbers_of_text text) (Ok bytes) → (other : List ℕ) → IsOidText other text → oid ≡ other
held_only text bytes oid same h other t = one_oid text oid other (held_text text bytes oid same h) t
