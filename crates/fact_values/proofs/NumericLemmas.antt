-- Runs of digits: how they are cut from a text, and how the order of their numbers shows in the bytes.
use Rattle.std.proofs.Common.{◌≡◌, ◌≢◌, ℕ, zero, suc, ◌+◌, ◌*◌, ◌-◌, ◌<◌, ◌≤◌, Bool, true, false, ◌==◌, ◌&&◌, nat_le, if◌then◌else◌, List, [], ◌∷◌, ◌++◌, length, take, drop, refl, sym, ap, ◌∙◌, arith, slice_index, min, ◌⊎◌, inl, inr}
use Rattle.std.proofs.lemmas.List.{take-append-drop, append-nil}
use Rattle.std.proofs.Math.Seq.{take-length, drop-length}
use Rattle.std.proofs.lemmas.Bool.Decides.{nat_tests}
use Rattle.std.proofs.lemmas.Cmp.{ranked, by_ranked}
use Rattle.std.specs.List.{fold, list_all}
use Rattle.std.specs.Cmp.Lexicographic.{slice_cmp}
use Rattle.std.specs.Ordering.{nat_cmp, ordering_then}
use Rattle.std.specs.declared.cmp.Ordering.{Ordering}
use Rattle.std.specs.declared.cmp.Ordering.TheVariants.{Less, Equal, Greater}
use Rattle.req_tree.specs.NumericOrder.{Item, run, other, is_digit, with_digit, items, number_of, items_cmp, numeric_order}
use Rattle.fact_values.specs.Pieces.{piece_item, is_piece}

-- the number after a part of it
abbrev pub number_from : ℕ → List ℕ → ℕ
number_from n digits = fold (λ n b. 10 * n + (b - 48)) n digits

-- each is a digit, head by head
abbrev pub IsDigits : List ℕ → Type 0
IsDigits [] = Unit {0}
IsDigits (b ∷ rest) = (48 ≤ b) × (b ≤ 57) × IsDigits rest

digit_bounds : (b : ℕ) → is_digit b ≡ true → (48 ≤ b) × (b ≤ 57)
digit_bounds b h = (grind (arith, nat_tests), grind (arith, nat_tests))

and_left : (a b : Bool) → (a && b) ≡ true → a ≡ true
and_left true b h = refl
and_left false b h = h

pub and_right : (a b : Bool) → (a && b) ≡ true → b ≡ true
and_right true b h = h
and_right false b h = cc

-- what the test of all digits says
pub digits_of : (xs : List ℕ) → list_all is_digit xs ≡ true → IsDigits xs
digits_of [] h = tt
digits_of (x ∷ xs) h =
    let first = digit_bounds x (and_left (is_digit x) (list_all is_digit xs) h) in
    (first.0, first.1, digits_of xs (and_right (is_digit x) (list_all is_digit xs) h))

-- of two numbers with as many digits to come the one that is less stays less
pub below : (m n : ℕ) (xs ys : List ℕ) → IsDigits xs → IsDigits ys → length xs ≡ length ys → m < n → number_from m xs < number_from n ys
below m n [] [] p q e h = h
below m n [] (y ∷ ys) p q e h = absurd (omega arith)
below m n (x ∷ xs) [] p q e h = absurd (omega arith)
below m n (x ∷ xs) (y ∷ ys) p q e h =
    below (10 * m + (x - 48)) (10 * n + (y - 48)) xs ys p.2 q.2 (omega arith) (omega (arith, p.0, p.1, q.0, q.1))

le_split : (t : Bool) (a b : ℕ) → nat_le a b ≡ t → a ≤ b + 1 → (a ≤ b) ⊎ (a ≡ b + 1)
le_split true a b e h = inl (grind (arith, nat_tests))
le_split false a b e h = inr (grind (arith, nat_tests))

-- a number that has begun is greater than one with no more digits than are to come
pub ahead : (n : ℕ) (xs ys : List ℕ) → IsDigits xs → IsDigits ys → 0 < n → length xs ≤ length ys → number_from 0 xs < number_from n ys
ahead n [] [] p q h k = h
ahead n (x ∷ xs) [] p q h k = absurd (omega arith)
ahead n xs (y ∷ ys) p q h k =
    elim (le_split (nat_le (length xs) (length ys)) (length xs) (length ys) refl (omega arith)) [
      | inl less ↦ ahead (10 * n + (y - 48)) xs ys p q.2 (omega arith) less
      | inr same ↦ below 0 n xs (y ∷ ys) p q (omega arith) h
    ]

-- the shorter of two runs without zeros in front has the lesser number
pub shorter_is_less : (xs ys : List ℕ) → IsDigits xs → IsDigits ys → slice_index ys 0 ≢ 48 → length xs < length ys → number_of xs < number_of ys
shorter_is_less xs [] p q z h = absurd (omega arith)
shorter_is_less xs (y ∷ ys) p q z h =
    let other_than : y ≢ 48 = z in
    ahead (10 * 0 + (y - 48)) xs ys p q.2 (omega (arith, q.0)) (omega arith)

pub cmp_less : (a b : ℕ) → a < b → nat_cmp a b ≡ Less
cmp_less a b h = grind (arith, nat_tests)

pub cmp_equal : (a : ℕ) → nat_cmp a a ≡ Equal
cmp_equal a = grind (arith, nat_tests)

pub cmp_greater : (a b : ℕ) → b < a → nat_cmp a b ≡ Greater
cmp_greater a b h = grind (arith, nat_tests)

-- runs of one length compare as their bytes do
pub bytes_decide : (n : ℕ) (xs ys : List ℕ) → IsDigits xs → IsDigits ys → length xs ≡ length ys → slice_cmp nat_cmp xs ys ≡ nat_cmp (number_from n xs) (number_from n ys)
bytes_decide n [] [] p q e = sym (cmp_equal n)
bytes_decide n [] (y ∷ ys) p q e = absurd (omega arith)
bytes_decide n (x ∷ xs) [] p q e = absurd (omega arith)
bytes_decide n (x ∷ xs) (y ∷ ys) p q e =
    let m : ℕ = 10 * n + (x - 48) in
    let k : ℕ = 10 * n + (y - 48) in
    by_ranked (x < y) (x ≡ y) (y < x) (nat_cmp x y) (ranked x y _ refl)
    (λ o less. ap (λ r. ordering_then r (slice_cmp nat_cmp xs ys)) o ∙ sym (cmp_less _ _ (below m k xs ys p.2 q.2 (omega arith) (omega (arith, p.0, q.0)))))
    (λ o same. ap (λ r. ordering_then r (slice_cmp nat_cmp xs ys)) o ∙ bytes_decide m xs ys p.2 q.2 (omega arith) ∙ ap (λ b. nat_cmp (number_from m xs) (number_from (10 * n + (b - 48)) ys)) same)
    (λ o more. ap (λ r. ordering_then r (slice_cmp nat_cmp xs ys)) o ∙ sym (cmp_greater _ _ (below k m ys xs q.2 p.2 (omega arith) (omega (arith, p.0, q.0)))))

-- no digit stands at the front
abbrev pub StartsPlain : List ℕ → Type 0
StartsPlain [] = Unit {0}
StartsPlain (b ∷ rest) = is_digit b ≡ false

lone_digit : (t : Bool) (b c : ℕ) (x y : List Item) → t ≡ false → with_digit b (if t then x else other c ∷ y) ≡ run (b ∷ []) ∷ (if t then x else other c ∷ y)
lone_digit true b c x y h = cc
lone_digit false b c x y h = refl

run_ends : (b : ℕ) (rest : List ℕ) → StartsPlain rest → with_digit b (items rest) ≡ run (b ∷ []) ∷ items rest
run_ends b [] h = refl
run_ends b (c ∷ rest) h = lone_digit (is_digit c) b c _ (items rest) h

when_true : {A : Type 0} (t : Bool) (x y : A) → t ≡ true → (if t then x else y) ≡ x
when_true true x y h = refl
when_true false x y h = cc

when_false : {A : Type 0} (t : Bool) (x y : A) → t ≡ false → (if t then x else y) ≡ y
when_false true x y h = cc
when_false false x y h = refl

-- a run that ends where a plain byte or nothing follows is one item
pub items-run : (b : ℕ) (front rest : List ℕ) → list_all is_digit (b ∷ front) ≡ true → StartsPlain rest → items (b ∷ (front ++ rest)) ≡ run (b ∷ front) ∷ items rest
items-run b [] rest h p = when_true (is_digit b) _ _ (and_left (is_digit b) _ h) ∙ run_ends b rest p
items-run b (c ∷ front) rest h p =
    when_true (is_digit b) _ _ (and_left (is_digit b) _ h) ∙ ap (with_digit b) (items-run c front rest (and_right (is_digit b) _ h) p)

plain_at : (xs : List ℕ) (at : ℕ) → is_digit (slice_index xs at) ≡ false → StartsPlain (drop at xs)
plain_at [] zero h = tt
plain_at [] (suc at) h = tt
plain_at (x ∷ xs) zero h = h
plain_at (x ∷ xs) (suc at) h = plain_at xs at h

-- a text whose first bytes are a run, and what follows them
cut_run : (text : List ℕ) (at : ℕ) → 0 < length text → list_all is_digit (take (suc at) text) ≡ true → StartsPlain (drop (suc at) text)
    → items text ≡ piece_item (take (suc at) text) ∷ items (drop (suc at) text)
cut_run [] at some h p = absurd (omega arith)
cut_run (b ∷ rest) at some h p =
    let parts : take at rest ++ drop at rest ≡ rest = take-append-drop at rest in
    let one : items (b ∷ (take at rest ++ drop at rest)) ≡ run (b ∷ take at rest) ∷ items (drop at rest) = items-run b (take at rest) (drop at rest) h p in
    ap (λ r. items (b ∷ r)) (sym parts) ∙ one ∙ ap (λ i. i ∷ items (drop at rest)) (sym (when_true (is_digit b) (run (b ∷ take at rest)) (other b) (and_left (is_digit b) _ h)))

-- the run ends before a byte that is no digit
pub cut_before : (text front back : List ℕ) (at : ℕ) → 0 < length text → list_all is_digit (take at text) ≡ true
    → is_digit (slice_index text 0) ≡ true → is_digit (slice_index text at) ≡ false → front ≡ take at text → back ≡ drop at text
    → items text ≡ piece_item front ∷ items back
cut_before text front back zero some h first stop f k = absurd (cc)
cut_before text front back (suc at) some h first stop f k =
    cut_run text at some h (plain_at text (suc at) stop) ∙ ap (λ r. piece_item r ∷ items (drop (suc at) text)) (sym f) ∙ ap (λ r. piece_item front ∷ items r) (sym k)

all_taken : (text : List ℕ) (at : ℕ) → length text ≤ at → list_all is_digit (take at text) ≡ true → list_all is_digit text ≡ true
all_taken [] at le h = refl
all_taken (b ∷ rest) zero le h = absurd (omega arith)
all_taken (b ∷ rest) (suc at) le h =
    let first : is_digit b ≡ true = and_left (is_digit b) _ h in
    let others : list_all is_digit rest ≡ true = all_taken rest at (omega arith) (and_right (is_digit b) _ h) in
    ap (λ t. t && list_all is_digit rest) first ∙ others

-- the run is the whole text
pub cut_whole : (text front back : List ℕ) (at : ℕ) → 0 < length text → length text ≤ at → list_all is_digit (take at text) ≡ true
    → front ≡ take (length text) text → back ≡ drop (length text) text → items text ≡ piece_item front ∷ items back
cut_whole [] front back at some le h f k = absurd (omega arith)
cut_whole (b ∷ rest) front back at some le h f k =
    let all : list_all is_digit (b ∷ rest) ≡ true = all_taken (b ∷ rest) at le h in
    let front_is : b ∷ rest ≡ front = sym (f ∙ take-length (b ∷ rest)) in
    let back_is : [] ≡ back = sym (k ∙ drop-length (b ∷ rest)) in
    let parts : rest ++ [] ≡ rest = append-nil rest in
    let one : items (b ∷ (rest ++ [])) ≡ run (b ∷ rest) ∷ items [] = items-run b rest [] all tt in
    ap (λ r. items (b ∷ r)) (sym parts) ∙ one ∙ ap (λ i. i ∷ items []) (sym (when_true (is_digit b) (run (b ∷ rest)) (other b) (and_left (is_digit b) _ all)))
    ∙ ap (λ r. piece_item r ∷ items []) front_is ∙ ap (λ r. piece_item front ∷ items r) back_is

piece_of_digits : (xs : List ℕ) → 0 < length xs → list_all is_digit xs ≡ true → is_piece xs ≡ true
piece_of_digits [] some h = absurd (omega arith)
piece_of_digits (b ∷ []) some h = refl
piece_of_digits (b ∷ c ∷ rest) some h = h

pub whole_piece : (text front : List ℕ) (at : ℕ) → 0 < length text → length text ≤ at → list_all is_digit (take at text) ≡ true → front ≡ take (length text) text → is_piece front ≡ true
whole_piece text front at some le h f =
    ap is_piece (f ∙ take-length text) ∙ piece_of_digits text some (all_taken text at le h)

pub runs_tied : (xs ys : List ℕ) (o r : Ordering) → list_all is_digit xs ≡ true → list_all is_digit ys ≡ true
    → o ≡ nat_cmp (length xs) (length ys) → o ≡ Equal → r ≡ slice_cmp nat_cmp xs ys → r ≡ nat_cmp (number_of xs) (number_of ys)
runs_tied xs ys o r p q e tied h =
    let same : length xs ≡ length ys = by_ranked (length xs < length ys) (length xs ≡ length ys) (length ys < length xs) o (ranked _ _ o e)
    (λ is less. cc) (λ is eq. eq) (λ is more. cc) in
    h ∙ bytes_decide 0 xs ys (digits_of xs p) (digits_of ys q) same

pub runs_apart : (xs ys : List ℕ) (o : Ordering) → list_all is_digit xs ≡ true → list_all is_digit ys ≡ true → slice_index xs 0 ≢ 48 → slice_index ys 0 ≢ 48
    → o ≡ nat_cmp (length xs) (length ys) → o ≢ Equal → o ≡ nat_cmp (number_of xs) (number_of ys)
runs_apart xs ys o p q y z e apart =
    by_ranked (length xs < length ys) (length xs ≡ length ys) (length ys < length xs) o (ranked _ _ o e)
    (λ is less. is ∙ sym (cmp_less _ _ (shorter_is_less xs ys (digits_of xs p) (digits_of ys q) z less)))
    (λ is same. absurd (apart is))
    (λ is more. is ∙ sym (cmp_greater _ _ (shorter_is_less ys xs (digits_of ys q) (digits_of xs p) y more)))

some_left : (t : Bool) (b : ℕ) (z : List Item) → Less ≡ items_cmp [] (if t then with_digit b z else other b ∷ z)
some_left true b [] = refl
some_left true b (run digits ∷ z) = refl
some_left true b (other c ∷ z) = refl
some_left false b z = refl

some_right : (t : Bool) (b : ℕ) (z : List Item) → Greater ≡ items_cmp (if t then with_digit b z else other b ∷ z) []
some_right true b [] = refl
some_right true b (run digits ∷ z) = refl
some_right true b (other c ∷ z) = refl
some_right false b z = refl

-- one text has come to its end
pub one_ended : (xs ys : List ℕ) (o : Ordering) (p q : ℕ) → o ≡ nat_cmp p q → p ≡ min (length xs) 1 → q ≡ min (length ys) 1 → (length xs ≡ 0) ⊎ (length ys ≡ 0) → o ≡ numeric_order xs ys
one_ended [] [] o p q e f g h = e ∙ ap (λ n. nat_cmp n q) f ∙ ap (λ n. nat_cmp 0 n) g
one_ended [] (y ∷ ys) o p q e f g h = e ∙ cmp_less p q (omega arith) ∙ some_left (is_digit y) y (items ys)
one_ended (x ∷ xs) [] o p q e f g h = e ∙ cmp_greater p q (omega arith) ∙ some_right (is_digit x) x (items xs)
one_ended (x ∷ xs) (y ∷ ys) o p q e f g (inl h) = absurd (omega arith)
one_ended (x ∷ xs) (y ∷ ys) o p q e f g (inr h) = absurd (omega arith)

pub empty_when : (r : Bool) (xs : List ℕ) → r ≡ (length xs == 0) → r ≡ true → length xs ≡ 0
empty_when r xs e h = grind (arith, nat_tests)
