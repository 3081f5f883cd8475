-- Parentheses that are open, counted from the front, and the definition over all fronts.
use Rattle.std.proofs.Common.{◌≡◌, ℕ, ◌+◌, ◌≤◌, ◌<◌, nat_le, Bool, true, false, cond, List, [], ◌∷◌, ◌++◌, count_by, refl, sym, ap, ◌∙◌, arith, true≢false}
use Rattle.std.proofs.lemmas.Bool.{leb-true, leb-false}
use Rattle.std.proofs.lemmas.List.Sums.{sum_by-append}
use Rattle.req_grammar.specs.declared.limits.TheConstants.{MOST_OPEN_PARENTHESES}
use Rattle.req_grammar.specs.Words as w
use Rattle.req_grammar.specs.Terminals.{Terminal, sign}
use Rattle.req_grammar.specs.Readings.{HasFewOpen, is_left, is_right}
use Rattle.req_parser.specs.Open.{sides, few_open}
use Rattle.req_parser.specs.Failures.{HasManyOpen}

left_is : (t : Terminal) → cond (is_left t) 1 0 ≡ (sides t).0
left_is (sign w.left_paren) = refl
left_is (sign w.right_paren) = refl
left_is other = refl

right_is : (t : Terminal) → cond (is_right t) 1 0 ≡ (sides t).1
right_is (sign w.left_paren) = refl
right_is (sign w.right_paren) = refl
right_is other = refl

left_more : (t : Terminal) (a : List Terminal) → count_by is_left (t ∷ a) ≡ (sides t).0 + count_by is_left a
left_more t a = sum_by-append (λ x. cond (is_left x) 1 0) (t ∷ []) a ∙ ap (λ (n : ℕ). n + count_by is_left a) (zero_more (cond (is_left t) 1 0) ∙ left_is t)
  where
    zero_more : (n : ℕ) → 0 + n ≡ n
    zero_more n = omega arith

right_more : (t : Terminal) (a : List Terminal) → count_by is_right (t ∷ a) ≡ (sides t).1 + count_by is_right a
right_more t a = sum_by-append (λ x. cond (is_right x) 1 0) (t ∷ []) a ∙ ap (λ (n : ℕ). n + count_by is_right a) (zero_more (cond (is_right t) 1 0) ∙ right_is t)
  where
    zero_more : (n : ℕ) → 0 + n ≡ n
    zero_more n = omega arith

abbrev fits : ℕ → ℕ → Bool
fits l r = nat_le l (MOST_OPEN_PARENTHESES + r)

-- too many so far
pub few_stop : (l r : ℕ) (list : List Terminal) → fits l r ≡ false → few_open l r list ≡ false
few_stop l r [] e = e
few_stop l r (first ∷ rest) e = ap (λ (b : Bool). cond b (few_open (l + (sides first).0) (r + (sides first).1) rest) false) e

pub few_on : (l r : ℕ) (first : Terminal) (rest : List Terminal) → fits l r ≡ true → few_open l r (first ∷ rest) ≡ few_open (l + (sides first).0) (r + (sides first).1) rest
few_on l r first rest e = ap (λ (b : Bool). cond b (few_open (l + (sides first).0) (r + (sides first).1) rest) false) e

fits_first : (l r : ℕ) (list : List Terminal) → few_open l r list ≡ true → fits l r ≡ true
fits_first l r list e = by (fits l r) refl
  where
    by : (b : Bool) → fits l r ≡ b → b ≡ true
    by true h = refl
    by false h = absurd (true≢false (sym e ∙ few_stop l r list h))

-- so many of each, and those of a front
few_front : (l r : ℕ) (front more : List Terminal) → few_open l r (front ++ more) ≡ true → l + count_by is_left front ≤ MOST_OPEN_PARENTHESES + (r + count_by is_right front)
few_front l r [] more e = let now : l ≤ MOST_OPEN_PARENTHESES + r = leb-true l (MOST_OPEN_PARENTHESES + r) (fits_first l r more e) in omega (arith, now)
few_front l r (t ∷ front) more e =
    let later : (l + (sides t).0) + count_by is_left front ≤ MOST_OPEN_PARENTHESES + ((r + (sides t).1) + count_by is_right front) =
    few_front (l + (sides t).0) (r + (sides t).1) front more (sym (few_on l r t (front ++ more) (fits_first l r (t ∷ (front ++ more)) e)) ∙ e) in
    omega (arith, later, left_more t front, right_more t front)

pub few_has : (list : List Terminal) → few_open 0 0 list ≡ true → HasFewOpen list
few_has list e front more parts =
    let all : 0 + count_by is_left front ≤ MOST_OPEN_PARENTHESES + (0 + count_by is_right front) =
    few_front 0 0 front more (sym (ap (few_open 0 0) parts) ∙ e) in
    omega (arith, all)

-- a front with too many
record TooMany (l r : ℕ) (list : List Terminal) : Type 0 where
  front : List Terminal
  more : List Terminal
  parts : list ≡ front ++ more
  many : MOST_OPEN_PARENTHESES + (r + count_by is_right front) < l + count_by is_left front

now_many : (l r : ℕ) (list : List Terminal) → fits l r ≡ false → TooMany l r list
now_many l r list e =
    let now : MOST_OPEN_PARENTHESES + r < l = leb-false l (MOST_OPEN_PARENTHESES + r) e in
    let many : MOST_OPEN_PARENTHESES + (r + 0) < l + 0 = omega (arith, now) in
    record { front = []; more = list; parts = refl; many = many }

later_many : (l r : ℕ) (t : Terminal) (rest : List Terminal) → TooMany (l + (sides t).0) (r + (sides t).1) rest → TooMany l r (t ∷ rest)
later_many l r t rest f =
    let later : MOST_OPEN_PARENTHESES + ((r + (sides t).1) + count_by is_right f.front) < (l + (sides t).0) + count_by is_left f.front = f.many in
    let many : MOST_OPEN_PARENTHESES + (r + count_by is_right (t ∷ f.front)) < l + count_by is_left (t ∷ f.front) = omega (arith, later, left_more t f.front, right_more t f.front) in
    record { front = t ∷ f.front; more = f.more; parts = ap (λ (l : List Terminal). t ∷ l) f.parts; many = many }

many_in : (l r : ℕ) (list : List Terminal) → few_open l r list ≡ false → TooMany l r list
many_in l r [] e = now_many l r [] e
many_in l r (t ∷ rest) e = by (λ h. many_in (l + (sides t).0) (r + (sides t).1) rest h) (fits l r) refl
  where
    by : (few_open (l + (sides t).0) (r + (sides t).1) rest ≡ false → TooMany (l + (sides t).0) (r + (sides t).1) rest) → (b : Bool) → fits l r ≡ b → TooMany l r (t ∷ rest)
    by later true h = later_many l r t rest (later (sym (few_on l r t rest h) ∙ e))
    by later false h = now_many l r (t ∷ rest) h

pub many_has : (list : List Terminal) → few_open 0 0 list ≡ false → HasManyOpen list
many_has list e =
    let f : TooMany 0 0 list = many_in 0 0 list e in
    let more : MOST_OPEN_PARENTHESES + (0 + count_by is_right f.front) < 0 + count_by is_left f.front = f.many in
    let many : MOST_OPEN_PARENTHESES + count_by is_right f.front < count_by is_left f.front = omega (arith, more) in
    record { front = f.front; rest = f.more; parts = f.parts; many = many }
