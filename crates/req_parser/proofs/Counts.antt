-- Parentheses counted over joined lists.
use Rattle.std.proofs.Common.{◌≡◌, ℕ, suc, ◌+◌, ◌≤◌, cond, List, [], ◌∷◌, ◌++◌, count_by, refl, sym, ap, ◌∙◌, append_assoc, arith}
use Rattle.std.proofs.lemmas.List.Sums.{sum_by-append}
use Rattle.req_grammar.specs.Words as w
use Rattle.req_grammar.specs.Terminals.{Terminal, sign}
use Rattle.req_grammar.specs.Readings.{is_left, is_right}

pub lefts_joined : (a b : List Terminal) → count_by is_left (a ++ b) ≡ count_by is_left a + count_by is_left b
lefts_joined a b = sum_by-append (λ x. cond (is_left x) 1 0) a b

pub rights_joined : (a b : List Terminal) → count_by is_right (a ++ b) ≡ count_by is_right a + count_by is_right b
rights_joined a b = sum_by-append (λ x. cond (is_right x) 1 0) a b

-- in no front of the list do left parentheses outnumber right ones by more than so many
abbrev pub NestsWithin : ℕ → List Terminal → Type 0
NestsWithin d a = (front more : List Terminal) → a ≡ front ++ more → count_by is_left front ≤ d + count_by is_right front

abbrev pub IsBalanced : List Terminal → Type 0
IsBalanced a = count_by is_left a ≡ count_by is_right a

-- the front of a list nests no deeper
pub nests_front : (d : ℕ) (a b : List Terminal) → NestsWithin d (a ++ b) → NestsWithin d a
nests_front d a b h front more e = h front (more ++ b) (ap (λ (l : List Terminal). l ++ b) e ∙ append_assoc front more b)

-- behind a front with as many of both, neither does what follows
pub nests_behind : (d : ℕ) (a b : List Terminal) → IsBalanced a → NestsWithin d (a ++ b) → NestsWithin d b
nests_behind d a b balanced h front more e =
    let all : count_by is_left (a ++ front) ≤ d + count_by is_right (a ++ front) =
    h (a ++ front) more (ap (λ (l : List Terminal). a ++ l) e ∙ sym (append_assoc a front more)) in
    omega (arith, all, balanced, lefts_joined a front, rights_joined a front)

-- behind a left parenthesis there is room for one less
pub nests_inside : (d : ℕ) (a : List Terminal) → NestsWithin (suc d) (sign w.left_paren ∷ a) → NestsWithin d a
nests_inside d a h front more e =
    let all : count_by is_left (sign w.left_paren ∷ front) ≤ suc d + count_by is_right (sign w.left_paren ∷ front) =
    h (sign w.left_paren ∷ front) more (ap (λ (l : List Terminal). sign w.left_paren ∷ l) e) in
    let left : count_by is_left (sign w.left_paren ∷ front) ≡ 1 + count_by is_left front = lefts_joined (sign w.left_paren ∷ []) front in
    let right : count_by is_right (sign w.left_paren ∷ front) ≡ 0 + count_by is_right front = rights_joined (sign w.left_paren ∷ []) front in
    omega (arith, all, left, right)

-- and a left parenthesis needs room
pub nests_some : (a : List Terminal) → NestsWithin 0 (sign w.left_paren ∷ a) → ⊥
nests_some a h = let all : 1 ≤ 0 + 0 = h (sign w.left_paren ∷ []) a refl in absurd (omega (arith, all))
