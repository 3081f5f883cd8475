-- Worked limits: parentheses that are open at once, and a whole text with its tokens, reading and depth.
use Rattle.std.proofs.Common.{◌≡◌, ℕ, zero, suc, ◌+◌, ◌≤◌, nat_le, Bool, true, ◌&&◌, cond, List, [], ◌∷◌, ◌++◌, drop, get_or, count_by, replicate, codes, refl, sym, ap, arith}
use Rattle.std.proofs.lemmas.Bool.{leb-true}
use Rattle.req_tree.specs.Tree as t
use Rattle.req_tree.specs.Tree.{Tree}
use Rattle.req_grammar.specs.declared.limits.TheConstants.{MOST_OPEN_PARENTHESES}
use Rattle.req_grammar.specs.Words as w
use Rattle.req_grammar.specs.Sorts as s
use Rattle.req_grammar.specs.Terminals.{Terminal, sign, word, terminals}
use Rattle.req_grammar.specs.Grammar as g
use Rattle.req_grammar.specs.Readings.{HasFewOpen, IsRequirementText, Reads, is_left, is_right}
use Rattle.req_grammar.specs.Reader.{factor_at, chain_from}
use Rattle.req_grammar.proofs.Balance.{count_first}
use Rattle.req_grammar.proofs.Cuts.{both_true}
use Rattle.req_grammar.proofs.Cutting.{cut, tokens_of}
use Rattle.req_grammar.proofs.Rekeyed.{read_free}

-- from so many left and right parentheses on, no front has too many left ones
abbrev few_open : ℕ → ℕ → List Terminal → Bool
few_open lefts rights [] = nat_le lefts (MOST_OPEN_PARENTHESES + rights)
few_open lefts rights (x ∷ list) =
    nat_le lefts (MOST_OPEN_PARENTHESES + rights) && few_open (lefts + cond (is_left x) 1 0) (rights + cond (is_right x) 1 0) list

few_here : (lefts rights : ℕ) (list : List Terminal) → few_open lefts rights list ≡ true → lefts ≤ MOST_OPEN_PARENTHESES + rights
few_here lefts rights [] e = leb-true lefts (MOST_OPEN_PARENTHESES + rights) e
few_here lefts rights (x ∷ list) e =
    leb-true lefts (MOST_OPEN_PARENTHESES + rights) (both_true (nat_le lefts (MOST_OPEN_PARENTHESES + rights)) (few_open (lefts + cond (is_left x) 1 0) (rights + cond (is_right x) 1 0) list) e).0

no_list : (x : Terminal) (list : List Terminal) → [] ≡ x ∷ list → ⊥
no_list x list e = absurd cc

head_is : (y x : Terminal) (a b : List Terminal) → y ∷ a ≡ x ∷ b → y ≡ x
head_is y x a b e = ap (λ (l : List Terminal). get_or l 0 y) e

tail_is : (y x : Terminal) (a b : List Terminal) → y ∷ a ≡ x ∷ b → a ≡ b
tail_is y x a b e = ap (drop 1) e

few_from : (lefts rights : ℕ) (list : List Terminal) → few_open lefts rights list ≡ true → (front rest : List Terminal) → list ≡ front ++ rest
    → lefts + count_by is_left front ≤ MOST_OPEN_PARENTHESES + (rights + count_by is_right front)
few_from lefts rights list e [] rest parts = let here : lefts ≤ MOST_OPEN_PARENTHESES + rights = few_here lefts rights list e in omega (arith, here)
few_from lefts rights [] e (x ∷ front) rest parts = absurd (no_list x (front ++ rest) parts)
few_from lefts rights (y ∷ list) e (x ∷ front) rest parts =
    let first : y ≡ x = head_is y x list (front ++ rest) parts in
    let test = both_true (nat_le lefts (MOST_OPEN_PARENTHESES + rights)) (few_open (lefts + cond (is_left y) 1 0) (rights + cond (is_right y) 1 0) list) e in
    let later = few_from (lefts + cond (is_left y) 1 0) (rights + cond (is_right y) 1 0) list test.1 front rest (tail_is y x list (front ++ rest) parts) in
    let left : count_by is_left (x ∷ front) ≡ (0 + cond (is_left y) 1 0) + count_by is_left front = count_first is_left x front (is_left y) (ap is_left (sym first)) in
    let right : count_by is_right (x ∷ front) ≡ (0 + cond (is_right y) 1 0) + count_by is_right front = count_first is_right x front (is_right y) (ap is_right (sym first)) in
    omega (arith, later, left, right)

few : (list : List Terminal) → few_open 0 0 list ≡ true → HasFewOpen list
few list e front rest parts = let all = few_from 0 0 list e front rest parts in omega (arith, all)

-- n parentheses round a list
abbrev nested : ℕ → List Terminal → List Terminal
nested zero list = list
nested (suc n) list = sign w.left_paren ∷ (nested n list ++ sign w.right_paren ∷ [])

-- any number of them are read
pub nested_reads : (n : ℕ) (list : List Terminal) (x : Tree) → Reads list x → Reads (nested n list) x
nested_reads zero list x h = h
nested_reads (suc n) list x h = g.term _ _ (g.factor _ _ (g.paren (nested n list) x (nested_reads n list x h)))

-- 256 may be open
open_256 : HasFewOpen (nested 256 (word w.always ∷ []))
open_256 = few (nested 256 (word w.always ∷ [])) refl

-- and 257 may not
open_257 : HasFewOpen (nested 257 (word w.always ∷ [])) → ⊥
open_257 h =
    let most : count_by is_left (replicate 257 (sign w.left_paren)) ≤ 256 + count_by is_right (replicate 257 (sign w.left_paren)) =
    h (replicate 257 (sign w.left_paren)) (word w.always ∷ replicate 257 (sign w.right_paren)) refl in
    absurd (omega (arith, most))

-- what was closed before counts: there is no floor at 0
closed_first : HasFewOpen (replicate 2 (sign w.right_paren) ++ replicate 258 (sign w.left_paren))
closed_first = few (replicate 2 (sign w.right_paren) ++ replicate 258 (sign w.left_paren)) refl

-- !(always or never) and (legacy), as a whole
abbrev whole_text : List ℕ
whole_text = codes "!(always or never) and (legacy)"

abbrev whole_cuts : List (s.Sort × ℕ)
whole_cuts =
    (s.symbol, 1) ∷ (s.symbol, 1) ∷ (s.word, 6) ∷ (s.blank, 1) ∷ (s.word, 2) ∷ (s.blank, 1) ∷ (s.word, 5) ∷ (s.symbol, 1) ∷ (s.blank, 1)
    ∷ (s.word, 3) ∷ (s.blank, 1) ∷ (s.symbol, 1) ∷ (s.word, 6) ∷ (s.symbol, 1) ∷ []

whole : IsRequirementText whole_text (t.both (t.negate (t.either t.always t.never)) t.legacy_dev_id)
unfolding factor_at chain_from
whole = record {
  tokens = tokens_of 0 whole_text whole_cuts;
  cut = record { short = omega arith; tokens_are = cut whole_text whole_cuts refl refl };
  opens = few (terminals whole_text (tokens_of 0 whole_text whole_cuts)) refl;
  reads = read_free _ _ refl refl;
  shallow = omega arith;
}
