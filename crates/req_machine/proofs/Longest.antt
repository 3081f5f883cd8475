-- The machine takes off the longest front that can go on, and stops.
use Rattle.std.proofs.Common.{◌≡◌, ℕ, suc, ◌+◌, ◌-◌, ◌≤◌, ◌<◌, nat_le, Bool, true, false, List, [], ◌∷◌, ◌++◌, length, take, None, refl, sym, ap, subst, ◌∙◌, append_assoc, append-nil, arith, length-append}
use Rattle.std.proofs.lemmas.Bool.{leb-true, leb-false}
use Rattle.std.proofs.Math.Seq.{take-append_seam, take-append-add}
use Rattle.req_grammar.specs.Terminals.{Terminal}
use Rattle.req_grammar.specs.Readings.{AnyKey}
use Rattle.req_machine.specs.Machine.{Symbol, expr, set, State, step, Goes, IsTaken, IsAllTaken}
use Rattle.req_machine.specs.Laws.{IsLongest}
use Rattle.req_machine.proofs.Moves.{one_end, IsSwapped, swapped, stop_same}
use Rattle.req_machine.proofs.Meaning.{Means, none, all_one, IsFinished, finished, ends_of}
use Rattle.req_machine.proofs.Taken.{whole_taken, parts_taken, over}

-- what the grammar has and what the machine takes off are the same, of the lists that this symbol stands for
pub record Agrees (symbol : Symbol) : Type 0 where
  pub taken : (list : List Terminal) → Means symbol list → IsAllTaken symbol list

pub expr_agrees : Agrees expr
expr_agrees = record {
  taken = λ list s. subst (λ (l : List Terminal). Goes (expr ∷ [], l) ([], [])) (append-nil list) (whole_taken AnyKey list s.0 s.1 [] [] over);
}

pub set_agrees : Agrees set
set_agrees = record { taken = λ list s. parts_taken AnyKey list s.0 s.1 }

-- a list that is taken off whole is one that the symbol stands for
pub whole_means : (symbol : Symbol) (list : List Terminal) → IsAllTaken symbol list → Means symbol list
whole_means symbol list goes =
    let f : IsFinished (symbol ∷ [], list) ([], []) [] = finished (symbol ∷ [], list) ([], []) [] goes none in
    subst (Means symbol) (sym f.parts) (all_one symbol (Means symbol) (λ a i. i) (f.front ++ []) f.all)

abbrev GoesOn : Symbol → List Terminal → Type 0
GoesOn symbol front = (rest : List Terminal) × Means symbol (front ++ rest)

front_length : (list front rest : List Terminal) (n : ℕ) → list ≡ front ++ rest → length list ≡ n + length rest → length front ≡ n
front_length list front rest n parts count = let long : length list ≡ length front + length rest = ap length parts ∙ length-append front rest in omega (arith, long, count)

front_is : (list front rest : List Terminal) (n : ℕ) → list ≡ front ++ rest → length front ≡ n → take n list ≡ front
front_is list front rest n parts long = ap (λ (k : ℕ). take k list) (sym long) ∙ ap (take (length front)) parts ∙ take-append_seam front rest

further_is : (list front x : List Terminal) (t : Terminal) (n m : ℕ) → list ≡ front ++ t ∷ x → length front ≡ n → n < m → take m list ≡ front ++ t ∷ take (m - suc n) x
further_is list front x t n m parts long above =
    let split : length front + suc (m - suc n) ≡ m = omega (arith, long, above) in
    ap (λ (k : ℕ). take k list) (sym split) ∙ ap (take (length front + suc (m - suc n))) parts ∙ take-append-add front (t ∷ x) (suc (m - suc n))

-- a stop before a terminal: no list that goes on with it is one that the symbol stands for
no_further : (symbol : Symbol) → Agrees symbol → (list : List Terminal) (end : State) (t : Terminal) (x : List Terminal) (n m : ℕ)
    → Goes (symbol ∷ [], list) end → step end ≡ None → end.1 ≡ t ∷ x → length list ≡ n + length end.1 → n < m → GoesOn symbol (take m list) → ⊥
no_further symbol agrees list end t x n m goes stopped left count above (rest, means) =
    let is_end : end ≡ (end.0, t ∷ x) = ap (λ (l : List Terminal). (end.0, l)) left in
    let y : List Terminal = take (m - suc n) x ++ rest in
    let f : IsSwapped (symbol ∷ [], list) end.0 t x y = swapped (symbol ∷ [], list) end end.0 t x y goes is_end in
    let long : length f.front ≡ n = front_length list f.front (t ∷ x) n f.parts (count ∙ ap (λ (l : List Terminal). n + length l) left) in
    let same : take m list ++ rest ≡ f.front ++ t ∷ y = ap (λ (l : List Terminal). l ++ rest) (further_is list f.front x t n m f.parts long above) ∙ append_assoc f.front (t ∷ take (m - suc n) x) rest in
    let all : Goes (symbol ∷ [], f.front ++ t ∷ y) ([], []) = agrees.taken (f.front ++ t ∷ y) (subst (Means symbol) same means) in
    let halt : step (end.0, t ∷ y) ≡ None = stop_same end.0 t x y (ap step (sym is_end) ∙ stopped) in
    let one : (end.0, t ∷ y) ≡ ([], []) = one_end _ _ _ f.goes halt all refl in
    omega (arith, ap (λ (s : State). length s.1) one)

no_more : (symbol : Symbol) → Agrees symbol → (list : List Terminal) (end : State) (n m : ℕ)
    → Goes (symbol ∷ [], list) end → step end ≡ None → length list ≡ n + length end.1 → m ≤ length list → n < m → GoesOn symbol (take m list) → ⊥
no_more symbol agrees list end n m goes stopped count fits above viable = by end.1 refl
  where
    by : (left : List Terminal) → end.1 ≡ left → ⊥
    by [] e = omega (arith, fits, above, count, ap length e)
    by (t ∷ x) e = no_further symbol agrees list end t x n m goes stopped e count above viable

at_most : (n m : ℕ) → (n < m → ⊥) → m ≤ n
at_most n m not = by (nat_le m n) refl
  where
    by : (b : Bool) → nat_le m n ≡ b → m ≤ n
    by true e = leb-true m n e
    by false e = absurd (not (leb-false m n e))

pub longest_is : (symbol : Symbol) → Agrees symbol → (list : List Terminal) (n : ℕ) → IsTaken symbol list n → IsLongest (GoesOn symbol) list n
longest_is symbol agrees list n taken =
    let rest = ends_of taken.end.0 in
    let f : IsFinished (symbol ∷ [], list) taken.end rest.0 = finished (symbol ∷ [], list) taken.end rest.0 taken.goes rest.1 in
    let long : length f.front ≡ n = front_length list f.front taken.end.1 n f.parts taken.count in
    record {
      fits = omega (arith, taken.count);
      goes_on = subst (GoesOn symbol) (sym (front_is list f.front taken.end.1 n f.parts long)) (rest.0, all_one symbol (Means symbol) (λ a i. i) (f.front ++ rest.0) f.all);
      longest = λ m fits viable. at_most n m (λ above. no_more symbol agrees list taken.end n m taken.goes taken.stopped taken.count fits above viable);
    }

pub one_number : (symbol : Symbol) (list : List Terminal) (n m : ℕ) → IsTaken symbol list n → IsTaken symbol list m → n ≡ m
one_number symbol list n m a b =
    let same : a.end ≡ b.end = one_end _ _ _ a.goes a.stopped b.goes b.stopped in
    omega (arith, a.count, b.count, ap (λ (s : State). length s.1) same)
