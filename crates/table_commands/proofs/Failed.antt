-- Edits that failed, counted from one edit to the next.
use Rattle.std.proofs.Common.{◌≡◌, ◌≤◌, arith, ℕ, ◌+◌, List, [], ◌∷◌, ◌++◌, length, ◌∙◌, ap, length-append}
use Rattle.std.specs.List.{filter}
use Rattle.std.proofs.lemmas.List.Elements.{filter-append}
use Rattle.gk_io.specs.Faults.{CanRise, Rose}
use Rattle.policy_model.specs.Contents.{Edit}
use Rattle.policy_model.specs.History.{Event, edit, edit_failed}
use Rattle.desk_state.specs.Failures.{is_failed, failures, Shows}

-- one event more
count_more : (h : List Event) (e : Event) → failures (h ++ e ∷ []) ≡ failures h + length (filter is_failed (e ∷ []))
count_more h e = ap length (filter-append is_failed h (e ∷ [])) ∙ length-append (filter is_failed h) (filter is_failed (e ∷ []))

-- where nothing happened
pub shows_none : (h : List Event) (n : ℕ) → Shows h h n n
shows_none h n = λ can. omega arith

-- an edit that was answered, where the count is as it was
pub shows_answered : (h : List Event) (e : Edit) (n m : ℕ) → m ≡ n → Shows h (h ++ edit e ∷ []) n m
shows_answered h e n m same = λ can.
    let more : failures (h ++ edit e ∷ []) ≡ failures h + 0 = count_more h (edit e) in
    grind (arith, more, same)

-- an edit that failed, where the count rose
pub shows_failed : (h : List Event) (e : Edit) (before now : ℕ) → Rose before now → Shows h (h ++ edit_failed e ∷ []) before now
shows_failed h e before now rose = λ can.
    let more : failures (h ++ edit_failed e ∷ []) ≡ failures h + 1 = count_more h (edit_failed e) in
    grind (arith, more, rose, can)

-- one edit after the other
pub shows_on : (a b c : List Event) (n m k : ℕ) → m ≤ k → Shows a b n m → Shows b c m k → Shows a c n k
shows_on a b c n m k later first second = λ can.
    let low : CanRise m = omega (arith, later, can) in
    let one = first low in
    let two = second can in
    omega (arith, one, two)

-- and where the count rose behind them
pub shows_later : (a b : List Event) (n m k : ℕ) → m ≤ k → Shows a b n m → Shows a b n k
shows_later a b n m k later first = λ can.
    let low : CanRise m = omega (arith, later, can) in
    let one = first low in
    omega (arith, one, later)
