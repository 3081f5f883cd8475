-- Fronts of at most n bytes.
use Rattle.std.proofs.Common.{◌≡◌, ℕ, zero, suc, ◌+◌, ◌-◌, ◌≤◌, min, List, [], ◌∷◌, ◌++◌, Result, Ok, Err, IsOk, OnOk, length, take, refl, sym, ap, ◌∙◌, arith}
use Rattle.std.proofs.lemmas.List.{take_min, length-take}
use Rattle.std.proofs.Math.Seq.{take-append-add}

-- what finds room behind xs
pub append-take-room : (n m : ℕ) (xs ys : List ℕ) → length xs ≤ n → m ≡ min (length ys) (n - length xs) → xs ++ take m ys ≡ take n (xs ++ ys)
append-take-room n m xs ys h e =
    let room : m ≡ min (n - length xs) (length ys) = omega arith in
    let whole : length xs + (n - length xs) ≡ n = omega arith in
    ap (λ k. xs ++ take k ys) room
    ∙ ap (λ r. xs ++ r) (take_min (n - length xs) ys)
    ∙ sym (take-append-add xs ys (n - length xs))
    ∙ ap (λ k. take k (xs ++ ys)) whole

-- the front of a front with more behind it
pub take-take-append : (n : ℕ) (xs ys : List ℕ) → take n (take n xs ++ ys) ≡ take n (xs ++ ys)
take-take-append zero xs ys = refl
take-take-append (suc n) [] ys = refl
take-take-append (suc n) (x ∷ xs) ys = ap (λ r. x ∷ r) (take-take-append n xs ys)

-- a front grows
pub front_grows : (n : ℕ) (old new xs ys : List ℕ) → old ≡ take n xs → new ≡ take n (old ++ ys) → new ≡ take n (xs ++ ys)
front_grows n old new xs ys h e = e ∙ ap (λ l. take n (l ++ ys)) h ∙ take-take-append n xs ys

-- what is held after as much of a run was appended as finds room
pub held_after : {T E : Type 0} (r : Result T E) (n m : ℕ) (old new run : List ℕ) → length old ≤ n → m ≡ min (length run) (n - length old)
    → (length old + length (take m run) ≤ n → IsOk r) → OnOk r (new ≡ old ++ take m run) → new ≡ take n (old ++ run)
held_after (Ok x) n m old new run h e ok put = put ∙ append-take-room n m old run h e
held_after {T} {E} (Err x) n m old new run h e ok put =
    let fits : length old + length (take m run) ≤ n = grind (arith, length-take m run) in
    let impossible : IsOk {T = T} {E = E} (Err x) = ok fits in cc
