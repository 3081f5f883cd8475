-- Numbers at a place: bytes before and behind don't change them, and what is written reads back.
use Rattle.std.proofs.Common.{◌≡◌, ℕ, ◌+◌, ◌^◌, ◌<◌, ◌≤◌, List, ◌++◌, length, take, drop, sym, ap, ◌∙◌, arith, length-drop}
use Rattle.std.proofs.lemmas.List.{drop-append-le, take-append-drop, length-take-le}
use Rattle.std.proofs.Math.Seq.{drop-append-add}
use Rattle.byteorder.specs.Endian.{big_number}
use Rattle.byteorder.specs.Numbers.{big_from-append, big_number-reads_back}
use Rattle.cs_blob.specs.Numbers.{number_at, word}

-- bytes behind a number don't change it
pub number_at-front : (place : ℕ) (xs ys : List ℕ) → place + 4 ≤ length xs → number_at place (xs ++ ys) ≡ number_at place xs
unfolding number_at
number_at-front place xs ys h =
    let room : 4 ≤ length (drop place xs) = omega (arith, length-drop place xs) in
    ap (big_number 4) (drop-append-le place xs ys (omega arith)) ∙ big_from-append 4 (drop place xs) ys room

pub number_at-take : (place n : ℕ) (xs : List ℕ) → place + 4 ≤ n → n ≤ length xs → number_at place (take n xs) ≡ number_at place xs
number_at-take place n xs h k =
    let long : length (take n xs) ≡ n = length-take-le n xs k in
    sym (number_at-front place (take n xs) (drop n xs) (omega (arith, long, h))) ∙ ap (number_at place) (take-append-drop n xs)

-- bytes before a number move its place
pub number_at-behind : (xs ys : List ℕ) (place : ℕ) → number_at (length xs + place) (xs ++ ys) ≡ number_at place ys
unfolding number_at
number_at-behind xs ys place = ap (big_number 4) (drop-append-add xs ys place)

-- what is written is read
pub number_at-written : (n : ℕ) (rest : List ℕ) → n < 2 ^ 32 → number_at 0 (word n ++ rest) ≡ n
unfolding number_at word
number_at-written n rest h = big_number-reads_back 4 n rest h
