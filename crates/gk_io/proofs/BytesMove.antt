-- Bytes that move from the front of one list to the front of another.
use Rattle.std.proofs.Common.{◌≡◌, ℕ, ◌+◌, ◌-◌, ◌<◌, min, List, [], ◌++◌, length, take, drop, sym, ap, ◌∙◌, arith}
use Rattle.std.proofs.lemmas.List.{take-append-drop, drop-drop, take_rest, nil_from_length, length-drop}

-- the bytes before the new place, and those behind it
pub before_and_behind : (next n : ℕ) (bytes front : List ℕ) → front ≡ take n (take (length bytes - next) (drop next bytes)) → drop next bytes ≡ front ++ drop (next + n) bytes
before_and_behind next n bytes front h =
    sym (take-append-drop n (drop next bytes))
    ∙ ap (λ r. take n (drop next bytes) ++ r) (drop-drop n next bytes)
    ∙ ap (λ f. f ++ drop (next + n) bytes) (sym (h ∙ ap (take n) (take_rest bytes next)))

-- none moved into some room: there was none
pub none_left : (next n room : ℕ) (bytes : List ℕ) → n ≡ min (length (take (length bytes - next) (drop next bytes))) room → n ≡ 0 → 0 < room → drop (next + n) bytes ≡ []
none_left next n room bytes h z r =
    let none : length (drop next bytes) ≡ 0 = grind (arith, sym (ap length (take_rest bytes next))) in
    nil_from_length (drop (next + n) bytes) (grind (arith, length-drop (next + n) bytes, length-drop next bytes))
