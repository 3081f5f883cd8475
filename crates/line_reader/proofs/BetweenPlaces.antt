-- The part of a piece between two places.
use Rattle.std.proofs.Common.{◌≡◌, ℕ, ◌+◌, ◌-◌, ◌≤◌, nat_lt, Bool, true, false, List, [], ◌∷◌, ◌++◌, Option, None, Some, Ok, length, take, drop, refl, sym, ap, ◌∙◌, append_assoc, arith}
use Rattle.std.proofs.lemmas.Bool.Decides.{nat_tests}
use Rattle.std.proofs.lemmas.List.{drop-take, take-take, drop-drop, take-append-drop, drop-append-le, length-drop, length-take, nil_from_length}
use Rattle.std.specs.Io.KnownBytes.{Keeps, IsAtEnd, prepend_known}
use Rattle.line_reader.specs.Lines.{IsFirstLf}
use Rattle.line_reader.specs.Steps.{IsReady}

-- the first part of what lies between two places, and the rest
pub split_window : (next mid end : ℕ) (xs : List ℕ) → next ≤ mid → mid ≤ end → drop next (take end xs) ≡ take (mid - next) (drop next xs) ++ drop mid (take end xs)
split_window next mid end xs h k =
    let to_end : next + (end - next) ≡ end = omega arith in
    let to_mid : next + (mid - next) ≡ mid = omega arith in
    let le : mid - next ≤ end - next = omega arith in
    let whole : drop next (take end xs) ≡ take (end - next) (drop next xs) =
    ap (λ n. drop next (take n xs)) (sym to_end) ∙ drop-take next (end - next) xs in
    sym (take-append-drop (mid - next) (drop next (take end xs)))
    ∙ ap (λ l. take (mid - next) l ++ drop (mid - next) (drop next (take end xs))) whole
    ∙ ap (λ l. l ++ drop (mid - next) (drop next (take end xs))) (take-take (mid - next) (end - next) (drop next xs) le)
    ∙ ap (λ l. take (mid - next) (drop next xs) ++ l) (drop-drop (mid - next) next (take end xs))
    ∙ ap (λ n. take (mid - next) (drop next xs) ++ drop n (take end xs)) to_mid

-- bytes up to their first LF, the LF, and what follows
pub split_at_lf : (window rest : List ℕ) (place : ℕ) → IsFirstLf window place → window ++ rest ≡ (take place window ++ 10 ∷ []) ++ drop (place + 1) (window ++ rest)
split_at_lf window rest place h =
    let inside : place ≤ length window = grind (arith, h.inside) in
    let behind : place + 1 ≤ length window = grind (arith, h.inside) in
    ap (λ l. l ++ rest) (sym (take-append-drop place window) ∙ ap (λ l. take place window ++ l) h.here)
    ∙ append_assoc (take place window) (10 ∷ drop (place + 1) window) rest
    ∙ ap (λ l. take place window ++ 10 ∷ l) (sym (drop-append-le (place + 1) window rest behind))
    ∙ sym (append_assoc (take place window) (10 ∷ []) (drop (place + 1) (window ++ rest)))

-- as far as the end of the window
pub length_window : (next mid : ℕ) (xs : List ℕ) → next ≤ mid → mid ≤ length xs → length (take (mid - next) (drop next xs)) ≡ mid - next
length_window next mid xs h k = grind (arith, length-take (mid - next) (drop next xs), length-drop next xs)

-- how much lies between two places
pub length_pending : (next end : ℕ) (xs : List ℕ) → end ≤ length xs → length (drop next (take end xs)) ≡ end - next
length_pending next end xs h = grind (arith, length-drop next (take end xs), length-take end xs)

-- an empty piece before known bytes
empty_first : (old new : Option (List ℕ)) (before : List ℕ) → before ≡ [] → Keeps old new → Keeps (prepend_known before old) new
empty_first None new before e kept = tt
empty_first (Some us) None before e kept = absurd kept
empty_first (Some us) (Some vs) before e kept = kept ∙ sym (ap (λ l. l ++ us) e)

-- nothing is pending at the end
end_behind : (new : Option (List ℕ)) (behind : List ℕ) → behind ≡ [] → IsAtEnd new → IsAtEnd (prepend_known behind new)
end_behind None behind e h = tt
end_behind (Some us) behind e h = ap (λ l. l ++ us) e ∙ h

-- a byte of the piece is pending, or the end is there
ready_by : (E : Type 0) (old new : Option (List ℕ)) (next end : ℕ) (xs before : List ℕ) (b : Bool) → nat_lt next end ≡ b → before ≡ [] → end ≤ length xs
    → Keeps old (prepend_known (drop next (take end xs)) new) → (drop next (take end xs) ≡ [] → IsAtEnd new)
    → IsReady {E = E} (prepend_known before old) (prepend_known (drop next (take end xs)) new) (drop next (take end xs)) (Ok b)
ready_by E old new next end xs before true t e within kept end_of =
    (empty_first old (prepend_known (drop next (take end xs)) new) before e kept, grind (arith, nat_tests, length_pending next end xs within))
ready_by E old new next end xs before false t e within kept end_of =
    let none : drop next (take end xs) ≡ [] = nil_from_length (drop next (take end xs)) (grind (arith, nat_tests, length_pending next end xs within)) in
    (empty_first old (prepend_known (drop next (take end xs)) new) before e kept, end_behind new (drop next (take end xs)) none (end_of none))

pub ready_after : (E : Type 0) (old new : Option (List ℕ)) (next end : ℕ) (xs before : List ℕ) → before ≡ [] → end ≤ length xs
    → Keeps old (prepend_known (drop next (take end xs)) new) → (drop next (take end xs) ≡ [] → IsAtEnd new)
    → IsReady {E = E} (prepend_known before old) (prepend_known (drop next (take end xs)) new) (drop next (take end xs)) (Ok (nat_lt next end))
ready_after E old new next end xs before e within kept end_of = ready_by E old new next end xs before (nat_lt next end) refl e within kept end_of
