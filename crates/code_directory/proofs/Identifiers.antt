-- The identifier of a directory that passed its checks.
use Rattle.std.proofs.Common.{◌≡◌, ℕ, ◌+◌, ◌<◌, ◌≤◌, ◌==◌, ◌&&◌, nat_le, nat_lt, Bool, true, false, cond, List, [], ◌∷◌, length, drop, take, refl, ap, arith}
use Rattle.std.proofs.lemmas.Bool.Decides.{nat_tests}
use Rattle.std.proofs.lemmas.List.Elements.{All-from_recursion}
use Rattle.std.specs.List.{AllByRecursion}
use Rattle.req_tree.specs.Subject.{IsIdentifier}
use Rattle.req_tree.specs.declared.limits.TheConstants.{MOST_IDENTIFIER_BYTES}
use Rattle.code_directory.specs.Directories.{to_zero, identifier, identifier_offset, has_identifier, header_size, version}

front_when : (t : Bool) (b : ℕ) (rest : List ℕ) → take (length (to_zero rest)) rest ≡ to_zero rest
    → take (length (cond t [] (b ∷ to_zero rest))) (b ∷ rest) ≡ cond t [] (b ∷ to_zero rest)
front_when true b rest h = refl
front_when false b rest h = ap (λ (tail : List ℕ). b ∷ tail) h

-- the bytes before the first zero are a front
pub is_front : (bytes : List ℕ) → take (length (to_zero bytes)) bytes ≡ to_zero bytes
is_front [] = refl
is_front (b ∷ rest) = front_when (b == 0) b rest (is_front rest)

above_when : (t : Bool) (b : ℕ) (rest : List ℕ) → (b == 0) ≡ t → AllByRecursion (λ (n : ℕ). 0 < n) (to_zero rest) → AllByRecursion (λ (n : ℕ). 0 < n) (cond t [] (b ∷ to_zero rest))
above_when true b rest e h = tt
above_when false b rest e h = (grind (arith, nat_tests), h)

above_zero : (bytes : List ℕ) → AllByRecursion (λ (n : ℕ). 0 < n) (to_zero bytes)
above_zero [] = tt
above_zero (b ∷ rest) = above_when (b == 0) b rest refl (above_zero rest)

sizes : (header place size bound : ℕ) → (nat_le header place && nat_lt (place + size) bound && nat_le 1 size && nat_le size MOST_IDENTIFIER_BYTES) ≡ true → (1 ≤ size) × (size ≤ MOST_IDENTIFIER_BYTES)
sizes header place size bound h = (grind (arith, nat_tests), grind (arith, nat_tests))

pub fits : (whole : List ℕ) → has_identifier whole ≡ true → IsIdentifier (identifier whole)
fits whole h =
    let both = sizes (header_size (version whole)) (identifier_offset whole) (length (identifier whole)) (length whole) h in
    record { some = both.0; short = both.1; no_zero = All-from_recursion (λ (n : ℕ). 0 < n) (identifier whole) (above_zero (drop (identifier_offset whole) whole)) }
