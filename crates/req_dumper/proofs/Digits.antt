-- Hexadecimal digits, byte by byte.
use Rattle.std.proofs.Common.{◌≡◌, ℕ, ◌/◌, ◌%◌, List, [], ◌∷◌, slice_index, refl, ap}
use Rattle.std.specs.List.{flat_map}
use Rattle.hex.specs.Hex.{encode_with, encode_lower, lower_digits}

pub each_byte : (bytes : List ℕ) → flat_map (λ b. encode_lower (b ∷ [])) bytes ≡ encode_lower bytes
unfolding encode_with
each_byte [] = refl
each_byte (b ∷ rest) = ap (λ l. slice_index lower_digits (b / 16) ∷ slice_index lower_digits (b % 16) ∷ l) (each_byte rest)
