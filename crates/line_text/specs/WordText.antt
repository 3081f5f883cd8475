-- Bytes as one word of a line, without spaces. (This project's own.)
use Rattle.std.specs.Prelude.{ℕ, ◌+◌, ◌-◌, ◌/◌, ◌%◌, Bool, ◌==◌, nat_lt, nat_le, not, ◌&&◌, if◌then◌else◌, List, [], ◌∷◌}
use Rattle.std.specs.List.{flat_map}
use Rattle.std.specs.Str.{bytes_eq}

-- the upper-case hexadecimal digit of a number below 16
abbrev pub hex_digit : ℕ → ℕ
hex_digit n = if nat_lt n 10 then 48 + n else 65 + (n - 10)

-- bytes 0x21 to 0x7e stand for themselves, other than %
abbrev pub is_plain : ℕ → Bool
is_plain b = nat_le 0x21 b && nat_le b 0x7e && not (b == 37)

-- a byte by itself, or as % and two digits
abbrev pub byte_text : ℕ → List ℕ
byte_text b = if is_plain b then b ∷ [] else 37 ∷ hex_digit (b / 16) ∷ hex_digit (b % 16) ∷ []

-- no bytes are -, and the one byte - is %2D
abbrev pub word_text : List ℕ → List ℕ
word_text bytes = if bytes_eq bytes [] then 45 ∷ [] else (if bytes_eq bytes (45 ∷ []) then 37 ∷ 50 ∷ 68 ∷ [] else flat_map byte_text bytes)
