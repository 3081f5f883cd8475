-- Bytes that were written as one word of a line. This project's own.
use Rattle.std.specs.Prelude.{ℕ, List, [], ◌∷◌, ◌++◌, length, Bool, ◌==◌, ◌&&◌, not, nat_le, Option, Some, None, if◌then◌else◌, codes, bytes_eq}
use Rattle.std.specs.Result.{result_ok}
use Rattle.hex.specs.Hex.{decode_sized}

-- a byte that stands for itself: from 0x21 up, other than % and 0x7f
abbrev pub is_itself : ℕ → Bool
is_itself b = nat_le 0x21 b && not (b == 37) && not (b == 0x7f)

-- the byte by itself
abbrev pub itself : ℕ → Option (List ℕ)
itself b = if is_itself b then Some (b ∷ []) else None

-- the byte of two hexadecimal digits of either case
abbrev pub pair_byte : ℕ → ℕ → Option (List ℕ)
pair_byte high low = result_ok (decode_sized (high ∷ low ∷ []) 1)

-- bytes, and those behind them
abbrev pub joined : Option (List ℕ) → Option (List ℕ) → Option (List ℕ)
joined (Some bytes) (Some more) = Some (bytes ++ more)
joined None more = None
joined (Some bytes) None = None

abbrev mutual
  -- the bytes of a text: each stands for itself, or as % and two digits
  pub bytes_in : List ℕ → Option (List ℕ)
  bytes_in [] = Some []
  bytes_in (b ∷ rest) = if b == 37 then pair_in rest else joined (itself b) (bytes_in rest)

  -- the bytes of a text that begins with two digits
  pub pair_in : List ℕ → Option (List ℕ)
  pair_in (high ∷ low ∷ rest) = joined (pair_byte high low) (bytes_in rest)
  pair_in other = None

-- the bytes of a word: the word - is no bytes, and the empty word stands for nothing
abbrev pub bytes_of_word : List ℕ → Option (List ℕ)
bytes_of_word word =
    if bytes_eq word [] then None
    else if bytes_eq word (codes "-") then Some []
    else bytes_in word

-- bytes of which this holds
abbrev pub only : (List ℕ → Bool) → Option (List ℕ) → Option (List ℕ)
only holds None = None
only holds (Some bytes) = if holds bytes then Some bytes else None

-- at most so many bytes
abbrev pub at_most : ℕ → Option (List ℕ) → Option (List ℕ)
at_most most bytes = only (λ text. nat_le (length text) most) bytes
