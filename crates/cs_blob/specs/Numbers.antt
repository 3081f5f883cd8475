-- Numbers in blobs: four bytes, the highest first.
use Rattle.std.specs.Prelude.{ℕ, List, drop}
use Rattle.byteorder.specs.Endian.{big_number, big_bytes}

-- the number of the four bytes from a place on
unfoldable pub number_at : ℕ → List ℕ → ℕ
number_at place bytes = big_number 4 (drop place bytes)

-- the four bytes of a number
unfoldable pub word : ℕ → List ℕ
word n = big_bytes 4 n
