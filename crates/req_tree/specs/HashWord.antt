-- A digest of 20 bytes as a word. This project's own.
use Rattle.std.specs.Prelude.{ℕ, List, Option}
use Rattle.std.specs.Result.{result_ok}
use Rattle.hex.specs.Hex.{decode_sized}

-- 40 hexadecimal digits of either case
abbrev pub hash_word : List ℕ → Option (List ℕ)
hash_word word = result_ok (decode_sized word 20)
