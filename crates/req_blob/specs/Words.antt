-- The parts that a requirement's bytes are made of (requirement.h and reqmaker.h of Apple's Security
-- framework): words of four bytes, the highest first, and data that zeros fill up to whole words.
use Rattle.std.specs.Prelude.{ℕ, ℤ, ◌-◌, ◌%◌, List, ◌++◌, length, replicate}
use Rattle.std.specs.Int.{w32, cast_unsigned}
use Rattle.cs_blob.specs.Numbers.{word}
use Rattle.req_tree.specs.declared.matching.Match.{Match}
use Rattle.req_tree.specs.declared.matching.Match.TheVariants.{Exists, Absent, Equal, Contains, Begins, Ends, Less, Greater, LessEqual, GreaterEqual}

-- a signed number, as its two's complement
abbrev pub signed_word : ℤ → List ℕ
signed_word number = word (cast_unsigned w32 number)

-- how many zeros fill a length up to a multiple of four
abbrev pub padding : ℕ → ℕ
padding n = (4 - n % 4) % 4

-- zeros, as many as a number says
abbrev pub zeros : ℕ → List ℕ
zeros n = replicate n 0

-- a length, that many bytes, and zeros up to a multiple of four
unfoldable pub datum : List ℕ → List ℕ
datum bytes = word (length bytes) ++ (bytes ++ zeros (padding (length bytes)))

-- a length and that many bytes, which nothing fills up
unfoldable pub unpadded : List ℕ → List ℕ
unpadded bytes = word (length bytes) ++ bytes

-- a suffix, and the text that it compares with
abbrev pub match_text : Match → List ℕ
match_text Exists = word 0
match_text (Equal value) = word 1 ++ datum value
match_text (Contains value) = word 2 ++ datum value
match_text (Begins value) = word 3 ++ datum value
match_text (Ends value) = word 4 ++ datum value
match_text (Less value) = word 5 ++ datum value
match_text (Greater value) = word 6 ++ datum value
match_text (LessEqual value) = word 7 ++ datum value
match_text (GreaterEqual value) = word 8 ++ datum value
match_text Absent = word 14
