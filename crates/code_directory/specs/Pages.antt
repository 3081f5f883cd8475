-- The pages of the code that a directory covers (CS_CodeDirectory of Apple's cs_blobs.h).
-- This project's own: one page of everything stands for an exponent of 0, and code without bytes may do without it.
use Rattle.std.specs.Prelude.{ℕ, ◌+◌, ◌*◌, ◌/◌, ◌%◌, ◌^◌, Bool, ◌&&◌, ◌||◌, ◌==◌, if◌then◌else◌, List, take, drop}
use Rattle.code_directory.specs.Directories.{page_exponent, limit}

-- how many pages of 2^p bytes a bound of bytes has, the last one short; with p = 0 it is one page of everything
abbrev pub is_slot_count : ℕ → ℕ → ℕ → Bool
is_slot_count p bound slots =
    if p == 0 then (slots == 1) || ((bound == 0) && (slots == 0))
    else slots == bound / 2 ^ p + (if bound % 2 ^ p == 0 then 0 else 1)

-- a page: 2^p bytes from where it begins, as far as the code is covered; with p = 0 all that is covered
abbrev pub page : List ℕ → List ℕ → ℕ → List ℕ
page whole code i =
    if page_exponent whole == 0 then take (limit whole) code
    else take (2 ^ page_exponent whole) (drop (i * 2 ^ page_exponent whole) (take (limit whole) code))
