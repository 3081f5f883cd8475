-- The fields of a code directory: CS_CodeDirectory of Apple's cs_blobs.h, by their places from its start.
-- This project's own: which versions are read, and that an identifier has at most 256 bytes.
use Rattle.std.specs.Prelude.{ℕ, ◌+◌, Bool, not, ◌&&◌, ◌==◌, nat_lt, nat_le, if◌then◌else◌, List, [], ◌∷◌, length, drop, slice_index}
use Rattle.std.specs.List.{fold}
use Rattle.byteorder.specs.Endian.{big_number}
use Rattle.cs_blob.specs.Numbers.{number_at}
use Rattle.req_tree.specs.declared.limits.TheConstants.{MOST_IDENTIFIER_BYTES}
use Rattle.code_directory.specs.declared.layout.TheConstants.{FIRST_VERSION, LAST_VERSION, LEAST_HEADER, SCATTER_VERSION, TEAM_VERSION, LONG_LIMIT_VERSION, SEGMENT_VERSION, RUNTIME_VERSION}

-- the fields of every version
abbrev pub version : List ℕ → ℕ
version whole = number_at 8 whole

-- where the digest of the first page begins
abbrev pub hash_offset : List ℕ → ℕ
hash_offset whole = number_at 16 whole

-- where the identifier begins
abbrev pub identifier_offset : List ℕ → ℕ
identifier_offset whole = number_at 20 whole

-- how many slots of parts stand before the hash offset
abbrev pub special_slots : List ℕ → ℕ
special_slots whole = number_at 24 whole

-- how many slots of pages stand from the hash offset on
abbrev pub code_slots : List ℕ → ℕ
code_slots whole = number_at 28 whole

-- how many bytes of the code are covered, in the field of four bytes
abbrev pub code_limit : List ℕ → ℕ
code_limit whole = number_at 32 whole

-- how many bytes a digest has
abbrev pub hash_size : List ℕ → ℕ
hash_size whole = slice_index whole 36

-- the type of the digests
abbrev pub hash_type : List ℕ → ℕ
hash_type whole = slice_index whole 37

-- the number of the platform
abbrev pub platform : List ℕ → ℕ
platform whole = slice_index whole 38

-- the size of a page, as the exponent of a power of two; 0 stands for one page of everything
abbrev pub page_exponent : List ℕ → ℕ
page_exponent whole = slice_index whole 39

-- from SCATTER_VERSION on
abbrev pub scatter_offset : List ℕ → ℕ
scatter_offset whole = number_at 44 whole

-- from LONG_LIMIT_VERSION on, eight bytes
abbrev pub code_limit_64 : List ℕ → ℕ
code_limit_64 whole = big_number 8 (drop 56 whole)

-- from which version on the header has how many bytes
abbrev pub header_sizes : List (ℕ × ℕ)
header_sizes =
    (FIRST_VERSION, LEAST_HEADER) ∷ (SCATTER_VERSION, 48) ∷ (TEAM_VERSION, 52) ∷ (LONG_LIMIT_VERSION, 64)
    ∷ (SEGMENT_VERSION, 88) ∷ (RUNTIME_VERSION, 96) ∷ []

-- the size of a version's header: that of the last line of the table that the version has reached
abbrev pub header_size : ℕ → ℕ
header_size v = fold (λ size (line : ℕ × ℕ). if nat_le line.0 v then line.1 else size) LEAST_HEADER header_sizes

-- the versions that are read
abbrev pub is_version : ℕ → Bool
is_version v = nat_le FIRST_VERSION v && nat_le v LAST_VERSION

-- how many bytes of the code are covered
abbrev pub limit : List ℕ → ℕ
limit whole = if nat_le LONG_LIMIT_VERSION (version whole) && not (code_limit_64 whole == 0) then code_limit_64 whole else code_limit whole

-- the bytes before the first zero
abbrev pub to_zero : List ℕ → List ℕ
to_zero [] = []
to_zero (b ∷ rest) = if b == 0 then [] else b ∷ to_zero rest

-- the identifier: from its place up to the next zero
abbrev pub identifier : List ℕ → List ℕ
identifier whole = to_zero (drop (identifier_offset whole) whole)

-- it begins behind the header, a zero ends it inside the directory, and it has 1 to 256 bytes
abbrev pub has_identifier : List ℕ → Bool
has_identifier whole =
    nat_le (header_size (version whole)) (identifier_offset whole)
    && nat_lt (identifier_offset whole + length (identifier whole)) (length whole)
    && nat_le 1 (length (identifier whole)) && nat_le (length (identifier whole)) MOST_IDENTIFIER_BYTES
