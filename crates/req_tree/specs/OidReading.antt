-- How bytes and texts are read as object identifiers, from the left, and what is wrong first.
use Rattle.std.specs.Prelude.{ℕ, zero, suc, ◌+◌, ◌*◌, ◌%◌, ◌^◌, Bool, true, false, ◌==◌, nat_lt, nat_le, not, ◌&&◌, ◌||◌, if◌then◌else◌, List, [], ◌∷◌, ◌++◌, length, Option, None, Some, Result, Ok, Err, ◌≡◌, ◌≢◌, min, slice_index, decimal, MatchOption, MatchResult}
use Rattle.std.specs.List.{slice_split}
use Rattle.std.specs.Str.{all_ascii_digits}
use Rattle.req_tree.specs.Oid.{WriteNumbers}
use Rattle.req_tree.specs.NumericOrder.{number_of}
use Rattle.req_tree.specs.declared.fault.OidFault.{OidFault}
use Rattle.req_tree.specs.declared.fault.OidFault.TheVariants.{BadArc, ArcTooLarge, TooShort, OutOfMemory}

-- the number at the front of the bytes, after the part so far, and what follows it
abbrev pub septets_from : ℕ → List ℕ → Option (ℕ × List ℕ)
septets_from part [] = None
septets_from part (b ∷ rest) =
    if nat_lt (128 * part + b % 128) (2 ^ 32) then (if nat_lt b 128 then Some (128 * part + b % 128, rest) else septets_from (128 * part + b % 128) rest)
    else None

-- a number does not begin with 128, which would add nothing
abbrev pub septets_at : List ℕ → Option (ℕ × List ℕ)
septets_at bytes = if slice_index bytes 0 == 128 then None else septets_from 0 bytes

-- behind a number that was read whole numbers fill the rest; the count bounds how many
abbrev pub numbers_behind : ℕ → Option (ℕ × List ℕ) → Bool
numbers_behind count None = false
numbers_behind zero (Some p) = length p.1 == 0
numbers_behind (suc count) (Some p) = length p.1 == 0 || numbers_behind count (septets_at p.1)

-- whole numbers fill the bytes, and there is one
unfoldable pub is_oid : List ℕ → Bool
is_oid bytes = numbers_behind (length bytes) (septets_at bytes)

-- the words between the dots
abbrev pub arc_words : List ℕ → List (List ℕ)
arc_words text = slice_split (λ b. b == 46) text

-- 0, or digits that begin with another
abbrev pub is_arc : List ℕ → Bool
is_arc [] = false
is_arc (b ∷ []) = all_ascii_digits (b ∷ [])
is_arc (b ∷ c ∷ rest) = not (b == 48) && all_ascii_digits (b ∷ c ∷ rest)

-- a number, and the words that follow it
abbrev pub read_pair : ℕ → List (List ℕ) → Result (ℕ × List (List ℕ)) OidFault
read_pair n words = Ok (n, words)

-- the second word makes one number with the first arc
abbrev pub second_number : ℕ → List (List ℕ) → Result (ℕ × List (List ℕ)) OidFault
second_number a [] = Err TooShort
second_number a (word ∷ words) =
    if is_arc word && (a == 2 || nat_le (number_of word) 39) then (if nat_lt (40 * a + number_of word) (2 ^ 32) then read_pair (40 * a + number_of word) words else Err ArcTooLarge)
    else Err BadArc

-- the number of the first two arcs, and the words that follow
abbrev pub first_number : List (List ℕ) → Result (ℕ × List (List ℕ)) OidFault
first_number [] = Err BadArc
first_number (word ∷ words) = if is_arc word && nat_le (number_of word) 2 then second_number (number_of word) words else Err BadArc

-- one arc is one number
abbrev pub arc_number : List ℕ → Result ℕ OidFault
arc_number word = if is_arc word then (if nat_lt (number_of word) (2 ^ 32) then Ok (number_of word) else Err ArcTooLarge) else Err BadArc

-- a number before others
abbrev pub before : Result ℕ OidFault → Result (List ℕ) OidFault → Result (List ℕ) OidFault
before (Err fault) rest = Err fault
before (Ok n) (Err fault) = Err fault
before (Ok n) (Ok numbers) = Ok (n ∷ numbers)

-- the numbers of the arcs behind the second
abbrev pub later_numbers : List (List ℕ) → Result (List ℕ) OidFault
later_numbers [] = Ok []
later_numbers (word ∷ words) = before (arc_number word) (later_numbers words)

-- the first number, where there is one, before those of the words that follow
abbrev pub from_first : Result (ℕ × List (List ℕ)) OidFault → Result (List ℕ) OidFault
from_first (Err fault) = Err fault
from_first (Ok p) = before (Ok p.0) (later_numbers p.1)

-- the numbers of a text, or what is wrong first
abbrev pub numbers_of_text : List ℕ → Result (List ℕ) OidFault
numbers_of_text text = from_first (first_number (arc_words text))

-- the numbers were read and written as bytes, or the fault is the first, or there was no memory
abbrev pub ReadsNumbers : Result (List ℕ) OidFault → Result (List ℕ) OidFault → Type 0
ReadsNumbers numbers result = MatchResult result (λ bytes. (read : List ℕ) × (numbers ≡ Ok read) × WriteNumbers read bytes) (λ fault. fault ≢ OutOfMemory → numbers ≡ Err fault)
