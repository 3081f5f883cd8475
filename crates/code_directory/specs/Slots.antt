-- The slots of a code directory: digests side by side, those of parts before the hash offset and those of
-- pages behind it (CS_CodeDirectory of Apple's cs_blobs.h).
use Rattle.std.specs.Prelude.{ℕ, ◌+◌, ◌-◌, ◌*◌, ◌<◌, ◌≤◌, Bool, not, ◌&&◌, ◌||◌, ◌==◌, nat_lt, nat_le, if◌then◌else◌, List, length, take, drop, Option, None, Some}
use Rattle.std.specs.List.{list_all}
use Rattle.code_directory.specs.Directories.{header_size, version, hash_offset, hash_size, code_slots, special_slots}

-- the slot of a page
abbrev pub code_slot : List ℕ → ℕ → List ℕ
code_slot whole i = take (hash_size whole) (drop (hash_offset whole + i * hash_size whole) whole)

-- zeros alone
abbrev pub is_blank : List ℕ → Bool
is_blank bytes = list_all (λ b. b == 0) bytes

-- the bytes of a slot, or nothing where they are zeros alone
abbrev pub unless_blank : List ℕ → Option (List ℕ)
unless_blank slot = if is_blank slot then None else Some slot

-- the bytes of a slot before the hash offset, counted from 1 backwards
abbrev pub bytes_before : List ℕ → ℕ → List ℕ
bytes_before whole k = take (hash_size whole) (drop (hash_offset whole - k * hash_size whole) whole)

-- the slot of a part; one of zeros is absent
abbrev pub special_slot : List ℕ → ℕ → Option (List ℕ)
special_slot whole k = if nat_le 1 k && nat_le k (special_slots whole) then unless_blank (bytes_before whole k) else None

-- there are slots, and the outermost of them don't lie behind the header and inside the directory
abbrev pub are_slots_outside : List ℕ → Bool
are_slots_outside whole =
    not (special_slots whole + code_slots whole == 0)
    && (nat_lt (hash_offset whole) (header_size (version whole) + special_slots whole * hash_size whole)
    || nat_lt (length whole) (hash_offset whole + code_slots whole * hash_size whole))

-- bytes from a place on lie behind the header and inside the directory
abbrev pub LiesInside : List ℕ → ℕ → Type 0
LiesInside whole place = (header_size (version whole) ≤ place) × (place + hash_size whole ≤ length whole)

-- the same, slot by slot: each begins behind the header and ends inside the directory
pub record SlotsInside (whole : List ℕ) : Type 0 where
  pub code : (i : ℕ) → i < code_slots whole → LiesInside whole (hash_offset whole + i * hash_size whole)
  pub special : (k : ℕ) → 1 ≤ k → k ≤ special_slots whole → (k * hash_size whole ≤ hash_offset whole) × LiesInside whole (hash_offset whole - k * hash_size whole)
