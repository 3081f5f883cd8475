use Rattle.std.proofs.Common.{◌≡◌, ℕ, ◌+◌, ◌<◌, false, List, length, arith}
use Rattle.code_directory.specs.Directories.{header_size, version, hash_offset, hash_size, code_slots, special_slots}
use Rattle.code_directory.specs.Slots.{are_slots_outside, SlotsInside}
use Rattle.code_directory.proofs.SlotLemmas.{Sums, sums_when, false_when, sums_of, each_code, each_special}
use Rattle.code_directory.proofs.laws.slots_are_inside.Goals as goal

sums : (whole : List ℕ) → are_slots_outside whole ≡ false → 0 < special_slots whole + code_slots whole
    → Sums (special_slots whole) (code_slots whole) (hash_size whole) (hash_offset whole) (header_size (version whole)) (length whole)
sums whole h some = sums_when (special_slots whole) (code_slots whole) (hash_size whole) (hash_offset whole) (header_size (version whole)) (length whole) h some

to : (whole : List ℕ) → are_slots_outside whole ≡ false → SlotsInside whole
to whole h = record {
  code = λ i less. each_code (special_slots whole) (code_slots whole) (hash_size whole) (hash_offset whole) (header_size (version whole)) (length whole) i (sums whole h (omega arith)) less;
  special = λ k one few. each_special (special_slots whole) (code_slots whole) (hash_size whole) (hash_offset whole) (header_size (version whole)) (length whole) k (sums whole h (omega arith)) one few;
}

back : (whole : List ℕ) → SlotsInside whole → are_slots_outside whole ≡ false
back whole h =
    false_when (special_slots whole) (code_slots whole) (hash_size whole) (hash_offset whole) (header_size (version whole)) (length whole)
    (λ some. sums_of (special_slots whole) (code_slots whole) (hash_size whole) (hash_offset whole) (header_size (version whole)) (length whole) h.code h.special some)

pub returns : goal.returns
returns c = λ whole. (to whole, back whole)
