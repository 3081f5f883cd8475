-- Which directory is used, where all pass their checks.
use Rattle.std.proofs.Common.{◌≡◌, ℕ, ◌+◌, ◌<◌, ◌==◌, Bool, true, false, cond, List, [], ◌∷◌, ◌++◌, length, drop, slice_index_or, Option, None, Some, option_map, is_some, refl, sym, ap, ◌∙◌, add-one, drop-cons, arith}
use Rattle.std.proofs.lemmas.Bool.Decides.{nat_tests}
use Rattle.std.specs.List.{flat_map, cons_option}
use Rattle.code_directory.specs.Directories.{hash_type}
use Rattle.code_directory.specs.Digests.{is_hash_type}
use Rattle.code_directory.specs.Signatures.{part_of, Placed, placed, or_later, kind_fault, kinds_fault, directory_kinds, directories_of, directories_fault, hash_order, first_of, by_hash, used}
use Rattle.code_directory.specs.declared.fault.CodeFault.{CodeFault}
use Rattle.code_directory.specs.declared.fault.CodeFault.TheVariants.{NoDirectory}
use Rattle.code_directory.proofs.SoundLemmas.{sound_of}

-- nothing is wrong first and nothing later
pub neither : (first later : Option CodeFault) → or_later first later ≡ None → (first ≡ None) × (later ≡ None)
neither None later h = (refl, h)
neither (Some fault) later h = cc

-- a signature without a fault has a first directory, and none of its directories has a fault
pub record Fine (whole : List ℕ) : Type 0 where
  pub there : is_some (part_of whole 0) ≡ true
  pub each : kinds_fault whole directory_kinds ≡ None

fine_when : (part : Option (List ℕ)) (rest : Option CodeFault) → cond (is_some part) rest (Some NoDirectory) ≡ None → (is_some part ≡ true) × (rest ≡ None)
fine_when None rest h = cc
fine_when (Some part) rest h = (refl, h)

pub fine : (whole : List ℕ) → directories_fault whole ≡ None → Fine whole
fine whole h =
    let both = fine_when (part_of whole 0) (kinds_fault whole directory_kinds) h in
    record { there = both.0; each = both.1 }

without : (part : Option (List ℕ)) (rest : Option CodeFault) → part ≡ None → cond (is_some part) rest (Some NoDirectory) ≡ Some NoDirectory
without None rest h = refl
without (Some part) rest h = cc

pub no_directory : (whole : List ℕ) → part_of whole 0 ≡ None → directories_fault whole ≡ Some NoDirectory
no_directory whole h = without (part_of whole 0) (kinds_fault whole directory_kinds) h

within : (part : Option (List ℕ)) (rest : Option CodeFault) (bytes : List ℕ) → part ≡ Some bytes → cond (is_some part) rest (Some NoDirectory) ≡ rest
within None rest bytes h = cc
within (Some part) rest bytes h = refl

-- where there is a first directory, what is wrong is what is wrong with one
pub directories_are : (whole part : List ℕ) → part_of whole 0 ≡ Some part → kinds_fault whole directory_kinds ≡ directories_fault whole
directories_are whole part h = sym (within (part_of whole 0) (kinds_fault whole directory_kinds) part h)

-- an empty list has empty parts
both_empty : (front back : List Placed) → first_of (front ++ back) ≡ None → (first_of front ≡ None) × (first_of back ≡ None)
both_empty [] back h = (refl, h)
both_empty (d ∷ front) back h = cc

not_first : (t : Bool) (d : Placed) (rest : List Placed) → first_of (cond t (d ∷ rest) rest) ≡ None → t ≡ false
not_first true d rest h = cc
not_first false d rest h = refl

no_type : (kind : ℕ) → is_hash_type kind ≡ true → (kind == 4) ≡ false → (kind == 2) ≡ false → (kind == 3) ≡ false → (kind == 1) ≡ false → ⊥
no_type kind h a b c d = grind (arith, nat_tests)

-- some directory is used where one has a known type of digests
some_used : (d : Placed) (rest : List Placed) → is_hash_type (hash_type d.bytes) ≡ true → first_of (flat_map (by_hash (d ∷ rest)) hash_order) ≡ None → ⊥
some_used d rest known none =
    let at_4 = both_empty (by_hash (d ∷ rest) 4) _ none in
    let at_2 = both_empty (by_hash (d ∷ rest) 2) _ at_4.1 in
    let at_3 = both_empty (by_hash (d ∷ rest) 3) _ at_2.1 in
    let at_1 = both_empty (by_hash (d ∷ rest) 1) _ at_3.1 in
    no_type (hash_type d.bytes) known
    (not_first (hash_type d.bytes == 4) d (by_hash rest 4) at_4.0) (not_first (hash_type d.bytes == 2) d (by_hash rest 2) at_2.0)
    (not_first (hash_type d.bytes == 3) d (by_hash rest 3) at_3.0) (not_first (hash_type d.bytes == 1) d (by_hash rest 1) at_1.0)

first_is_known : (part : Option (List ℕ)) (rest : List Placed) → is_some part ≡ true → kind_fault 0 part ≡ None
    → first_of (flat_map (by_hash (cons_option (option_map (placed 0) part) rest)) hash_order) ≡ None → ⊥
first_is_known None rest there fine none = cc
first_is_known (Some part) rest there fine none = some_used (placed 0 part) rest (sound_of 0 part fine).hashes none

-- a signature without a fault has a directory that is used
pub one_is_used : (whole : List ℕ) → directories_fault whole ≡ None → used whole ≡ None → ⊥
one_is_used whole h none =
    let all = fine whole h in
    let first = neither (kind_fault 0 (part_of whole 0)) _ all.each in
    first_is_known (part_of whole 0) (directories_of whole (4096 ∷ 4097 ∷ 4098 ∷ 4099 ∷ 4100 ∷ [])) all.there first.0 none

first_in_front : (front back : List Placed) (d : Placed) → Some d ≡ first_of front → first_of (front ++ back) ≡ Some d
first_in_front [] back d h = cc
first_in_front (x ∷ front) back d h = sym h

none_in_front : (front back : List Placed) → None ≡ first_of front → first_of (front ++ back) ≡ first_of back
none_in_front [] back h = refl
none_in_front (x ∷ front) back h = cc

next_at : (list : List ℕ) (i : ℕ) → i < length list → drop i list ≡ slice_index_or list i 0 ∷ drop (i + 1) list
next_at list i h = rw (add-one, drop-cons list i 0) refl

abbrev in_order : List Placed → List ℕ → Option Placed
in_order all order = first_of (flat_map (by_hash all) order)

-- the first type of digests that some directory has, from a place of the order on
pub found_at : (all : List Placed) (order : List ℕ) (i : ℕ) (d : Placed) → i < length order → in_order all (drop i order) ≡ in_order all order
    → Some d ≡ first_of (by_hash all (slice_index_or order i 0)) → Some d ≡ in_order all order
found_at all order i d less same h =
    sym (first_in_front (by_hash all (slice_index_or order i 0)) (flat_map (by_hash all) (drop (i + 1) order)) d h) ∙ sym (ap (in_order all) (next_at order i less)) ∙ same

pub passed_at : (all : List Placed) (order : List ℕ) (i : ℕ) → i < length order → in_order all (drop i order) ≡ in_order all order
    → None ≡ first_of (by_hash all (slice_index_or order i 0)) → in_order all (drop (i + 1) order) ≡ in_order all order
passed_at all order i less same h =
    sym (none_in_front (by_hash all (slice_index_or order i 0)) (flat_map (by_hash all) (drop (i + 1) order)) h) ∙ sym (ap (in_order all) (next_at order i less)) ∙ same

-- what is known of the types from a place on is known of the one there and of those behind it
pub fine_at : (whole kinds : List ℕ) (i : ℕ) → i < length kinds → kinds_fault whole (drop i kinds) ≡ None
    → (kind_fault (slice_index_or kinds i 0) (part_of whole (slice_index_or kinds i 0)) ≡ None) × (kinds_fault whole (drop (i + 1) kinds) ≡ None)
fine_at whole kinds i less h =
    neither (kind_fault (slice_index_or kinds i 0) (part_of whole (slice_index_or kinds i 0))) (kinds_fault whole (drop (i + 1) kinds))
    (sym (ap (kinds_fault whole) (next_at kinds i less)) ∙ h)

first_when : (t : Bool) (p d : Placed) (rest : List Placed) → Some d ≡ first_of (cond t (p ∷ []) []) → first_of (cond t (p ∷ rest) rest) ≡ Some d
first_when true p d rest h = sym h
first_when false p d rest h = cc

none_when : (t : Bool) (p : Placed) (rest : List Placed) → None ≡ first_of (cond t (p ∷ []) []) → first_of (cond t (p ∷ rest) rest) ≡ first_of rest
none_when true p rest h = cc
none_when false p rest h = refl

first_with : (one : Option Placed) (rest : List Placed) (kind : ℕ) (d : Placed) → Some d ≡ first_of (by_hash (cons_option one []) kind) → first_of (by_hash (cons_option one rest) kind) ≡ Some d
first_with None rest kind d h = cc
first_with (Some p) rest kind d h = first_when (hash_type p.bytes == kind) p d (by_hash rest kind) h

none_with : (one : Option Placed) (rest : List Placed) (kind : ℕ) → None ≡ first_of (by_hash (cons_option one []) kind) → first_of (by_hash (cons_option one rest) kind) ≡ first_of (by_hash rest kind)
none_with None rest kind h = refl
none_with (Some p) rest kind h = none_when (hash_type p.bytes == kind) p (by_hash rest kind) h

abbrev with_kinds : List ℕ → ℕ → List ℕ → Option Placed
with_kinds whole hash kinds = first_of (by_hash (directories_of whole kinds) hash)

-- the first type of part that has a directory of these digests, from a place on
pub found_kind : (whole kinds : List ℕ) (hash i : ℕ) (d : Placed) → i < length kinds → with_kinds whole hash (drop i kinds) ≡ with_kinds whole hash kinds
    → Some d ≡ with_kinds whole hash (slice_index_or kinds i 0 ∷ []) → Some d ≡ with_kinds whole hash kinds
found_kind whole kinds hash i d less same h =
    sym (first_with (option_map (placed (slice_index_or kinds i 0)) (part_of whole (slice_index_or kinds i 0))) (directories_of whole (drop (i + 1) kinds)) hash d h)
    ∙ sym (ap (with_kinds whole hash) (next_at kinds i less)) ∙ same

pub passed_kind : (whole kinds : List ℕ) (hash i : ℕ) → i < length kinds → with_kinds whole hash (drop i kinds) ≡ with_kinds whole hash kinds
    → None ≡ with_kinds whole hash (slice_index_or kinds i 0 ∷ []) → with_kinds whole hash (drop (i + 1) kinds) ≡ with_kinds whole hash kinds
passed_kind whole kinds hash i less same h =
    sym (none_with (option_map (placed (slice_index_or kinds i 0)) (part_of whole (slice_index_or kinds i 0))) (directories_of whole (drop (i + 1) kinds)) hash h)
    ∙ sym (ap (with_kinds whole hash) (next_at kinds i less)) ∙ same
