-- The laws of the crates below that the lemmas here take as arguments, each as its public function says it,
-- and small facts on lists.
use Rattle.std.proofs.Common.{◌≡◌, ◌≢◌, ℕ, ◌+◌, ◌*◌, ◌^◌, ◌<◌, ◌≤◌, false, List, [], ◌++◌, length, take, drop, None, Result, Ok, Err, refl, arith, get_or, ◌⊎◌, inl, inr, length-append}
use Rattle.std.proofs.lemmas.Bool.{cases_lt}
use Rattle.std.proofs.lemmas.List.{get_or-drop, get_or-take, get_or_past, length-take}
use Rattle.req_tree.specs.Tree.{Tree}
use Rattle.req_tree.specs.Oid.{IsBytes}
use Rattle.req_tree.specs.Spellable.{IsEncodable}
use Rattle.cs_blob.specs.Numbers.{word}
use Rattle.cs_blob.specs.Blobs.{IsBlob}
use Rattle.cs_blob.specs.SuperBlobs.{IsSuperBlob, SuperFails}
use Rattle.cs_blob.specs.Writing.{Draft, has_kind, total_of, add_fault, written}
use Rattle.cs_blob.specs.declared.limits.TheConstants.{GREATEST_SIZE, MOST_PARTS}
use Rattle.cs_blob.specs.declared.fault.BlobFault.{BlobFault}
use Rattle.req_blob.specs.declared.fault.OpsFault.{OpsFault}
use Rattle.req_blob.specs.declared.fault.OpsFault.TheVariants as fault
use Rattle.req_blob.specs.declared.limits.TheConstants.{MOST_BYTES}
use Rattle.req_blob.specs.Spelling.{Spells, IsSpelling, plain, plain_blob, requirement, requirement_magic}
use Rattle.req_blob.specs.Decoding.{decoded}
use Rattle.req_blob.specs.Encoding.{encoded}

-- bytes_are_read_where_they_spell of req_blob
abbrev pub ReadsWhereSpelt : Type 0
ReadsWhereSpelt = (bytes : List ℕ) (tree : Tree) → IsBytes bytes → (decoded bytes ≡ Ok tree → IsSpelling tree bytes) × (IsSpelling tree bytes → decoded bytes ≡ Ok tree)

-- a_blob_spells_one_tree of req_blob
abbrev pub OneTree : Type 0
OneTree = (first second : Tree) (bytes : List ℕ) → IsSpelling first bytes → IsSpelling second bytes → first ≡ second

-- what_is_spelt_can_be_written of req_blob
abbrev pub CanWrite : Type 0
CanWrite = (tree : Tree) (bytes : List ℕ) → IsSpelling tree bytes → IsEncodable tree

-- spellings_are_as_long_as_the_plain_one of req_blob
abbrev pub AsLong : Type 0
AsLong = (tree : Tree) (bytes : List ℕ) → Spells tree bytes → length bytes ≡ length (plain tree)

-- a_requirement_is_a_blob of req_blob
abbrev pub IsBlobOf : Type 0
IsBlobOf = (expression : List ℕ) → length (requirement expression) < 2 ^ 32 → IsBlob requirement_magic (requirement expression)

-- what_is_refused_is_too_long of req_blob
abbrev pub RefusedIsLong : Type 0
RefusedIsLong = (why : OpsFault) (tree : Tree) → (why ≢ fault.OutOfMemory → encoded tree ≡ Err why) → (why ≡ fault.OutOfMemory) ⊎ ((why ≡ fault.TooLong) × (MOST_BYTES < length (plain_blob tree)))

-- bytes_begin_with_one_blob of cs_blob
abbrev pub OneBlob : Type 0
OneBlob = (magic : ℕ) (bytes whole rest other behind : List ℕ) → IsBlob magic whole → bytes ≡ whole ++ rest → IsBlob magic other → bytes ≡ other ++ behind → (whole ≡ other) × (rest ≡ behind)

-- super_blobs_have_no_fault of cs_blob
abbrev pub NoFault : Type 0
NoFault = (magic : ℕ) (bytes whole rest : List ℕ) (why : BlobFault) → SuperFails magic bytes why → IsSuperBlob magic whole → bytes ≡ whole ++ rest → ⊥

-- a_part_fits_where_there_is_room of cs_blob
abbrev pub PartFits : Type 0
PartFits = (parts : List (ℕ × List ℕ)) (kind : ℕ) (part : List ℕ) → has_kind parts kind ≡ false → length parts < MOST_PARTS → total_of parts + (8 + length part) ≤ GREATEST_SIZE → add_fault parts kind part ≡ None

-- a_super_blob_has_its_total of cs_blob
abbrev pub HasTotal : Type 0
HasTotal = (draft : Draft) → length (written draft) ≡ total_of draft.parts

-- one result has one value
pub ok_is : {E A : Type 0} (x y : A) → ◌≡◌ {A = Result A E} (Ok x) (Ok y) → x ≡ y
ok_is x y e = cc

-- what is left of bytes are bytes
pub IsBytes-drop : (n : ℕ) (bytes : List ℕ) → IsBytes bytes → IsBytes (drop n bytes)
IsBytes-drop n bytes h i = rw get_or-drop (h (n + i))

-- a front of bytes are bytes
pub IsBytes-take : (n : ℕ) (bytes : List ℕ) → IsBytes bytes → IsBytes (take n bytes)
IsBytes-take n bytes h i =
    elim (cases_lt i n) [
      | inl lt ↦ rw (get_or-take n bytes i 0 lt) (h i)
      | inr le ↦ rw (get_or_past (take n bytes) i 0 (omega (arith, length-take n bytes))) (omega arith)
    ]

length-word : (n : ℕ) → length (word n) ≡ 4
unfolding word
length-word n = refl

-- a requirement has 12 bytes before its expression
pub length-requirement : (expression : List ℕ) → length (requirement expression) ≡ 12 + length expression
length-requirement expression =
    let first : length (word requirement_magic) ≡ 4 = length-word requirement_magic in
    let second : length (word (12 + length expression)) ≡ 4 = length-word (12 + length expression) in
    let third : length (word 1) ≡ 4 = length-word 1 in
    omega (arith, first, second, third, length-append (word requirement_magic) (word (12 + length expression) ++ (word 1 ++ expression)), length-append (word (12 + length expression)) (word 1 ++ expression), length-append (word 1) expression)
