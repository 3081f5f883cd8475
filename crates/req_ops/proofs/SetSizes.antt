-- The plain bytes of a set are no more than any others that spell it.
use Rattle.std.proofs.Common.{◌≡◌, ◌≢◌, ℕ, zero, suc, ◌+◌, ◌*◌, ◌<◌, ◌≤◌, Option, Some, None, List, [], ◌∷◌, ◌++◌, length, drop, refl, sym, ap, subst, ◌∙◌, arith, inl, inr}
use Rattle.std.specs.Option.{MatchOption}
use Rattle.std.proofs.lemmas.Bool.{cases_lt}
use Rattle.std.proofs.lemmas.List.{append-nil, length-take, length-drop}
use Rattle.req_tree.specs.Tree.{Tree}
use Rattle.req_tree.specs.TreeSet.{TreeSet, part_of}
use Rattle.cs_blob.specs.SuperBlobs.{IsSuperBlob, IsPartOf, Overlap, count_of, index_end, kind_at, part_at, offset_at, length_at}
use Rattle.cs_blob.specs.Writing.{total_of}
use Rattle.req_blob.specs.Spelling.{IsSpelling, plain, plain_blob}
use Rattle.req_ops.specs.Sets.{set_magic, IsSetSpelling}
use Rattle.req_ops.specs.SetEncoding.{part_under, parts_below, plain_set}
use Rattle.req_ops.proofs.LawsBelow.{AsLong, HasTotal, length-requirement}
use Rattle.req_ops.proofs.SetSpelled.{has_set_kind}
use Rattle.req_ops.proofs.SetWritten.{total-more}
use Rattle.req_ops.proofs.Spans.{Span, total, Apart, Inside, ApartFrom, AllApart, have_room}

-- ---- the bytes of some entries: of each its place in the index, and its part

abbrev spans_of : List ℕ → List ℕ → List Span
spans_of bytes [] = []
spans_of bytes (i ∷ is) = (12 + 8 * i, 8) ∷ (offset_at bytes i, length_at bytes i) ∷ spans_of bytes is

abbrev IsOther : ℕ → List ℕ → Type 0
IsOther i [] = Unit {0}
IsOther i (j ∷ js) = (i ≢ j) × IsOther i js

abbrev AreEntries : List ℕ → List ℕ → Type 0
AreEntries bytes [] = Unit {0}
AreEntries bytes (i ∷ is) = (i < count_of bytes) × IsOther i is × AreEntries bytes is

entry_before : (bytes : List ℕ) (i j : ℕ) → IsSuperBlob set_magic bytes → i < count_of bytes → j < count_of bytes → 20 + 8 * i ≤ offset_at bytes j
entry_before bytes i j blob ai aj =
    let behind : index_end bytes ≤ offset_at bytes j = (blob.fine j aj).inside.behind in
    omega (arith, ai, behind)

entries_inside : (bytes : List ℕ) (is : List ℕ) → IsSuperBlob set_magic bytes → AreEntries bytes is → Inside 12 (length bytes) (spans_of bytes is)
entries_inside bytes [] blob h = tt
entries_inside bytes (i ∷ is) blob h =
    let fits : index_end bytes ≤ length bytes = blob.indexed.fits in
    let behind : index_end bytes ≤ offset_at bytes i = (blob.fine i h.0).inside.behind in
    let ends : offset_at bytes i + length_at bytes i ≤ length bytes = (blob.fine i h.0).inside.ends in
    let among : i < count_of bytes = h.0 in
    (omega arith, omega (arith, among, fits), (omega (arith, among, behind), ends, entries_inside bytes is blob h.2))

index_apart : (i j : ℕ) → i ≢ j → Apart (12 + 8 * i, 8) (12 + 8 * j, 8)
index_apart i j other =
    elim (cases_lt i j) [
      | inl less ↦ inl (omega (arith, less))
      | inr le ↦ elim (cases_lt j i) [
        | inl more ↦ inr (omega (arith, more))
        | inr ge ↦ let same : i ≡ j = omega (arith, le, ge) in absurd (other same)
      ]
    ]

-- what doesn't overlap lies apart
from_overlap : (bytes : List ℕ) (i j : ℕ) → (Overlap bytes i j → ⊥) → Apart (offset_at bytes i, length_at bytes i) (offset_at bytes j, length_at bytes j)
from_overlap bytes i j none =
    elim (cases_lt (offset_at bytes i) (offset_at bytes j + length_at bytes j)) [
      | inl first ↦ elim (cases_lt (offset_at bytes j) (offset_at bytes i + length_at bytes i)) [
        | inl second ↦ absurd (none (record { first = first; second = second }))
        | inr le ↦ inl le
      ]
      | inr le ↦ inr le
    ]

turned : (x y : Span) → Apart x y → Apart y x
turned x y (inl p) = inr p
turned x y (inr p) = inl p

parts_apart : (bytes : List ℕ) (i j : ℕ) → IsSuperBlob set_magic bytes → i < count_of bytes → j < count_of bytes → i ≢ j → Apart (offset_at bytes i, length_at bytes i) (offset_at bytes j, length_at bytes j)
parts_apart bytes i j blob ai aj other =
    elim (cases_lt i j) [
      | inl less ↦ from_overlap bytes i j ((blob.fine j aj).apart i less)
      | inr le ↦ elim (cases_lt j i) [
        | inl more ↦ turned (offset_at bytes j, length_at bytes j) (offset_at bytes i, length_at bytes i) (from_overlap bytes j i ((blob.fine i ai).apart j more))
        | inr ge ↦ let same : i ≡ j = omega (arith, le, ge) in absurd (other same)
      ]
    ]

index_from : (bytes : List ℕ) (i : ℕ) (js : List ℕ) → IsSuperBlob set_magic bytes → i < count_of bytes → IsOther i js → AreEntries bytes js → ApartFrom (12 + 8 * i, 8) (spans_of bytes js)
index_from bytes i [] blob ai other are = tt
index_from bytes i (j ∷ js) blob ai other are =
    let before : 20 + 8 * i ≤ offset_at bytes j = entry_before bytes i j blob ai are.0 in
    (index_apart i j other.0, (inl (omega (arith, before)), index_from bytes i js blob ai other.1 are.2))

part_from : (bytes : List ℕ) (i : ℕ) (js : List ℕ) → IsSuperBlob set_magic bytes → i < count_of bytes → IsOther i js → AreEntries bytes js → ApartFrom (offset_at bytes i, length_at bytes i) (spans_of bytes js)
part_from bytes i [] blob ai other are = tt
part_from bytes i (j ∷ js) blob ai other are =
    let before : 20 + 8 * j ≤ offset_at bytes i = entry_before bytes j i blob are.0 ai in
    (inr (omega (arith, before)), (parts_apart bytes i j blob ai are.0 other.0, part_from bytes i js blob ai other.1 are.2))

entries_apart : (bytes : List ℕ) (is : List ℕ) → IsSuperBlob set_magic bytes → AreEntries bytes is → AllApart (spans_of bytes is)
entries_apart bytes [] blob h = tt
entries_apart bytes (i ∷ is) blob h =
    let before : 20 + 8 * i ≤ offset_at bytes i = entry_before bytes i i blob h.0 h.0 in
    ((inl (omega (arith, before)), index_from bytes i is blob h.0 h.1 h.2), (part_from bytes i is blob h.0 h.1 h.2, entries_apart bytes is blob h.2))

-- ---- the entries of a set's trees

abbrev HaveKindsBelow : List ℕ → ℕ → List ℕ → Type 0
HaveKindsBelow bytes kind [] = Unit {0}
HaveKindsBelow bytes kind (i ∷ is) = (kind_at bytes i < kind) × HaveKindsBelow bytes kind is

more_kinds : (bytes : List ℕ) (kind : ℕ) (is : List ℕ) → HaveKindsBelow bytes kind is → HaveKindsBelow bytes (suc kind) is
more_kinds bytes kind [] h = tt
more_kinds bytes kind (i ∷ is) h = let low : kind_at bytes i < kind = h.0 in (omega (arith, low), more_kinds bytes kind is h.1)

is_other : (bytes : List ℕ) (kind i : ℕ) (js : List ℕ) → kind_at bytes i ≡ kind → HaveKindsBelow bytes kind js → IsOther i js
is_other bytes kind i [] is h = tt
is_other bytes kind i (j ∷ js) is h = (λ same. not_below (kind_at bytes j) kind (ap (kind_at bytes) (sym same) ∙ is) h.0, is_other bytes kind i js is h.1)
  where
    not_below : (m n : ℕ) → m ≡ n → m < n → ⊥
    not_below m n e lt = absurd (omega (arith, e, lt))

record Entries (s : TreeSet) (bytes : List ℕ) (kind : ℕ) : Type 0 where
  entries : List ℕ
  are : AreEntries bytes entries
  low : HaveKindsBelow bytes kind entries
  size : 12 + total (spans_of bytes entries) ≡ total_of (parts_below kind s)

part_size : (bytes : List ℕ) (i : ℕ) → IsSuperBlob set_magic bytes → i < count_of bytes → length (part_at bytes i) ≡ length_at bytes i
part_size bytes i blob among =
    let ends : offset_at bytes i + length_at bytes i ≤ length bytes = (blob.fine i among).inside.ends in
    omega (arith, length-take (length_at bytes i) (drop (offset_at bytes i) bytes), length-drop (offset_at bytes i) bytes, ends)

spelled_blob_size : AsLong → (tree : Tree) (part : List ℕ) → IsSpelling tree part → length part ≡ length (plain_blob tree)
spelled_blob_size long tree part is =
    let size : length part ≡ 12 + length is.expression = ap length is.blob ∙ length-requirement is.expression in
    omega (arith, size, long tree is.expression is.spelled, length-requirement (plain tree))

entries_to : AsLong → (s : TreeSet) (bytes : List ℕ) → IsSetSpelling s bytes → (kind : ℕ) → Entries s bytes kind
entries_to long s bytes is zero = record { entries = []; are = tt; low = tt; size = refl }
entries_to long s bytes is (suc kind) = by_part (part_of kind s) refl (entries_to long s bytes is kind)
  where
    told : (tree : Tree) → part_of kind s ≡ Some tree → (part : List ℕ) × IsPartOf bytes kind part × IsSpelling tree part
    told tree some =
        subst (λ (o : Option Tree). MatchOption o ((part : List ℕ) → IsPartOf bytes kind part → ⊥) (λ t. (part : List ℕ) × IsPartOf bytes kind part × IsSpelling t part)) some (is.parts kind (has_set_kind s kind tree some))

    by_part : (o : Option Tree) → part_of kind s ≡ o → Entries s bytes kind → Entries s bytes (suc kind)
    by_part None none old = record {
      entries = old.entries;
      are = old.are;
      low = more_kinds bytes kind old.entries old.low;
      size = old.size ∙ sym (ap total_of (ap (λ (o : Option Tree). parts_below kind s ++ part_under kind o) none ∙ append-nil (parts_below kind s)));
    }
    by_part (Some tree) some old =
        let h = told tree some in
        let i : ℕ = h.1.0 in
        let among : i < count_of bytes = h.1.1 in
        let at : kind_at bytes i ≡ kind = h.1.2 in
        let size : length_at bytes i ≡ length (plain_blob tree) = sym (part_size bytes i is.blob among) ∙ ap length (sym h.1.3) ∙ spelled_blob_size long tree h.0 h.2 in
        let more : total_of (parts_below (suc kind) s) ≡ total_of (parts_below kind s) + (8 + length (plain_blob tree)) =
        ap total_of (ap (λ (o : Option Tree). parts_below kind s ++ part_under kind o) some) ∙ total-more (parts_below kind s) kind (plain_blob tree) in
        record {
          entries = i ∷ old.entries;
          are = (among, is_other bytes kind i old.entries at old.low, old.are);
          low = (omega (arith, at), more_kinds bytes kind old.entries old.low);
          size = omega (arith, size, more, old.size);
        }

-- the plain bytes of a set are no more than any others that spell it
pub plain_is_short : AsLong → HasTotal → (s : TreeSet) (bytes : List ℕ) → IsSetSpelling s bytes → length (plain_set s) ≤ length bytes
unfolding plain_set
plain_is_short long has_total s bytes is =
    let all = entries_to long s bytes is 6 in
    let counted : 12 ≤ length bytes = is.blob.indexed.counted in
    let room = have_room (spans_of bytes all.entries) 12 (length bytes) counted (entries_inside bytes all.entries is.blob all.are) (entries_apart bytes all.entries is.blob all.are) in
    let size : length (plain_set s) ≡ total_of (parts_below 6 s) = has_total (record { magic = set_magic; parts = parts_below 6 s }) in
    omega (arith, room, size, all.size)
