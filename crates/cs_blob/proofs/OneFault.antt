-- Bytes have one first fault at most.
use Rattle.std.proofs.Common.{◌≡◌, ℕ, ◌<◌, ◌≤◌, List, length, take, refl, sym, ap, subst, ◌∙◌, arith, inl, inr, Option, None, Some, Bool, true, false, nat_lt}
use Rattle.std.proofs.lemmas.Bool.Decides.{nat_tests}
use Rattle.cs_blob.specs.Numbers.{number_at}
use Rattle.cs_blob.specs.Blobs.{blob_fault}
use Rattle.cs_blob.specs.SuperBlobs.{IsFine, AreFineTo, HasIndex, IndexFails, SuperFails, count_of, index_end}
use Rattle.cs_blob.specs.declared.fault.BlobFault.{BlobFault}
use Rattle.cs_blob.specs.declared.fault.BlobFault.TheVariants.{Short, BadMagic, BadLength, TooManyParts, PartOutside, PartOverlap, PartTwice}

-- what can be wrong with an entry
data Cause : Type 0 where
  outside : Cause
  twice : Cause
  overlap : Cause

abbrev fault_of : Cause → ℕ → BlobFault
fault_of outside index = PartOutside index
fault_of twice index = PartTwice index
fault_of overlap index = PartOverlap index

abbrev EntryFails : List ℕ → Cause → ℕ → Type 0
EntryFails whole outside index = IndexFails whole (PartOutside index)
EntryFails whole twice index = IndexFails whole (PartTwice index)
EntryFails whole overlap index = IndexFails whole (PartOverlap index)

fine_to : (whole : List ℕ) (c : Cause) (i : ℕ) → EntryFails whole c i → AreFineTo whole i
fine_to whole outside i h = h.0
fine_to whole twice i h = h.0
fine_to whole overlap i h = h.0

not_fine : (whole : List ℕ) (c : Cause) (i : ℕ) → EntryFails whole c i → IsFine whole i → ⊥
not_fine whole outside i h fine = h.1 fine.inside
not_fine whole twice i h fine = fine.own_kind h.2.0 h.2.1 h.2.2
not_fine whole overlap i h fine = fine.apart h.3.0 h.3.1 h.3.2

same_cause : (whole : List ℕ) (c d : Cause) (i : ℕ) → EntryFails whole c i → EntryFails whole d i → c ≡ d
same_cause whole outside outside i h k = refl
same_cause whole twice twice i h k = refl
same_cause whole overlap overlap i h k = refl
same_cause whole outside twice i h k = absurd (h.1 k.1)
same_cause whole outside overlap i h k = absurd (h.1 k.1)
same_cause whole twice outside i h k = absurd (k.1 h.1)
same_cause whole overlap outside i h k = absurd (k.1 h.1)
same_cause whole twice overlap i h k = absurd (k.2 h.2.0 h.2.1 h.2.2)
same_cause whole overlap twice i h k = absurd (h.2 k.2.0 k.2.1 k.2.2)

data Order (i j : ℕ) : Type 0 where
  less : i < j → Order i j
  same : i ≡ j → Order i j
  more : j < i → Order i j

order : (i j : ℕ) → Order i j
order i j = by_tests (nat_lt i j) (nat_lt j i) refl refl
  where
    by_tests : (a b : Bool) → nat_lt i j ≡ a → nat_lt j i ≡ b → Order i j
    by_tests true b h k = less (grind (arith, nat_tests, h))
    by_tests false true h k = more (grind (arith, nat_tests, k))
    by_tests false false h k = same (grind (arith, nat_tests, h, k))

entry_one : (whole : List ℕ) (c d : Cause) (i j : ℕ) → EntryFails whole c i → EntryFails whole d j → fault_of c i ≡ fault_of d j
entry_one whole c d i j h k = by_order (order i j)
  where
    by_order : Order i j → fault_of c i ≡ fault_of d j
    by_order (less e) = absurd (not_fine whole c i h ((fine_to whole d j k).before i e))
    by_order (more e) = absurd (not_fine whole d j k ((fine_to whole c i h).before j e))
    by_order (same e) = ap (fault_of c) e ∙ ap (λ x. fault_of x j) (same_cause whole c d j (subst (EntryFails whole c) e h) k)

no_short : (whole : List ℕ) → HasIndex whole → IndexFails whole Short → ⊥
no_short whole has (inl h) = let counted : 12 ≤ length whole = has.counted in absurd (omega (arith, counted, h))
no_short whole has (inr h) = let fits : index_end whole ≤ length whole = has.fits in absurd (omega (arith, fits, h.2))

no_many : (whole : List ℕ) → HasIndex whole → IndexFails whole TooManyParts → ⊥
no_many whole has h = let few : count_of whole ≤ 64 = has.few in absurd (omega (arith, few, h.1))

short_many : (whole : List ℕ) → IndexFails whole Short → IndexFails whole TooManyParts → ⊥
short_many whole (inl h) k = absurd (omega (arith, h, k.0))
short_many whole (inr h) k = absurd (omega (arith, h.1, k.1))

index_one : (whole : List ℕ) (f g : BlobFault) → IndexFails whole f → IndexFails whole g → f ≡ g
index_one whole BadMagic g h k = absurd h
index_one whole BadLength g h k = absurd h
index_one whole Short BadMagic h k = absurd k
index_one whole Short BadLength h k = absurd k
index_one whole Short Short h k = refl
index_one whole Short TooManyParts h k = absurd (short_many whole h k)
index_one whole Short (PartOutside j) h k = absurd (no_short whole k.0.indexed h)
index_one whole Short (PartTwice j) h k = absurd (no_short whole k.0.indexed h)
index_one whole Short (PartOverlap j) h k = absurd (no_short whole k.0.indexed h)
index_one whole TooManyParts BadMagic h k = absurd k
index_one whole TooManyParts BadLength h k = absurd k
index_one whole TooManyParts Short h k = absurd (short_many whole k h)
index_one whole TooManyParts TooManyParts h k = refl
index_one whole TooManyParts (PartOutside j) h k = absurd (no_many whole k.0.indexed h)
index_one whole TooManyParts (PartTwice j) h k = absurd (no_many whole k.0.indexed h)
index_one whole TooManyParts (PartOverlap j) h k = absurd (no_many whole k.0.indexed h)
index_one whole (PartOutside i) BadMagic h k = absurd k
index_one whole (PartOutside i) BadLength h k = absurd k
index_one whole (PartOutside i) Short h k = absurd (no_short whole h.0.indexed k)
index_one whole (PartOutside i) TooManyParts h k = absurd (no_many whole h.0.indexed k)
index_one whole (PartOutside i) (PartOutside j) h k = entry_one whole outside outside i j h k
index_one whole (PartOutside i) (PartTwice j) h k = entry_one whole outside twice i j h k
index_one whole (PartOutside i) (PartOverlap j) h k = entry_one whole outside overlap i j h k
index_one whole (PartTwice i) BadMagic h k = absurd k
index_one whole (PartTwice i) BadLength h k = absurd k
index_one whole (PartTwice i) Short h k = absurd (no_short whole h.0.indexed k)
index_one whole (PartTwice i) TooManyParts h k = absurd (no_many whole h.0.indexed k)
index_one whole (PartTwice i) (PartOutside j) h k = entry_one whole twice outside i j h k
index_one whole (PartTwice i) (PartTwice j) h k = entry_one whole twice twice i j h k
index_one whole (PartTwice i) (PartOverlap j) h k = entry_one whole twice overlap i j h k
index_one whole (PartOverlap i) BadMagic h k = absurd k
index_one whole (PartOverlap i) BadLength h k = absurd k
index_one whole (PartOverlap i) Short h k = absurd (no_short whole h.0.indexed k)
index_one whole (PartOverlap i) TooManyParts h k = absurd (no_many whole h.0.indexed k)
index_one whole (PartOverlap i) (PartOutside j) h k = entry_one whole overlap outside i j h k
index_one whole (PartOverlap i) (PartTwice j) h k = entry_one whole overlap twice i j h k
index_one whole (PartOverlap i) (PartOverlap j) h k = entry_one whole overlap overlap i j h k

none_some : (f : BlobFault) (o : Option BlobFault) → o ≡ None → o ≡ Some f → ⊥
none_some f o h k = cc

-- bytes have one first fault at most
pub one_fault : (magic : ℕ) (bytes : List ℕ) (f g : BlobFault) → SuperFails magic bytes f → SuperFails magic bytes g → f ≡ g
one_fault magic bytes f g (inl h) (inl k) = of_some f g (sym h ∙ k)
  where
    of_some : (f g : BlobFault) → ◌≡◌ {A = Option BlobFault} (Some f) (Some g) → f ≡ g
    of_some f g e = cc
one_fault magic bytes f g (inl h) (inr k) = absurd (none_some f (blob_fault magic bytes) k.0 h)
one_fault magic bytes f g (inr h) (inl k) = absurd (none_some g (blob_fault magic bytes) h.0 k)
one_fault magic bytes f g (inr h) (inr k) = index_one (take (number_at 4 bytes) bytes) f g h.1 k.1
