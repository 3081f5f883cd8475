-- Bytes that begin with a super-blob have no fault, and an index fails where the blob before it is read.
use Rattle.std.proofs.Common.{◌≡◌, ℕ, ◌≤◌, List, ◌++◌, length, sym, subst, arith, inl, inr}
use Rattle.cs_blob.specs.Blobs.{IsBlob}
use Rattle.cs_blob.specs.SuperBlobs.{IsSuperBlob, IndexFails, SuperFails, count_of, index_end}
use Rattle.cs_blob.specs.declared.fault.BlobFault.{BlobFault}
use Rattle.cs_blob.specs.declared.fault.BlobFault.TheVariants.{Short, BadMagic, BadLength, TooManyParts, PartOutside, PartOverlap, PartTwice}
use Rattle.cs_blob.proofs.BlobsAtFronts.{no_fault, whole_is, no_blob}

-- an index that fails after the blob was read
pub fails_behind : (magic : ℕ) (bytes whole rest : List ℕ) (fault : BlobFault) → IsBlob magic whole → bytes ≡ whole ++ rest → IndexFails whole fault → SuperFails magic bytes fault
fails_behind magic bytes whole rest fault blob is fails =
    inr (no_fault magic bytes whole rest blob is, subst (λ (w : List ℕ). IndexFails w fault) (sym (whole_is magic bytes whole rest blob is)) fails)

-- nothing fails in an index where all is fine
no_index_fault : (magic : ℕ) (whole : List ℕ) (fault : BlobFault) → IsSuperBlob magic whole → IndexFails whole fault → ⊥
no_index_fault magic whole Short s (inl h) = let counted : 12 ≤ length whole = s.indexed.counted in absurd (omega (arith, counted, h))
no_index_fault magic whole Short s (inr h) = let fits : index_end whole ≤ length whole = s.indexed.fits in absurd (omega (arith, fits, h.2))
no_index_fault magic whole BadMagic s h = h
no_index_fault magic whole BadLength s h = h
no_index_fault magic whole TooManyParts s h = let few : count_of whole ≤ 64 = s.indexed.few in absurd (omega (arith, few, h.1))
no_index_fault magic whole (PartOutside index) s h = h.1 (s.fine index h.0.among).inside
no_index_fault magic whole (PartTwice index) s h = (s.fine index h.0.among).own_kind h.2.0 h.2.1 h.2.2
no_index_fault magic whole (PartOverlap index) s h = (s.fine index h.0.among).apart h.3.0 h.3.1 h.3.2

-- bytes that begin with a super-blob don't fail
pub no_super : (magic : ℕ) (bytes whole rest : List ℕ) (fault : BlobFault) → SuperFails magic bytes fault → IsSuperBlob magic whole → bytes ≡ whole ++ rest → ⊥
no_super magic bytes whole rest fault (inl h) s is = no_blob magic bytes whole rest fault h s.blob is
no_super magic bytes whole rest fault (inr h) s is =
    no_index_fault magic whole fault s (subst (λ (w : List ℕ). IndexFails w fault) (whole_is magic bytes whole rest s.blob is) h.1)
