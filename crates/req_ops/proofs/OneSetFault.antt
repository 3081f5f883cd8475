-- Bytes that are no set have one first fault.
use Rattle.std.proofs.Common.{◌≡◌, ◌≢◌, ℕ, ◌<◌, ◌≤◌, Result, Ok, Err, List, [], ◌++◌, length, refl, sym, ap, subst, ◌∙◌, arith, inl, inr}
use Rattle.std.proofs.lemmas.Bool.{cases_lt}
use Rattle.std.proofs.lemmas.List.{append-nil}
use Rattle.req_tree.specs.Tree.{Tree}
use Rattle.cs_blob.specs.SuperBlobs.{IsSuperBlob, SuperFails}
use Rattle.cs_blob.specs.declared.fault.BlobFault.{BlobFault}
use Rattle.req_blob.specs.declared.fault.OpsFault.{OpsFault}
use Rattle.req_blob.specs.declared.limits.TheConstants.{MOST_BYTES}
use Rattle.req_ops.specs.declared.fault.SetFault.{SetFault}
use Rattle.req_ops.specs.declared.fault.SetFault.TheVariants.{Blob, TooLong, Trailing, BadSetKind, Part, OutOfMemory}
use Rattle.req_ops.specs.Sets.{set_magic, ReadTo, PartFails, StopsAt, SetFails}
use Rattle.req_ops.proofs.LawsBelow.{OneBlob, NoFault}

-- there_is_one_first_fault of cs_blob
abbrev pub OneSuperFault : Type 0
OneSuperFault = (magic : ℕ) (bytes : List ℕ) (first second : BlobFault) → SuperFails magic bytes first → SuperFails magic bytes second → first ≡ second

not_both : (tree : Tree) (why : OpsFault) (r : Result Tree OpsFault) → r ≡ Ok tree → r ≡ Err why → ⊥
not_both tree why r h k = cc

one_err : (why other : OpsFault) (r : Result Tree OpsFault) → r ≡ Err why → r ≡ Err other → why ≡ other
one_err why other r h k = cc

-- an entry before which others were read doesn't fail, where it was read itself
read_before : (whole : List ℕ) (i j : ℕ) (f : SetFault) → ReadTo whole j → i < j → PartFails whole i f → f ≢ OutOfMemory → ⊥
read_before whole i j (Blob why) read lt h other = h
read_before whole i j TooLong read lt h other = h
read_before whole i j (Trailing at) read lt h other = h
read_before whole i j (BadSetKind index) read lt h other = h.1 (read i lt).0
read_before whole i j (Part index why) read lt h other = not_both (read i lt).1.0 why _ (read i lt).1.1 h.2
read_before whole i j OutOfMemory read lt h other = other refl

one_part : (whole : List ℕ) (i : ℕ) (f g : SetFault) → PartFails whole i f → PartFails whole i g → f ≢ OutOfMemory → g ≢ OutOfMemory → f ≡ g
one_part whole i (Blob why) g h k nf ng = absurd h
one_part whole i TooLong g h k nf ng = absurd h
one_part whole i (Trailing at) g h k nf ng = absurd h
one_part whole i OutOfMemory g h k nf ng = absurd (nf refl)
one_part whole i (BadSetKind a) (Blob why) h k nf ng = absurd k
one_part whole i (BadSetKind a) TooLong h k nf ng = absurd k
one_part whole i (BadSetKind a) (Trailing at) h k nf ng = absurd k
one_part whole i (BadSetKind a) OutOfMemory h k nf ng = absurd (ng refl)
one_part whole i (BadSetKind a) (BadSetKind b) h k nf ng = ap BadSetKind (h.0 ∙ sym k.0)
one_part whole i (BadSetKind a) (Part b why) h k nf ng = absurd (h.1 k.1)
one_part whole i (Part a why) (Blob e) h k nf ng = absurd k
one_part whole i (Part a why) TooLong h k nf ng = absurd k
one_part whole i (Part a why) (Trailing at) h k nf ng = absurd k
one_part whole i (Part a why) OutOfMemory h k nf ng = absurd (ng refl)
one_part whole i (Part a why) (BadSetKind b) h k nf ng = absurd (k.1 h.1)
one_part whole i (Part a why) (Part b other) h k nf ng = ap (λ (n : ℕ). Part n why) (h.0 ∙ sym k.0) ∙ ap (Part b) (one_err why other _ h.2 k.2)

one_stop : (whole : List ℕ) (f g : SetFault) → StopsAt whole f → StopsAt whole g → f ≢ OutOfMemory → g ≢ OutOfMemory → f ≡ g
one_stop whole f g s t nf ng =
    elim (cases_lt s.index t.index) [
      | inl lt ↦ absurd (read_before whole s.index t.index f t.before lt s.fails nf)
      | inr le ↦ elim (cases_lt t.index s.index) [
        | inl lt ↦ absurd (read_before whole t.index s.index g s.before lt t.fails ng)
        | inr ge ↦
            let same : s.index ≡ t.index = omega (arith, le, ge) in
            one_part whole t.index f g (subst (λ (k : ℕ). PartFails whole k f) same s.fails) t.fails nf ng
      ]
    ]

-- bytes that are one super-blob have nothing behind it
no_rest : OneBlob → (bytes whole rest : List ℕ) → IsSuperBlob set_magic whole → bytes ≡ whole ++ rest → IsSuperBlob set_magic bytes → (whole ≡ bytes) × (rest ≡ [])
no_rest one bytes whole rest s is t = one set_magic bytes whole rest bytes [] s.blob is t.blob (sym (append-nil bytes))

not_long : (whole other : List ℕ) → whole ≡ other → MOST_BYTES < length whole → length other ≤ MOST_BYTES → ⊥
not_long whole other same long short = absurd (omega (arith, ap length same, long, short))

-- two faults of bytes, neither of them for memory, are one
pub one_set_fault : OneSuperFault → OneBlob → NoFault → (bytes : List ℕ) (f g : SetFault) → SetFails bytes f → SetFails bytes g → f ≢ OutOfMemory → g ≢ OutOfMemory → f ≡ g
one_set_fault super one none bytes OutOfMemory g h k nf ng = absurd (nf refl)
one_set_fault super one none bytes (Blob why) OutOfMemory h k nf ng = absurd (ng refl)
one_set_fault super one none bytes (Blob why) (Blob other) h k nf ng = ap Blob (super set_magic bytes why other h k)
one_set_fault super one none bytes (Blob why) TooLong h k nf ng = absurd (none set_magic bytes k.0 k.1 why h k.2 k.3)
one_set_fault super one none bytes (Blob why) (Trailing at) h k nf ng = absurd (none set_magic bytes k.0 k.1 why h k.2 k.3)
one_set_fault super one none bytes (Blob why) (BadSetKind i) h k nf ng = absurd (none set_magic bytes bytes [] why h k.0 (sym (append-nil bytes)))
one_set_fault super one none bytes (Blob why) (Part i e) h k nf ng = absurd (none set_magic bytes bytes [] why h k.0 (sym (append-nil bytes)))
one_set_fault super one none bytes TooLong OutOfMemory h k nf ng = absurd (ng refl)
one_set_fault super one none bytes TooLong (Blob why) h k nf ng = absurd (none set_magic bytes h.0 h.1 why k h.2 h.3)
one_set_fault super one none bytes TooLong TooLong h k nf ng = refl
one_set_fault super one none bytes TooLong (Trailing at) h k nf ng = absurd (not_long h.0 k.0 (one set_magic bytes h.0 h.1 k.0 k.1 h.2.blob h.3 k.2.blob k.3).0 h.4 k.4)
one_set_fault super one none bytes TooLong (BadSetKind i) h k nf ng = absurd (not_long h.0 bytes (no_rest one bytes h.0 h.1 h.2 h.3 k.0).0 h.4 k.1)
one_set_fault super one none bytes TooLong (Part i e) h k nf ng = absurd (not_long h.0 bytes (no_rest one bytes h.0 h.1 h.2 h.3 k.0).0 h.4 k.1)
one_set_fault super one none bytes (Trailing at) OutOfMemory h k nf ng = absurd (ng refl)
one_set_fault super one none bytes (Trailing at) (Blob why) h k nf ng = absurd (none set_magic bytes h.0 h.1 why k h.2 h.3)
one_set_fault super one none bytes (Trailing at) TooLong h k nf ng = absurd (not_long k.0 h.0 (one set_magic bytes k.0 k.1 h.0 h.1 k.2.blob k.3 h.2.blob h.3).0 k.4 h.4)
one_set_fault super one none bytes (Trailing at) (Trailing to) h k nf ng = ap Trailing (h.6 ∙ ap length (one set_magic bytes h.0 h.1 k.0 k.1 h.2.blob h.3 k.2.blob k.3).0 ∙ sym k.6)
one_set_fault super one none bytes (Trailing at) (BadSetKind i) h k nf ng = absurd (h.5 (no_rest one bytes h.0 h.1 h.2 h.3 k.0).1)
one_set_fault super one none bytes (Trailing at) (Part i e) h k nf ng = absurd (h.5 (no_rest one bytes h.0 h.1 h.2 h.3 k.0).1)
one_set_fault super one none bytes (BadSetKind i) OutOfMemory h k nf ng = absurd (ng refl)
one_set_fault super one none bytes (BadSetKind i) (Blob why) h k nf ng = absurd (none set_magic bytes bytes [] why k h.0 (sym (append-nil bytes)))
one_set_fault super one none bytes (BadSetKind i) TooLong h k nf ng = absurd (not_long k.0 bytes (no_rest one bytes k.0 k.1 k.2 k.3 h.0).0 k.4 h.1)
one_set_fault super one none bytes (BadSetKind i) (Trailing at) h k nf ng = absurd (k.5 (no_rest one bytes k.0 k.1 k.2 k.3 h.0).1)
one_set_fault super one none bytes (BadSetKind i) (BadSetKind j) h k nf ng = one_stop bytes (BadSetKind i) (BadSetKind j) h.2 k.2 nf ng
one_set_fault super one none bytes (BadSetKind i) (Part j e) h k nf ng = one_stop bytes (BadSetKind i) (Part j e) h.2 k.2 nf ng
one_set_fault super one none bytes (Part i e) OutOfMemory h k nf ng = absurd (ng refl)
one_set_fault super one none bytes (Part i e) (Blob why) h k nf ng = absurd (none set_magic bytes bytes [] why k h.0 (sym (append-nil bytes)))
one_set_fault super one none bytes (Part i e) TooLong h k nf ng = absurd (not_long k.0 bytes (no_rest one bytes k.0 k.1 k.2 k.3 h.0).0 k.4 h.1)
one_set_fault super one none bytes (Part i e) (Trailing at) h k nf ng = absurd (k.5 (no_rest one bytes k.0 k.1 k.2 k.3 h.0).1)
one_set_fault super one none bytes (Part i e) (BadSetKind j) h k nf ng = one_stop bytes (Part i e) (BadSetKind j) h.2 k.2 nf ng
one_set_fault super one none bytes (Part i e) (Part j f) h k nf ng = one_stop bytes (Part i e) (Part j f) h.2 k.2 nf ng
