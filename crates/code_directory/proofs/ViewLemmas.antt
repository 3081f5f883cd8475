-- Bytes have one view or one first fault.
use Rattle.std.proofs.Common.{◌≡◌, ℕ, List, ◌++◌, Option, None, Some, inl, inr, sym, ap, ◌∙◌}
use Rattle.cs_blob.specs.Blobs.{IsBlob}
use Rattle.cs_blob.specs.SuperBlobs.{IsSuperBlob, SuperFails}
use Rattle.cs_blob.specs.declared.fault.BlobFault.{BlobFault}
use Rattle.code_directory.specs.declared.layout.TheConstants.{SIGNATURE_MAGIC}
use Rattle.code_directory.specs.declared.fault.CodeFault.{CodeFault}
use Rattle.code_directory.specs.declared.fault.CodeFault.TheVariants.{Super}
use Rattle.code_directory.specs.Signatures.{View, Views, Placed, placed, DirectoryFails, SignatureFails, directories_fault, used}

-- laws of blobs
abbrev pub OneBlob : Type 0
OneBlob = (magic : ℕ) (bytes whole rest other behind : List ℕ) → IsBlob magic whole → bytes ≡ whole ++ rest → IsBlob magic other → bytes ≡ other ++ behind → (whole ≡ other) × (rest ≡ behind)

abbrev pub NoFault : Type 0
NoFault = (magic : ℕ) (bytes whole rest : List ℕ) (why : BlobFault) → SuperFails magic bytes why → IsSuperBlob magic whole → bytes ≡ whole ++ rest → ⊥

abbrev pub OneFault : Type 0
OneFault = (magic : ℕ) (bytes : List ℕ) (first second : BlobFault) → SuperFails magic bytes first → SuperFails magic bytes second → first ≡ second

abbrev view_of : List ℕ → Placed → View
view_of whole d = record { whole = whole; kind = d.kind; directory = d.bytes }

abbrev placed_or : Placed → Option Placed → Placed
placed_or d None = d
placed_or d (Some other) = other

abbrev fault_or : CodeFault → Option CodeFault → CodeFault
fault_or fault None = fault
fault_or fault (Some other) = other

pub one_view : OneBlob → (bytes : List ℕ) (view other : View) → Views bytes view → Views bytes other → view ≡ other
one_view law bytes view other v o =
    let whole : view.whole ≡ other.whole = (law SIGNATURE_MAGIC bytes view.whole v.rest other.whole o.rest v.blob.blob v.bytes_are o.blob.blob o.bytes_are).0 in
    let both = sym v.use_is ∙ ap used whole ∙ o.use_is in
    let directory : placed view.kind view.directory ≡ placed other.kind other.directory = ap (placed_or (placed view.kind view.directory)) both in
    ap (λ w. view_of w (placed view.kind view.directory)) whole ∙ ap (view_of other.whole) directory

same_super : (first second : CodeFault) (why other : BlobFault) → first ≡ Super why → second ≡ Super other → why ≡ other → first ≡ second
same_super first second why other f s same = f ∙ ap Super same ∙ sym s

same_fault : OneBlob → (bytes : List ℕ) (first second : CodeFault) → DirectoryFails bytes first → DirectoryFails bytes second → first ≡ second
same_fault law bytes first second f s =
    let whole : f.whole ≡ s.whole = (law SIGNATURE_MAGIC bytes f.whole f.rest s.whole s.rest f.blob.blob f.bytes_are s.blob.blob s.bytes_are).0 in
    ap (fault_or first) (sym f.first ∙ ap directories_fault whole ∙ s.first)

pub one_fault : OneBlob → NoFault → OneFault → (bytes : List ℕ) (first second : CodeFault) → SignatureFails bytes first → SignatureFails bytes second → first ≡ second
one_fault law none one bytes first second (inl f) (inl s) = same_super first second f.0 s.0 f.2 s.2 (one SIGNATURE_MAGIC bytes f.0 s.0 f.1 s.1)
one_fault law none one bytes first second (inl f) (inr s) = absurd (none SIGNATURE_MAGIC bytes s.whole s.rest f.0 f.1 s.blob s.bytes_are)
one_fault law none one bytes first second (inr f) (inl s) = absurd (none SIGNATURE_MAGIC bytes f.whole f.rest s.0 s.1 f.blob f.bytes_are)
one_fault law none one bytes first second (inr f) (inr s) = same_fault law bytes first second f s

no_both : (fault : CodeFault) (found : Option CodeFault) → found ≡ None → found ≡ Some fault → ⊥
no_both fault found none some = cc

pub apart : OneBlob → NoFault → (bytes : List ℕ) (view : View) (fault : CodeFault) → Views bytes view → SignatureFails bytes fault → ⊥
apart law none bytes view fault v (inl f) = none SIGNATURE_MAGIC bytes view.whole v.rest f.0 f.1 v.blob v.bytes_are
apart law none bytes view fault v (inr f) =
    let whole : view.whole ≡ f.whole = (law SIGNATURE_MAGIC bytes view.whole v.rest f.whole f.rest v.blob.blob v.bytes_are f.blob.blob f.bytes_are).0 in
    no_both fault (directories_fault view.whole) v.fine (ap directories_fault whole ∙ f.first)
