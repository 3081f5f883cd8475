-- Sets come back.
use Rattle.std.proofs.Common.{◌≡◌, ℕ, ◌<◌, ◌≤◌, Result, Ok, Err, List, length, sym, ap, subst, ◌∙◌, ◌⊎◌, inl, inr, arith}
use Rattle.std.specs.Prelude.{IfOk, IfErr, MatchResult}
use Rattle.req_tree.specs.TreeSet.{TreeSet}
use Rattle.req_ops.specs.declared.fault.SetFault.{SetFault}
use Rattle.req_ops.specs.declared.fault.SetFault.TheVariants.{TooLong, OutOfMemory}
use Rattle.req_blob.specs.declared.limits.TheConstants.{MOST_BYTES}
use Rattle.req_ops.specs.Sets.{IsSetSpelling, SetFails}
use Rattle.req_ops.specs.SetEncoding.{IsPlainSet, plain_set}
use Rattle.req_ops.proofs.LawsBelow.{AsLong, HasTotal}
use Rattle.req_ops.proofs.SetSizes.{plain_is_short}

pub same_again : (r : Result TreeSet SetFault) (s : TreeSet) → MatchResult r (λ read. read ≡ s) (λ e. e ≡ OutOfMemory) → IfOk r (λ again. again ≡ s)
same_again (Ok read) s h = h
same_again (Err e) s h = tt

pub fault_again : (r : Result TreeSet SetFault) (s : TreeSet) → MatchResult r (λ read. read ≡ s) (λ e. e ≡ OutOfMemory)
    → IfErr r (λ e. (e ≡ OutOfMemory) ⊎ ((e ≡ TooLong) × (MOST_BYTES < length (plain_set s))))
fault_again (Ok read) s h = tt
fault_again (Err e) s h = inl h

-- bytes come back exactly where they are plain
pub respelled_same : ((first second : TreeSet) (bytes : List ℕ) → IsSetSpelling first bytes → IsSetSpelling second bytes → first ≡ second) → (r : Result (List ℕ) SetFault) (s : TreeSet) (bytes : List ℕ) → IsSetSpelling s bytes → IfOk r (λ b. IsPlainSet s b)
    → IfOk r (λ again. (again ≡ bytes → (t : TreeSet) × IsPlainSet t bytes) × (((t : TreeSet) × IsPlainSet t bytes) → again ≡ bytes))
respelled_same one_set (Ok again) s bytes spelled written = (
  λ same. (s, subst (λ (b : List ℕ). IsPlainSet s b) same written),
  λ is. written.plain_is ∙ ap plain_set (one_set s is.0 bytes spelled is.1.spelled) ∙ sym is.1.plain_is,
)
respelled_same one_set (Err e) s bytes spelled written = tt

-- nothing that is read is too long to be written
pub respelled_fault : AsLong → HasTotal → (r : Result (List ℕ) SetFault) (s : TreeSet) (bytes : List ℕ) → IsSetSpelling s bytes → IfErr r (λ e. (e ≡ OutOfMemory) ⊎ ((e ≡ TooLong) × (MOST_BYTES < length (plain_set s)))) → IfErr r (λ e. SetFails bytes e)
respelled_fault long has_total (Ok again) s bytes spelled h = tt
respelled_fault long has_total (Err e) s bytes spelled (inl memory) = subst (SetFails bytes) (sym memory) tt
respelled_fault as_long has_total (Err e) s bytes spelled (inr long) =
    let short : length bytes ≤ MOST_BYTES = spelled.short in
    let more : MOST_BYTES < length (plain_set s) = long.1 in
    absurd (omega (arith, short, more, plain_is_short as_long has_total s bytes spelled))
