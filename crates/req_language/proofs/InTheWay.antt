-- What reading and writing again leaves in the way.
use Rattle.std.proofs.Common.{◌≡◌, ◌≢◌, ℕ, List, Result, Ok, Err, refl, ◌<◌, ◌≤◌, ◌⊎◌, inl, inr, arith}
use Rattle.std.specs.Result.{IfOk, IfErr}
use Rattle.req_blob.specs.declared.fault.OpsFault.{OpsFault}
use Rattle.req_blob.specs.declared.fault.OpsFault.TheVariants as ops
use Rattle.req_blob.specs.declared.limits.TheConstants.{MOST_BYTES}

-- where bytes aren't too many, a refusal is of memory
pub memory_alone : (why : OpsFault) (size : ℕ) → size ≤ MOST_BYTES → (why ≡ ops.OutOfMemory) ⊎ ((why ≡ ops.TooLong) × (MOST_BYTES < size)) → why ≡ ops.OutOfMemory
memory_alone why size short (inl e) = e
memory_alone why size short (inr h) = absurd (omega (arith, short, h.1))

-- what can't be other than of memory is of memory
pub sure : (why : OpsFault) → (why ≢ ops.OutOfMemory → ⊥) → why ≡ ops.OutOfMemory
sure ops.OutOfMemory h = refl
sure (ops.Blob b) h = absurd (h (λ e. cc))
sure ops.BadKind h = absurd (h (λ e. cc))
sure (ops.UnknownOp a b) h = absurd (h (λ e. cc))
sure (ops.OutOfScopeOp a) h = absurd (h (λ e. cc))
sure (ops.UnknownMatch a b) h = absurd (h (λ e. cc))
sure (ops.Cut a) h = absurd (h (λ e. cc))
sure (ops.BadPadding a) h = absurd (h (λ e. cc))
sure (ops.BadHashLength a) h = absurd (h (λ e. cc))
sure (ops.TooDeep a) h = absurd (h (λ e. cc))
sure (ops.Trailing a) h = absurd (h (λ e. cc))
sure (ops.BadOid a) h = absurd (h (λ e. cc))
sure ops.TooLong h = absurd (h (λ e. cc))
sure (ops.BadKey a) h = absurd (h (λ e. cc))

pub if_ok_map : {F : Type 0} (r : Result (List ℕ) F) (P Q : List ℕ → Type 0) → ((x : List ℕ) → P x → Q x) → IfOk r P → IfOk r Q
if_ok_map (Ok x) P Q f h = f x h
if_ok_map (Err e) P Q f h = h

pub if_err_map : {F : Type 0} (r : Result (List ℕ) F) (P Q : F → Type 0) → ((e : F) → P e → Q e) → IfErr r P → IfErr r Q
if_err_map (Ok x) P Q f h = h
if_err_map (Err e) P Q f h = f e h
