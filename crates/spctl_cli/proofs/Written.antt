-- Told bytes, call after call.
use Rattle.std.proofs.Common.{◌≡◌, ℕ, List, Option, None, Some, Result, Ok, Err, length, sym, ◌∙◌, subst, arith}
use Rattle.std.proofs.Math.Seq.{take-length}
use Rattle.std.specs.Io.KnownBytes.{Keeps, Appends}
use Rattle.gk_io.specs.Told.{PutAppends}

-- a sink that keeps what it holds
put_kept : (first old new : Option (List ℕ)) (bytes : List ℕ) → Appends first old bytes → Keeps old new → Appends first new bytes
put_kept None old new bytes h k = tt
put_kept (Some us) None new bytes h k = absurd h
put_kept (Some us) (Some vs) None bytes h k = absurd k
put_kept (Some us) (Some vs) (Some ws) bytes h k = k ∙ h

-- bytes that were put whole, and then flushed, whatever the flush came to
pub put_then_flushed : {T E : Type 0} (r : Result T E) (old mid new : Option (List ℕ)) (text : List ℕ) → Appends old mid text → Keeps mid new → PutAppends old new r text
put_then_flushed (Ok x) old mid new text h k = put_kept old mid new text h k
put_then_flushed (Err x) old mid new text h k = (length text, omega arith, subst (Appends old new) (sym (take-length text)) (put_kept old mid new text h k))
