-- Told bytes, call after call.
use Rattle.std.proofs.Common.{◌≡◌, ℕ, List, [], ◌∷◌, ◌++◌, Option, None, Some, Result, Ok, Err, length, refl, sym, ap, ◌∙◌, append_assoc, subst, arith}
use Rattle.std.proofs.Math.Seq.{take-length}
use Rattle.gk_io.specs.Told.{PutAppends}
use Rattle.line_reader.specs.Lines.{with_lf}
use Rattle.std.specs.Io.KnownBytes.{Keeps, Appends, Consumes, IsAtEnd, prepend_known}

-- what was read and isn't handed on was lost too
pub lost_behind : (start left : Option (List ℕ)) (bytes behind : List ℕ) → Consumes start (prepend_known behind left) bytes → Consumes start left (bytes ++ behind)
lost_behind None left bytes behind h = tt
lost_behind (Some us) None bytes behind h = absurd h
lost_behind (Some us) (Some vs) bytes behind h = h ∙ sym (append_assoc bytes behind vs)

none_before : (xs ys : List ℕ) → xs ++ ys ≡ [] → xs ≡ []
none_before [] ys h = refl
none_before (x ∷ xs) ys h = cc

-- at the end nothing is pending
pub end_left : (left : Option (List ℕ)) (behind : List ℕ) → IsAtEnd (prepend_known behind left) → IsAtEnd left
end_left None behind h = tt
end_left (Some us) behind h = subst (λ (l : List ℕ). l ++ us ≡ []) (none_before behind us h) h

pub lost_at_end : (start left : Option (List ℕ)) (bytes behind : List ℕ) → Consumes start (prepend_known behind left) bytes → IsAtEnd (prepend_known behind left) → Consumes start left bytes
lost_at_end None left bytes behind h e = tt
lost_at_end (Some us) None bytes behind h e = absurd h
lost_at_end (Some us) (Some vs) bytes behind h e = h ∙ ap (λ l. bytes ++ (l ++ vs)) (none_before behind vs e)

-- a sink that keeps what it holds
pub put_kept : (first old new : Option (List ℕ)) (bytes : List ℕ) → Appends first old bytes → Keeps old new → Appends first new bytes
put_kept None old new bytes h k = tt
put_kept (Some us) None new bytes h k = absurd h
put_kept (Some us) (Some vs) None bytes h k = absurd k
put_kept (Some us) (Some vs) (Some ws) bytes h k = k ∙ h

-- bytes that were put whole, and then flushed, whatever the flush came to
pub put_then_flushed : {T E : Type 0} (r : Result T E) (old mid new : Option (List ℕ)) (put text : List ℕ) → put ≡ with_lf text → Appends old mid put → Keeps mid new → PutAppends old new r (with_lf text)
put_then_flushed (Ok x) old mid new put text e h k = subst (Appends old new) e (put_kept old mid new put h k)
put_then_flushed (Err x) old mid new put text e h k =
    (length (with_lf text), omega arith, subst (Appends old new) (e ∙ sym (take-length (with_lf text))) (put_kept old mid new put h k))
