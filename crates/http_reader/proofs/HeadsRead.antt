-- A head that is read piece by piece.
use Rattle.std.proofs.Common.{◌≡◌, ℕ, Bool, List, [], ◌++◌, Option, Result, sym, ap, ◌∙◌, append-nil, append_assoc}
use Rattle.std.proofs.KnownBytes.{Consumes-nil, Consumes-trans}
use Rattle.std.specs.Io.KnownBytes.{Consumes}
use Rattle.httparse.specs.declared.spans.HeaderSpan.{HeaderSpan}
use Rattle.http_reader.specs.Pending.{IsMore}
use Rattle.http_reader.specs.HeadRead.{IsHeadRead, HasCome}
use Rattle.http_reader.specs.declared.reading.HeadRead.{HeadRead}

-- these bytes were read
pub record IsReadSoFar (old new : List ℕ) (left now : Option (List ℕ)) : Type 0 where
  pub bytes : List ℕ
  pub behind : new ≡ old ++ bytes
  pub taken : Consumes left now bytes

pub none_read : (old : List ℕ) (left : Option (List ℕ)) → IsReadSoFar old old left left
none_read old left = record { bytes = []; behind = sym (append-nil old); taken = Consumes-nil left }

pub more_read : {E : Type 0} (old mid new : List ℕ) (left then now : Option (List ℕ)) (r : Result Bool E) → IsReadSoFar old mid left then → IsMore mid new then now r → IsReadSoFar old new left now
more_read old mid new left then now r x y = record {
  bytes = x.bytes ++ y.bytes;
  behind = y.behind ∙ ap (λ t. t ++ y.bytes) x.behind ∙ append_assoc old x.bytes y.bytes;
  taken = Consumes-trans left then now x.bytes y.bytes x.taken y.taken;
}

pub has_come : {E : Type 0} (old new : List ℕ) (left now : Option (List ℕ)) (fields : List HeaderSpan) (r : Result HeadRead E) → IsReadSoFar old new left now → HasCome new now fields r
    → IsHeadRead old new left now fields r
has_come old new left now fields r x come = record { bytes = x.bytes; behind = x.behind; taken = x.taken; come = come }
