-- What a device tells of its bytes. This project's own, in the words of std for readers and writers.
use Rattle.std.specs.Prelude.{◌≡◌, ℕ, ◌≤◌, List, ◌++◌, Option, None, Some, Result, length, take, ⊤, MatchResult}
use Rattle.std.specs.Io.KnownBytes.{Appends}

-- what a writer holds grew by a front of the bytes
abbrev pub AppendsFront : Option (List ℕ) → Option (List ℕ) → List ℕ → Type 0
AppendsFront old new bytes = (n : ℕ) × (n ≤ length bytes) × Appends old new (take n bytes)

-- put appended all the bytes at Ok, and a front of them at Err
abbrev pub PutAppends : {T E : Type 0} → Option (List ℕ) → Option (List ℕ) → Result T E → List ℕ → Type 0
PutAppends old new r bytes = MatchResult r (λ _. Appends old new bytes) (λ _. AppendsFront old new bytes)

-- all bytes that were written are flushed, where the sink tells
abbrev pub IsFlushed : Option (List ℕ) → Option (List ℕ) → Type 0
IsFlushed None written = ⊤
IsFlushed (Some bytes) written = written ≡ Some bytes

-- the flushed bytes are a front of those that were written, where the sink tells both
abbrev pub IsFrontFlushed : Option (List ℕ) → Option (List ℕ) → Type 0
IsFrontFlushed None written = ⊤
IsFrontFlushed (Some bytes) None = ⊤
IsFrontFlushed (Some bytes) (Some all) = (rest : List ℕ) × (all ≡ bytes ++ rest)

-- a front of the bytes was appended, and the rest wasn't
pub record Sent (old new : Option (List ℕ)) (bytes rest : List ℕ) : Type 0 where
  pub front : List ℕ
  pub split : bytes ≡ front ++ rest
  pub put : Appends old new front
