-- How a body is read from a source.
use Rattle.std.specs.Prelude.{◌≡◌, ℕ, ◌<◌, List, ◌++◌, Option, Result, Ok, Err, length}
use Rattle.std.specs.Io.KnownBytes.{Consumes, IsAtEnd}
use Rattle.http_reader.specs.declared.body.BodyFault.{BodyFault}
use Rattle.http_reader.specs.declared.body.BodyFault.TheVariants.{Cut, Failed, OutOfMemory}

-- the body is the front and what the source gave, and has its size; or too few bytes came before the source ended or failed, or
-- memory ran out
abbrev pub IsBodyRead : {A : Type 0} → (A → List ℕ) → List ℕ → ℕ → Option (List ℕ) → Option (List ℕ) → Result A BodyFault → Type 0
IsBodyRead items front size left now (Ok body) = (bytes : List ℕ) × (items body ≡ front ++ bytes) × Consumes left now bytes × (length (items body) ≡ size)
IsBodyRead items front size left now (Err Cut) = (bytes : List ℕ) × Consumes left now bytes × (length (front ++ bytes) < size) × IsAtEnd now
IsBodyRead items front size left now (Err Failed) = (bytes : List ℕ) × Consumes left now bytes × (length (front ++ bytes) < size)
IsBodyRead items front size left now (Err OutOfMemory) = (bytes : List ℕ) × Consumes left now bytes
