-- The files that a shelf tells, and what fetching one comes to. This project's own.
use Rattle.std.specs.Prelude.{◌≡◌, ◌≢◌, ℕ, ◌+◌, ◌<◌, ◌≤◌, List, [], ◌∷◌, Option, None, Some, Result, Ok, Err, AllPairs, length, if◌then◌else◌, bytes_eq, ⊤}
use Rattle.std.specs.Io.KnownBytes.{Consumes}
use Rattle.gk_io.specs.declared.shelf.Fetched.{Fetched}
use Rattle.gk_io.specs.declared.shelf.Fetched.TheVariants.{Found, Missing, TooLong}
use Rattle.gk_io.specs.declared.shelf.ShelfFault.{ShelfFault}
use Rattle.gk_io.specs.declared.shelf.ShelfFault.TheVariants.{OutOfMemory}

-- a file: its name and its bytes
pub record File : Type 0 where
  pub name : List ℕ
  pub bytes : List ℕ

-- no two files have one name
abbrev pub NamesDiffer : List File → Type 0
NamesDiffer files = AllPairs (λ a b. a.name ≢ b.name) files

-- the bytes of the file of that name
abbrev pub file_named : List File → List ℕ → Option (List ℕ)
file_named [] name = None
file_named (file ∷ files) name = if bytes_eq file.name name then Some file.bytes else file_named files name

-- no call changes the files
abbrev pub KeepsFiles : Option (List File) → Option (List File) → Type 0
KeepsFiles old new = new ≡ old

-- a file within the limit is found with its bytes, a longer one is too long, and without one of that name it is missing
abbrev pub IsFetched : {E : Type 0} → Option (List File) → List ℕ → ℕ → List ℕ → Result Fetched E → Type 0
IsFetched None name limit into r = ⊤
IsFetched (Some files) name limit into (Ok Found) = (file_named files name ≡ Some into) × (length into ≤ limit)
IsFetched (Some files) name limit into (Ok Missing) = file_named files name ≡ None
IsFetched (Some files) name limit into (Ok TooLong) = (bytes : List ℕ) × (file_named files name ≡ Some bytes) × (limit < length bytes)
IsFetched (Some files) name limit into (Err e) = ⊤

-- the bytes of a file were copied, or it is too long
abbrev pub IsHandedOver : List ℕ → ℕ → List ℕ → Result Fetched ShelfFault → Type 0
IsHandedOver bytes limit into (Ok Found) = (into ≡ bytes) × (length bytes ≤ limit)
IsHandedOver bytes limit into (Ok Missing) = ⊥
IsHandedOver bytes limit into (Ok TooLong) = limit < length bytes
IsHandedOver bytes limit into (Err fault) = fault ≡ OutOfMemory

-- no more than so many bytes were read
abbrev pub IsReadUpTo : Option (List ℕ) → Option (List ℕ) → ℕ → Type 0
IsReadUpTo old new most = (bytes : List ℕ) × Consumes old new bytes × (length bytes ≤ most)

-- one byte more than so many was read
abbrev pub IsReadPast : Option (List ℕ) → Option (List ℕ) → ℕ → Type 0
IsReadPast old new limit = (bytes : List ℕ) × Consumes old new bytes × (length bytes ≡ limit + 1)
