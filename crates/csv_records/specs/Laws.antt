-- What follows from the definitions alone; each is proved on a function of src/laws.rt.
use Rattle.std.specs.Prelude.{ℕ, ◌≡◌, List, ◌++◌}
use Rattle.std.specs.Borrow.{Bor}
use Rattle.csv.specs.declared.reader.Reader.{Reader}
use Rattle.csv_records.specs.Reading.{HasRecords, HasTaken}

-- each text has a list of records
abbrev pub TextsHaveRecords : Type 0
TextsHaveRecords = (text : List ℕ) → (all : List (List (List ℕ))) × HasRecords text all

-- a text has one list of records at most
abbrev pub OneListOfRecords : Type 0
OneListOfRecords = (text : List ℕ) (some all : List (List (List ℕ))) → HasRecords text some → HasRecords text all → all ≡ some

-- what was taken from the front of a text are the first of its records
abbrev pub TakenAreFirst : Type 0
TakenAreFirst =
    (reader : Reader (Bor (List ℕ))) (text : List ℕ) (front all : List (List (List ℕ))) → HasTaken reader text front → HasRecords text all
    → (more : List (List (List ℕ))) × (all ≡ front ++ more)
