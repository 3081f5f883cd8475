-- How far a reader of records has come in a text. This project's own; records are those of RFC 4180 as `csv` reads
-- them.
use Rattle.std.specs.Prelude.{ℕ, ◌≡◌, ⊤, Bool, true, false, List, [], ◌∷◌, ◌++◌, Some}
use Rattle.std.specs.Borrow.{Bor}
use Rattle.csv.specs.Reading.{Reached, AreRecords, Ready, is_flexible, reader_trim, reader_config, reader_state, default_config, source_of, strip_bom}
use Rattle.csv.specs.declared.error.ErrorKind.{ErrorKind}
use Rattle.csv.specs.declared.error.ErrorKind.TheVariants.{Io, OutOfMemory}
use Rattle.csv.specs.declared.reader.Reader.{Reader}
use Rattle.csv.specs.declared.reader.Trim.TheVariants as trim
use Rattle.csv.specs.declared.parser.State.TheVariants as st

-- the records of a text
abbrev pub HasRecords : List ℕ → List (List (List ℕ)) → Type 0
HasRecords text all = AreRecords default_config st.StartRecord (strip_bom text) all

-- these records were taken from the front of the text, and the reader reads on behind them, whatever their numbers
-- of fields
pub record HasTaken (reader : Reader (Bor (List ℕ))) (text : List ℕ) (front : List (List (List ℕ))) : Type 0 where
  pub plain : reader_trim reader ≡ trim.None
  pub ready : Ready reader
  pub flexible : is_flexible reader ≡ true
  pub defaults : reader_config reader ≡ default_config
  pub left : List ℕ
  pub source : source_of (λ s. Some s.now) reader ≡ Some left
  pub reached : Reached default_config st.StartRecord (strip_bom text) front (reader_state reader) left

-- some records were taken from the front of some text
abbrev pub IsBegun : Reader (Bor (List ℕ)) → Type 0
IsBegun reader = (text : List ℕ) × (front : List (List (List ℕ))) × HasTaken reader text front

-- a read took one more record, or found that these were all
abbrev pub Takes : Reader (Bor (List ℕ)) → List ℕ → List (List (List ℕ)) → List (List ℕ) → Bool → Type 0
Takes reader text front fields true = HasTaken reader text (front ++ fields ∷ [])
Takes reader text front fields false = HasRecords text front

-- the kinds of error that a read of bytes in memory may have
abbrev pub IsOfMemory : ErrorKind → Type 0
IsOfMemory (Io error) = ⊤
IsOfMemory OutOfMemory = ⊤
IsOfMemory other = ⊥
