-- Stores of an older format are read as stores of this one. This project's own.
use Rattle.store_model.specs.Raw.{RawTables}

-- the rows of a store as this format has them; no other format has been written yet, so they are the rows themselves
abbrev pub upgraded : RawTables → RawTables
upgraded raw = raw
