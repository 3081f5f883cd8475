-- The facts of a table, and which rows it holds. This project's own.
use Rattle.std.specs.Prelude.{ℕ, ◌≡◌, Bool, true, nat_lt, if◌then◌else◌, List, [], ◌∷◌, length, map, slice_get, Option, None, Some, Ok, Err, bytes_eq}
use Rattle.std.specs.List.{list_all}
use Rattle.indexmap.specs.IndexMap.{set_value_at, insert_entry}
use Rattle.req_tree.specs.declared.hash.Hash20.{Hash20}
use Rattle.req_tree.specs.Facts.{Facts, Known, nothing}
use Rattle.fact_values.specs.declared.place.Place.{Place}
use Rattle.fact_values.specs.declared.facts.Facts.{Facts as CodeFacts}
use Rattle.fact_values.specs.Knowledge.{knowledge_of}
use Rattle.code_facts.specs.declared.fault.FactFault.{FactFault}
use Rattle.code_facts.specs.declared.table.FactTable.{FactTable}
use Rattle.code_facts.specs.Rows.{Given, Fact, flag, anchor_name, code_name, certificate, trust, entry, Row}
use Rattle.code_facts.specs.FactsFile.{facts_about, certs, is_there, is_item, rows_of_records}
use Rattle.code_facts.specs.Knowledge.{givens, facts_in}
use Rattle.code_facts.specs.Growing.{grown}
use Rattle.csv_records.specs.Reading.{HasRecords}

-- the facts of a file's bytes
pub record IsFactsFile (bytes : List ℕ) (facts : Facts) : Type 0 where
  pub records : List (List (List ℕ))
  pub rows : List Row
  pub read : HasRecords bytes records
  pub accepted : rows_of_records records ≡ Ok rows
  pub all : facts ≡ facts_in rows

-- what is wrong first in a file's bytes
pub record IsFirstFault (bytes : List ℕ) (fault : FactFault) : Type 0 where
  pub records : List (List (List ℕ))
  pub read : HasRecords bytes records
  pub refused : rows_of_records records ≡ Err fault

-- a hash with its facts
abbrev pub Entry : Type 0
Entry = Hash20 × CodeFacts

-- what a table says of a hash
abbrev pub entry_facts : Entry → List ℕ × Known
entry_facts own = (own.0.bytes, knowledge_of own.1)

-- what a table says of each hash that it lists
abbrev pub table_facts : FactTable → Facts
table_facts table = map entry_facts table.by_hash.entries

-- what is known by the facts, or nothing where there are none
abbrev pub or_nothing : Option CodeFacts → Known
or_nothing None = nothing
or_nothing (Some facts) = knowledge_of facts

-- what is known of the hash of a place in a table
abbrev pub known_at : List Entry → ℕ → Known
known_at entries at = or_nothing (slice_get (map (λ (own : Entry). own.1) entries) at)

-- the hash of a place in a table has one fact more
pub record Grows (number : ℕ) (fact : Fact) (old : List Entry) (at : ℕ) (new : List Entry) : Type 0 where
  pub facts : CodeFacts
  pub entries : new ≡ set_value_at old at facts
  pub right : grown number fact (known_at old at) ≡ Ok (knowledge_of facts)

-- what is listed of a hash, where it is listed
abbrev pub listed : Facts → List ℕ → Option Known
listed [] hash = None
listed (own ∷ rest) hash = if bytes_eq own.0 hash then Some own.1 else listed rest hash

-- two hashes are equal where their bytes are
abbrev pub same_hash : Hash20 → Hash20 → Bool
same_hash a b = bytes_eq a.bytes b.bytes

-- a hash that isn't listed has a first fact
pub record Begins (number : ℕ) (fact : Fact) (old : List Entry) (hash : Hash20) (new : List Entry) : Type 0 where
  pub facts : CodeFacts
  pub entries : new ≡ insert_entry same_hash old hash facts
  pub right : grown number fact nothing ≡ Ok (knowledge_of facts)

-- the fact speaks of no certificate but the first so many
abbrev pub is_below : ℕ → Fact → Bool
is_below count (flag which) = true
is_below count (anchor_name name) = true
is_below count (code_name name) = true
is_below count (certificate place hash) = nat_lt place count
is_below count (trust place) = nat_lt place count
is_below count (entry place key given) = is_there count place

-- one value, or members of one list
abbrev pub is_settled : List Given → Bool
is_settled [] = true
is_settled (given ∷ []) = true
is_settled (given ∷ other ∷ rest) = list_all is_item (given ∷ other ∷ rest)

-- facts of one hash that were taken one after another
pub record AreSound (facts : List Fact) : Type 0 where
  pub below : list_all (is_below (length (certs facts))) facts ≡ true
  pub settled : (place : Place) (key : List ℕ) → is_settled (givens facts place key) ≡ true

-- a table's entries hold what these rows say, which were taken one after another
pub record Holds (entries : List Entry) (rows : List Row) : Type 0 where
  pub all : map entry_facts entries ≡ facts_in rows
  pub each : (hash : List ℕ) → AreSound (facts_about rows hash)

-- the table holds these rows
abbrev pub Stands : FactTable → List Row → Type 0
Stands table rows = Holds table.by_hash.entries rows
