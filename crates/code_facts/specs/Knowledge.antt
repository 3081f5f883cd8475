-- What the rows of a facts file say of each hash, by looking through all of them. This project's own.
use Rattle.std.specs.Prelude.{ℕ, ◌+◌, Bool, true, false, ◌&&◌, if◌then◌else◌, List, [], ◌∷◌, ◌++◌, Option, None, Some, map, bytes_eq}
use Rattle.std.specs.List.{list_any, filter_map}
use Rattle.req_tree.specs.Facts as f
use Rattle.req_tree.specs.Facts.{Facts, Known, Certificate, Value}
use Rattle.fact_values.specs.declared.flag.FactFlag.TheVariants.{AppleAnchor, AppleGeneric, Notarized, LegacyDevId}
use Rattle.fact_values.specs.declared.place.Place.{Place}
use Rattle.fact_values.specs.declared.place.Place.TheVariants.{Info, Entitlement, CertField, CertOid, CertPolicy}
use Rattle.code_facts.specs.Rows.{Given, text, truth, item, Fact, entry, Row}
use Rattle.code_facts.specs.FactsFile.{facts_about, certs, same_place, is_flag, is_anchor_name, is_code_name, is_trust}

-- what is given, where the condition holds
abbrev pub given_when : Bool → Given → Option Given
given_when true given = Some given
given_when false given = None

-- what the fact gives to this key of this place
abbrev pub given_at : Place → List ℕ → Fact → Option Given
given_at place key (entry other name given) = given_when (same_place place other && bytes_eq key name) given
given_at place key fact = None

-- all that facts give to this key of this place, in their order
abbrev pub givens : List Fact → Place → List ℕ → List Given
givens facts place key = filter_map (given_at place key) facts

-- the bytes of one member of a list, where what is given is one
abbrev pub item_bytes : Given → Option (List ℕ)
item_bytes (text bytes) = None
item_bytes (truth b) = None
item_bytes (item bytes) = Some bytes

-- a text or a truth value by itself; members are one list, in their order
abbrev pub value_given : List Given → Option Value
value_given [] = None
value_given (text bytes ∷ rest) = Some (f.text bytes)
value_given (truth b ∷ rest) = Some (f.truth b)
value_given (item bytes ∷ rest) = Some (f.texts bytes (filter_map item_bytes rest))

-- the value of a key of a place
abbrev pub value_by : List Fact → Place → List ℕ → Option Value
value_by facts place key = value_given (givens facts place key)

-- the certificate of a place and of this hash, with all that is said of its place
abbrev pub certificate_by : List Fact → ℕ → List ℕ → Certificate
certificate_by facts place hash = record {
  hash = hash;
  trusted = list_any (is_trust place) facts;
  field = value_by facts (CertField place);
  oid = value_by facts (CertOid place);
  policy = value_by facts (CertPolicy place);
}

-- certificates from a place on
abbrev pub chain_by : List Fact → ℕ → List (List ℕ) → List Certificate
chain_by facts place [] = []
chain_by facts place (hash ∷ rest) = certificate_by facts place hash ∷ chain_by facts (place + 1) rest

-- what is known by these facts
abbrev pub known_by : List Fact → Known
known_by facts = record {
  apple_anchor = list_any (is_flag AppleAnchor) facts;
  apple_generic = list_any (is_flag AppleGeneric) facts;
  notarized = list_any (is_flag Notarized) facts;
  legacy_dev_id = list_any (is_flag LegacyDevId) facts;
  anchor_name = λ name. list_any (is_anchor_name name) facts;
  code_name = λ name. list_any (is_code_name name) facts;
  chain = chain_by facts 0 (certs facts);
  info = value_by facts Info;
  entitlement = value_by facts Entitlement;
}

-- what rows say of a hash
abbrev pub known : List Row → List ℕ → Known
known rows hash = known_by (facts_about rows hash)

-- a hash behind others, where it isn't among them
abbrev pub with_hash : List ℕ → List (List ℕ) → List (List ℕ)
with_hash hash hashes = if list_any (bytes_eq hash) hashes then hashes else hashes ++ hash ∷ []

-- hashes, and behind them those of rows that are not among them yet, in the order of the rows
abbrev pub hashes_behind : List (List ℕ) → List Row → List (List ℕ)
hashes_behind hashes [] = hashes
hashes_behind hashes (row ∷ rest) = hashes_behind (with_hash row.hash hashes) rest

-- the hashes that rows are about, each once, in the order of their first rows
abbrev pub hashes_in : List Row → List (List ℕ)
hashes_in rows = hashes_behind [] rows

-- the facts of rows
abbrev pub facts_in : List Row → Facts
facts_in rows = map (λ hash. (hash, known rows hash)) (hashes_in rows)
