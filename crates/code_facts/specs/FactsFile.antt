-- The facts file: which records are taken, and what is wrong first. This project's own; records are those of
-- RFC 4180 as `csv` reads them.
use Rattle.std.specs.Prelude.{ℕ, ◌+◌, Bool, true, false, not, ◌&&◌, ◌==◌, nat_lt, if◌then◌else◌, List, [], ◌∷◌, ◌++◌, length, Option, None, Some, Result, Ok, Err, codes, bytes_eq}
use Rattle.std.specs.List.{list_any, filter_map}
use Rattle.fact_values.specs.declared.flag.FactFlag.{FactFlag}
use Rattle.fact_values.specs.declared.flag.FactFlag.TheVariants.{AppleAnchor, AppleGeneric, Notarized, LegacyDevId}
use Rattle.fact_values.specs.declared.place.Place.{Place}
use Rattle.fact_values.specs.declared.place.Place.TheVariants.{Info, Entitlement, CertField, CertOid, CertPolicy}
use Rattle.code_facts.specs.declared.fault.FactFault.{FactFault}
use Rattle.code_facts.specs.declared.fault.FactFault.TheVariants.{BadRow, Twice, TooMany}
use Rattle.code_facts.specs.declared.limits.TheConstants.{MOST_ROWS}
use Rattle.code_facts.specs.Rows.{Given, text, truth, item, Fact, flag, anchor_name, code_name, certificate, trust, entry, Row, row_of}

-- the fact, where the condition holds
abbrev pub fact_if : Bool → Fact → Option Fact
fact_if true fact = Some fact
fact_if false fact = None

-- what rows say of a hash, in their order
abbrev pub facts_about : List Row → List ℕ → List Fact
facts_about rows hash = filter_map (λ row. fact_if (bytes_eq hash row.hash) row.fact) rows

-- the hash of a certificate
abbrev pub cert_hash : Fact → Option (List ℕ)
cert_hash (certificate place hash) = Some hash
cert_hash fact = None

-- the hashes of the certificates, in the order of their rows
abbrev pub certs : List Fact → List (List ℕ)
certs facts = filter_map cert_hash facts

-- a place is there, where so many certificates stand
abbrev pub is_there : ℕ → Place → Bool
is_there count Info = true
is_there count Entitlement = true
is_there count (CertField place) = nat_lt place count
is_there count (CertOid place) = nat_lt place count
is_there count (CertPolicy place) = nat_lt place count

-- a certificate is the next; a fact about one has that one above it
abbrev pub fits : ℕ → Fact → Bool
fits count (flag which) = true
fits count (anchor_name name) = true
fits count (code_name name) = true
fits count (certificate place hash) = place == count
fits count (trust place) = nat_lt place count
fits count (entry place key given) = is_there count place

-- two flags are one and the same
abbrev pub same_flag : FactFlag → FactFlag → Bool
same_flag AppleAnchor AppleAnchor = true
same_flag AppleGeneric AppleGeneric = true
same_flag Notarized Notarized = true
same_flag LegacyDevId LegacyDevId = true
same_flag a b = false

-- two places are of one kind and, where they are of a certificate, of the same one
abbrev pub same_place : Place → Place → Bool
same_place Info Info = true
same_place Entitlement Entitlement = true
same_place (CertField i) (CertField j) = i == j
same_place (CertOid i) (CertOid j) = i == j
same_place (CertPolicy i) (CertPolicy j) = i == j
same_place a b = false

-- the fact is this flag
abbrev pub is_flag : FactFlag → Fact → Bool
is_flag which (flag other) = same_flag which other
is_flag which fact = false

-- the fact is this name of an anchor
abbrev pub is_anchor_name : List ℕ → Fact → Bool
is_anchor_name name (anchor_name other) = bytes_eq name other
is_anchor_name name fact = false

-- the fact is this name of code
abbrev pub is_code_name : List ℕ → Fact → Bool
is_code_name name (code_name other) = bytes_eq name other
is_code_name name fact = false

-- the fact is the certificate of this place
abbrev pub is_certificate : ℕ → Fact → Bool
is_certificate place (certificate other hash) = place == other
is_certificate place fact = false

-- the fact is the trust in the certificate of this place
abbrev pub is_trust : ℕ → Fact → Bool
is_trust place (trust other) = place == other
is_trust place fact = false

-- the fact is what this key of this place is given
abbrev pub is_value : Place → List ℕ → Fact → Bool
is_value place key (entry other name given) = same_place place other && bytes_eq key name
is_value place key fact = false

-- the fact has the other's scope, slot and key
abbrev pub is_same : Fact → Fact → Bool
is_same (flag which) other = is_flag which other
is_same (anchor_name name) other = is_anchor_name name other
is_same (code_name name) other = is_code_name name other
is_same (certificate place hash) other = is_certificate place other
is_same (trust place) other = is_trust place other
is_same (entry place key given) other = is_value place key other

-- what is given is one member of a list
abbrev pub is_item : Given → Bool
is_item (text bytes) = false
is_item (truth b) = false
is_item (item bytes) = true

-- the fact is one member of a list
abbrev pub is_member : Fact → Bool
is_member (entry place key given) = is_item given
is_member fact = false

-- two facts of one hash that cannot both be taken
abbrev pub clash : Fact → Fact → Bool
clash fact other = not (is_member fact && is_member other) && is_same fact other

-- a row whose hash has these facts so far
abbrev pub row_after : ℕ → List Fact → Row → Result Row FactFault
row_after number facts row =
    if not (fits (length (certs facts)) row.fact) then Err (BadRow number)
    else if list_any (clash row.fact) facts then Err (Twice number)
    else Ok row

-- a row behind others
abbrev pub row_behind : ℕ → List Row → Option Row → Result Row FactFault
row_behind number earlier None = Err (BadRow number)
row_behind number earlier (Some row) = row_after number (facts_about earlier row.hash) row

-- the row of a record behind others, or what is wrong with it first; the header is row 1
abbrev pub taken : ℕ → List Row → List (List ℕ) → Result Row FactFault
taken number earlier fields = if nat_lt (MOST_ROWS + 1) number then Err TooMany else row_behind number earlier (row_of fields)

-- further rows behind a row that is taken, or what is wrong with that row
abbrev pub then_rows : (Row → Result (List Row) FactFault) → Result Row FactFault → Result (List Row) FactFault
then_rows more (Ok row) = more row
then_rows more (Err fault) = Err fault

-- the rows of records behind others, or the first fault
abbrev pub rows_behind : ℕ → List Row → List (List (List ℕ)) → Result (List Row) FactFault
rows_behind number earlier [] = Ok earlier
rows_behind number earlier (fields ∷ rest) = then_rows (λ row. rows_behind (number + 1) (earlier ++ row ∷ []) rest) (taken number earlier fields)

-- two records have the same fields, byte for byte and in the same order
abbrev pub same_fields : List (List ℕ) → List (List ℕ) → Bool
same_fields [] [] = true
same_fields [] (b ∷ ys) = false
same_fields (a ∷ xs) [] = false
same_fields (a ∷ xs) (b ∷ ys) = bytes_eq a b && same_fields xs ys

-- the header row
abbrev pub header : List (List ℕ)
header = codes "cdhash" ∷ codes "scope" ∷ codes "slot" ∷ codes "key" ∷ codes "kind" ∷ codes "value" ∷ []

-- the rows of all records of a file, or the first fault
abbrev pub rows_of_records : List (List (List ℕ)) → Result (List Row) FactFault
rows_of_records [] = Err (BadRow 1)
rows_of_records (first ∷ rest) = if same_fields first header then rows_behind 2 [] rest else Err (BadRow 1)
