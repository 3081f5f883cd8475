-- A file is right or has a first fault, and one of each at most.
use Rattle.std.proofs.Common.{◌≡◌, ◌⊎◌, inl, inr, ℕ, List, Result, Ok, Err, refl, sym, ap, ◌∙◌}
use Rattle.req_tree.specs.Facts.{Facts}
use Rattle.csv_records.specs.Reading.{HasRecords}
use Rattle.csv_records.specs.Laws.{TextsHaveRecords, OneListOfRecords}
use Rattle.code_facts.specs.declared.fault.FactFault.{FactFault}
use Rattle.code_facts.specs.Rows.{Row}
use Rattle.code_facts.specs.FactsFile.{rows_of_records}
use Rattle.code_facts.specs.Knowledge.{facts_in}
use Rattle.code_facts.specs.Tables.{IsFactsFile, IsFirstFault}

-- what all records of a text are refused for
pub first_fault : TextsHaveRecords → (text : List ℕ) (fault : FactFault) → ((all : List (List (List ℕ))) → HasRecords text all → rows_of_records all ≡ Err fault) → IsFirstFault text fault
first_fault some text fault h = let all = some text in record { records = all.0; read = all.1; refused = h all.0 all.1 }

either_when : (bytes : List ℕ) (all : List (List (List ℕ))) → HasRecords bytes all → (r : Result (List Row) FactFault) → rows_of_records all ≡ r
    → ((facts : Facts) × IsFactsFile bytes facts) ⊎ ((fault : FactFault) × IsFirstFault bytes fault)
either_when bytes all a (Ok rows) e = inl (facts_in rows, record { records = all; rows = rows; read = a; accepted = e; all = refl })
either_when bytes all a (Err fault) e = inr (fault, record { records = all; read = a; refused = e })

pub right_or_bad : TextsHaveRecords → (bytes : List ℕ) → ((facts : Facts) × IsFactsFile bytes facts) ⊎ ((fault : FactFault) × IsFirstFault bytes fault)
right_or_bad some bytes = let all = some bytes in either_when bytes all.0 all.1 (rows_of_records all.0) refl

pub not_both : OneListOfRecords → (bytes : List ℕ) (facts : Facts) (fault : FactFault) → IsFactsFile bytes facts → IsFirstFault bytes fault → ⊥
not_both one bytes facts fault f b =
    let same : b.records ≡ f.records = one bytes f.records b.records f.read b.read in
    let ok : rows_of_records b.records ≡ Ok f.rows = ap rows_of_records same ∙ f.accepted in
    let bad : rows_of_records b.records ≡ Err fault = b.refused in
    cc

pub one_facts : OneListOfRecords → (bytes : List ℕ) (a b : Facts) → IsFactsFile bytes a → IsFactsFile bytes b → a ≡ b
one_facts one bytes a b f g =
    let same : g.records ≡ f.records = one bytes f.records g.records f.read g.read in
    let first : rows_of_records g.records ≡ Ok f.rows = ap rows_of_records same ∙ f.accepted in
    let second : rows_of_records g.records ≡ Ok g.rows = g.accepted in
    let rows : f.rows ≡ g.rows = cc in
    f.all ∙ ap facts_in rows ∙ sym g.all

pub one_fault : OneListOfRecords → (bytes : List ℕ) (a b : FactFault) → IsFirstFault bytes a → IsFirstFault bytes b → a ≡ b
one_fault one bytes a b f g =
    let same : g.records ≡ f.records = one bytes f.records g.records f.read g.read in
    let first : rows_of_records g.records ≡ Err a = ap rows_of_records same ∙ f.refused in
    let second : rows_of_records g.records ≡ Err b = g.refused in
    cc
