-- The lines that tell why a run has no desk, each without its LF. This project's own.
use Rattle.std.specs.Prelude.{ℤ, pos, int_lt, unsigned_abs, ℕ, List, [], ◌∷◌, ◌++◌, if◌then◌else◌, codes, decimal}
use Rattle.code_facts.specs.declared.fault.FactFault.{FactFault}
use Rattle.code_facts.specs.FaultText.{fact_fault_text}
use Rattle.store_model.specs.Raw.{StoreRow, format_row, switch_row, receipt_row, rule_row}

-- a whole number in decimal, with a dash before it where it is negative
abbrev pub int_text : ℤ → List ℕ
int_text n = (if int_lt n (pos 0) then 45 ∷ [] else []) ++ decimal (unsigned_abs n)

-- a place in a store
abbrev pub row_text : StoreRow → List ℕ
row_text format_row = codes "format"
row_text switch_row = codes "switch"
row_text (receipt_row num) = codes "receipt=" ++ int_text num
row_text (rule_row id) = codes "rule=" ++ int_text id

-- this is the first bad row of the store
abbrev pub bad_store_text : StoreRow → List ℕ
bad_store_text row = codes "fault BadStore " ++ row_text row

-- this is wrong first in the facts file
abbrev pub bad_facts_text : FactFault → List ℕ
bad_facts_text fault = codes "fault BadFacts " ++ fact_fault_text fault
