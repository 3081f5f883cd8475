-- How a refusal of a facts file reads. This project's own.
use Rattle.std.specs.Prelude.{ℕ, List, [], ◌++◌, codes, decimal}
use Rattle.code_facts.specs.declared.fault.FactFault.{FactFault}
use Rattle.code_facts.specs.declared.fault.FactFault.TheVariants.{BadRow, Twice, TooMany, OutOfMemory}

-- the text of a refusal, as a line of the program has it; out of memory has none
abbrev pub fact_fault_text : FactFault → List ℕ
fact_fault_text (BadRow row) = codes "1 BadRow row=" ++ decimal row
fact_fault_text (Twice row) = codes "2 Twice row=" ++ decimal row
fact_fault_text TooMany = codes "3 TooMany"
fact_fault_text OutOfMemory = []
