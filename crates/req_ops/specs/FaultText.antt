-- How the refusal of a set is written: its number, its name and its fields. (This project's own.)
use Rattle.std.specs.Prelude.{ℕ, List, [], ◌++◌, codes, decimal}
use Rattle.cs_blob.specs.FaultText.{blob_fault_text}
use Rattle.req_blob.specs.FaultText.{ops_fault_text}
use Rattle.req_ops.specs.declared.fault.SetFault.{SetFault}
use Rattle.req_ops.specs.declared.fault.SetFault.TheVariants.{Blob, TooLong, Trailing, BadSetKind, Part, OutOfMemory}

-- the text of a refusal, as a line of the program has it; out of memory has none
abbrev pub set_fault_text : SetFault → List ℕ
set_fault_text (Blob why) = codes "1 Blob " ++ blob_fault_text why
set_fault_text TooLong = codes "2 TooLong"
set_fault_text (Trailing at) = codes "3 Trailing at=" ++ decimal at
set_fault_text (BadSetKind index) = codes "4 BadSetKind index=" ++ decimal index
set_fault_text (Part index why) = codes "5 Part index=" ++ (decimal index ++ (codes " " ++ ops_fault_text why))
set_fault_text OutOfMemory = []
