-- How a refusal of an import reads. This project's own.
use Rattle.std.specs.Prelude.{ℕ, List, [], ◌++◌, codes, decimal}
use Rattle.import_csv.specs.declared.fault.ImportFault.{ImportFault}
use Rattle.import_csv.specs.declared.fault.ImportFault.TheVariants.{BadHeader, BadRow, TooMany, OutOfMemory}

-- the row and the column of a refusal
abbrev pub place_text : ℕ → ℕ → List ℕ
place_text row column = codes " row=" ++ decimal row ++ codes " column=" ++ decimal column

-- the line of a refusal, without its end; out of memory has none
abbrev pub import_fault_text : ImportFault → List ℕ
import_fault_text BadHeader = codes "refused import 1 BadHeader"
import_fault_text (BadRow row column) = codes "refused import 2 BadRow" ++ place_text row column
import_fault_text TooMany = codes "refused import 3 TooMany"
import_fault_text OutOfMemory = []
