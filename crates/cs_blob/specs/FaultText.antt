-- How a refusal is written: its number, its name and its fields. (This project's own.)
use Rattle.std.specs.Prelude.{ℕ, List, ◌++◌, codes, decimal}
use Rattle.cs_blob.specs.declared.fault.BlobFault.{BlobFault}
use Rattle.cs_blob.specs.declared.fault.BlobFault.TheVariants.{Short, BadMagic, BadLength, TooManyParts, PartOutside, PartOverlap, PartTwice}

-- the text of a refusal, as a line of the program has it
abbrev pub blob_fault_text : BlobFault → List ℕ
blob_fault_text Short = codes "1 Short"
blob_fault_text BadMagic = codes "2 BadMagic"
blob_fault_text BadLength = codes "3 BadLength"
blob_fault_text TooManyParts = codes "4 TooManyParts"
blob_fault_text (PartOutside index) = codes "5 PartOutside index=" ++ decimal index
blob_fault_text (PartOverlap index) = codes "6 PartOverlap index=" ++ decimal index
blob_fault_text (PartTwice index) = codes "7 PartTwice index=" ++ decimal index
