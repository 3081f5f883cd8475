-- How the refusal of a signature is written: its number, its name and its fields. (This project's own.)
use Rattle.std.specs.Prelude.{ℕ, List, ◌++◌, codes, decimal}
use Rattle.cs_blob.specs.FaultText.{blob_fault_text}
use Rattle.code_directory.specs.declared.fault.CodeFault.{CodeFault}
use Rattle.code_directory.specs.declared.fault.CodeFault.TheVariants.{Super, NoDirectory, BadVersion, BadHashKind, BadHashSize, SlotsOutside, BadIdentifier, Scatter, SlotCount, PageDiffers, CodeShort, PartDiffers, Directory, HeaderCut, BadPageSize}

-- the text of a refusal, as a line of the program has it
abbrev pub code_fault_text : CodeFault → List ℕ
code_fault_text (Super why) = codes "1 Super " ++ blob_fault_text why
code_fault_text NoDirectory = codes "2 NoDirectory"
code_fault_text (BadVersion part) = codes "3 BadVersion part=" ++ decimal part
code_fault_text (BadHashKind part) = codes "4 BadHashKind part=" ++ decimal part
code_fault_text (BadHashSize part) = codes "5 BadHashSize part=" ++ decimal part
code_fault_text (SlotsOutside part) = codes "6 SlotsOutside part=" ++ decimal part
code_fault_text (BadIdentifier part) = codes "7 BadIdentifier part=" ++ decimal part
code_fault_text (Scatter part) = codes "8 Scatter part=" ++ decimal part
code_fault_text (SlotCount part) = codes "9 SlotCount part=" ++ decimal part
code_fault_text (PageDiffers slot) = codes "10 PageDiffers slot=" ++ decimal slot
code_fault_text CodeShort = codes "11 CodeShort"
code_fault_text (PartDiffers kind) = codes "12 PartDiffers kind=" ++ decimal kind
code_fault_text (Directory part why) = codes "13 Directory part=" ++ (decimal part ++ (codes " " ++ blob_fault_text why))
code_fault_text (HeaderCut part) = codes "14 HeaderCut part=" ++ decimal part
code_fault_text (BadPageSize part) = codes "15 BadPageSize part=" ++ decimal part
