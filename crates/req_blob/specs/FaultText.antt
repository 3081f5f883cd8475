-- How the refusal of a requirement is written: its number, its name and its fields. (This project's own.)
use Rattle.std.specs.Prelude.{ℕ, List, [], ◌++◌, codes, decimal}
use Rattle.hex.specs.Hex.{encode_lower}
use Rattle.cs_blob.specs.Numbers.{word}
use Rattle.cs_blob.specs.FaultText.{blob_fault_text}
use Rattle.req_blob.specs.declared.fault.OpsFault.{OpsFault}
use Rattle.req_blob.specs.declared.fault.OpsFault.TheVariants.{Blob, BadKind, UnknownOp, OutOfScopeOp, UnknownMatch, Cut, BadPadding, BadHashLength, TooDeep, Trailing, BadOid, TooLong, BadKey, OutOfMemory}

-- a word in hexadecimal, all eight digits
abbrev pub op_text : ℕ → List ℕ
op_text op = codes "0x" ++ encode_lower (word op)

-- the text of a refusal, as a line of the program has it; out of memory has none
abbrev pub ops_fault_text : OpsFault → List ℕ
ops_fault_text (Blob why) = codes "1 Blob " ++ blob_fault_text why
ops_fault_text BadKind = codes "2 BadKind"
ops_fault_text (UnknownOp at op) = codes "3 UnknownOp at=" ++ (decimal at ++ (codes " op=" ++ op_text op))
ops_fault_text (OutOfScopeOp at) = codes "4 OutOfScopeOp at=" ++ decimal at
ops_fault_text (UnknownMatch at suffix) = codes "5 UnknownMatch at=" ++ (decimal at ++ (codes " suffix=" ++ decimal suffix))
ops_fault_text (Cut at) = codes "6 Cut at=" ++ decimal at
ops_fault_text (BadPadding at) = codes "7 BadPadding at=" ++ decimal at
ops_fault_text (BadHashLength at) = codes "8 BadHashLength at=" ++ decimal at
ops_fault_text (TooDeep at) = codes "9 TooDeep at=" ++ decimal at
ops_fault_text (Trailing at) = codes "10 Trailing at=" ++ decimal at
ops_fault_text (BadOid at) = codes "11 BadOid at=" ++ decimal at
ops_fault_text TooLong = codes "12 TooLong"
ops_fault_text (BadKey at) = codes "13 BadKey at=" ++ decimal at
ops_fault_text OutOfMemory = []
