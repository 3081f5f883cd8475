-- How the refusal of a text is written: its number, its name and its field. (This project's own.)
use Rattle.std.specs.Prelude.{ℕ, List, [], ◌++◌, codes, decimal}
use Rattle.req_tokens.specs.declared.fault.TextFault.{TextFault}
use Rattle.req_tokens.specs.declared.fault.TextFault.TheVariants.{BadByte, OpenString, OpenComment, BadHex, IntTooLarge, Syntax, TooDeep, TextTooLong, BadKey, KindTwice, OutOfMemory}

-- the text of a refusal, as a line of the program has it; out of memory has none
abbrev pub text_fault_text : TextFault → List ℕ
text_fault_text (BadByte at) = codes "1 BadByte at=" ++ decimal at
text_fault_text (OpenString at) = codes "2 OpenString at=" ++ decimal at
text_fault_text (OpenComment at) = codes "3 OpenComment at=" ++ decimal at
text_fault_text (BadHex at) = codes "4 BadHex at=" ++ decimal at
text_fault_text (IntTooLarge at) = codes "5 IntTooLarge at=" ++ decimal at
text_fault_text (Syntax token) = codes "6 Syntax token=" ++ decimal token
text_fault_text TooDeep = codes "7 TooDeep"
text_fault_text TextTooLong = codes "8 TextTooLong"
text_fault_text (BadKey token) = codes "9 BadKey token=" ++ decimal token
text_fault_text (KindTwice token) = codes "10 KindTwice token=" ++ decimal token
text_fault_text OutOfMemory = []
