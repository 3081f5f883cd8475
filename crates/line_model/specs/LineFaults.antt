-- Why a line isn't read, and how that is printed. This project's own.
use Rattle.std.specs.Prelude.{ℕ, List, [], ◌++◌, codes, decimal}
use Rattle.req_tokens.specs.FaultText.{text_fault_text}
use Rattle.req_tokens.specs.declared.fault.TextFault.{TextFault}

-- the first thing in a line, from the left, that doesn't fit
pub data LineFault : Type 0 where
  -- a word that doesn't fit its place, is missing or is one too many; its column counts from 1
  bad_line : ℕ → LineFault
  -- the text at the end is no requirement
  bad_requirement : TextFault → LineFault
  bad_priority : LineFault
  bad_moment : LineFault
  bad_label : LineFault
  bad_key : LineFault
  requirement_too_long : LineFault
  -- there was no memory to read the line, which says nothing of the line
  out_of_memory : LineFault

-- the refusal of a line; out of memory has none
abbrev pub line_fault_text : LineFault → List ℕ
line_fault_text (bad_line column) = codes "refused line 1 BadLine column=" ++ decimal column
line_fault_text (bad_requirement fault) = codes "refused line 2 BadRequirement " ++ text_fault_text fault
line_fault_text bad_priority = codes "refused line 3 BadPriority"
line_fault_text bad_moment = codes "refused line 4 BadMoment"
line_fault_text bad_label = codes "refused line 5 BadLabel"
line_fault_text bad_key = codes "refused line 6 BadKey"
line_fault_text requirement_too_long = codes "refused line 7 RequirementTooLong"
line_fault_text out_of_memory = []
