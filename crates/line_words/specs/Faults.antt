-- The program's faults of a line as those of the definitions.
use Rattle.line_model.specs.LineFaults.{LineFault, bad_line, bad_requirement, bad_priority, bad_moment, bad_label, bad_key, requirement_too_long, out_of_memory}
use Rattle.line_words.specs.declared.fault.LineFault as code
use Rattle.line_words.specs.declared.fault.LineFault.TheVariants.{BadLine, BadRequirement, BadPriority, BadMoment, BadLabel, BadKey, RequirementTooLong, OutOfMemory}

-- the fault of the definitions
abbrev pub fault_of : code.LineFault → LineFault
fault_of (BadLine column) = bad_line column
fault_of (BadRequirement fault) = bad_requirement fault
fault_of BadPriority = bad_priority
fault_of BadMoment = bad_moment
fault_of BadLabel = bad_label
fault_of BadKey = bad_key
fault_of RequirementTooLong = requirement_too_long
fault_of OutOfMemory = out_of_memory
