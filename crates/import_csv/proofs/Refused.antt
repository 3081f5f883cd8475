-- A text that is no requirement makes its row one whose last column doesn't fit.
use Rattle.std.proofs.Common.{◌≡◌, ℕ, Ok, Err, refl}
use Rattle.line_words.specs.declared.fault.LineFault.{LineFault}
use Rattle.line_words.specs.declared.fault.LineFault.TheVariants.{BadLine, BadRequirement, BadPriority, BadMoment, BadLabel, BadKey, RequirementTooLong, OutOfMemory}
use Rattle.rule_edits.specs.Reads.{Parses}
use Rattle.import_csv.specs.declared.fault.ImportFault.{ImportFault}
use Rattle.import_csv.specs.ImportRows.{Asked, Makes}
use Rattle.import_csv.specs.RowCode.{refused_by, Answers}

pub refused_row : (row : ℕ) (asked : Asked) (fault : LineFault) (answer : ImportFault) → answer ≡ refused_by row fault → Parses (Err fault) asked.text
    → Answers row (Makes (Ok asked)) (Err answer)
refused_row row asked (BadRequirement fault) answer is says = λ known. (8, is, (Err fault, says, refl))
refused_row row asked OutOfMemory answer is says = λ known. absurd (known is)
refused_row row asked (BadLine column) answer is says = absurd says
refused_row row asked BadPriority answer is says = absurd says
refused_row row asked BadMoment answer is says = absurd says
refused_row row asked BadLabel answer is says = absurd says
refused_row row asked BadKey answer is says = absurd says
refused_row row asked RequirementTooLong answer is says = absurd says
