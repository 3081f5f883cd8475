-- The fault of a text that reads as no requirement is the fault of the words that it ends.
use Rattle.std.proofs.Common.{ℕ, List, Ok, Err, refl}
use Rattle.line_model.specs.Fronts.{Front}
use Rattle.line_model.specs.Contents.{adds}
use Rattle.line_words.specs.declared.fault.LineFault.{LineFault}
use Rattle.line_words.specs.declared.fault.LineFault.TheVariants.{BadLine, BadRequirement, BadPriority, BadMoment, BadLabel, BadKey, RequirementTooLong, OutOfMemory}
use Rattle.rule_edits.specs.Reads.{Parses, ReadsContent}

-- words with this front and text are refused so
pub refused_text : (front : Front) (text : List ℕ) (fault : LineFault) → Parses (Err fault) text → ReadsContent (Err fault) (Ok (adds front text))
refused_text front text (BadRequirement fault) says = λ _. (Err fault, says, refl)
refused_text front text OutOfMemory says = λ known. absurd (known refl)
refused_text front text (BadLine column) says = absurd says
refused_text front text BadPriority says = absurd says
refused_text front text BadMoment says = absurd says
refused_text front text BadLabel says = absurd says
refused_text front text BadKey says = absurd says
refused_text front text RequirementTooLong says = absurd says
