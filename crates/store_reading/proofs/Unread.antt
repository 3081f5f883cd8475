-- A text that isn't read is no requirement.
use Rattle.std.proofs.Common.{◌≡◌, ℕ, List, refl}
use Rattle.std.specs.Prelude.{◌≢◌, Err}
use Rattle.req_tree.specs.Tree.{Tree}
use Rattle.req_grammar.specs.Readings.{IsRequirementText}
use Rattle.req_tokens.specs.declared.fault.TextFault as text
use Rattle.req_tokens.specs.declared.fault.TextFault.TheVariants as text_variants
use Rattle.req_parser.specs.Failures.{FailsText}
use Rattle.line_words.specs.declared.fault.LineFault.{LineFault}
use Rattle.line_words.specs.declared.fault.LineFault.TheVariants.{BadLine, BadRequirement, BadPriority, BadMoment, BadLabel, BadKey, RequirementTooLong, OutOfMemory}
use Rattle.rule_edits.specs.Reads.{Parses}
use Rattle.store_reading.specs.Readings.{IsTreeText}

-- a fault that isn't memory running out is the text's
pub is_unread : ((source : List ℕ) (fault : text.TextFault) (tree : Tree) → fault ≢ text_variants.OutOfMemory → FailsText source fault → IsRequirementText source tree → ⊥) → (source : List ℕ) (fault : LineFault) → fault ≢ OutOfMemory → Parses (Err fault) source → IsTreeText source → ⊥
is_unread apart source (BadRequirement fault) other parses t = apart source fault t.parses.0 parses.1 parses.0 t.parses.1
is_unread apart source OutOfMemory other parses t = other refl
is_unread apart source (BadLine column) other parses t = parses
is_unread apart source BadPriority other parses t = parses
is_unread apart source BadMoment other parses t = parses
is_unread apart source BadLabel other parses t = parses
is_unread apart source BadKey other parses t = parses
is_unread apart source RequirementTooLong other parses t = parses
