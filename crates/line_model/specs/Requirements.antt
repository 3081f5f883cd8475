-- The requirement at the end of a line. This project's own.
use Rattle.std.specs.Prelude.{◌≢◌, ℕ, ◌+◌, ◌-◌, List, [], ◌∷◌, length, ◌==◌, nat_le, Option, Some, None, Result, Ok, Err, position, if◌then◌else◌}
use Rattle.req_tree.specs.Tree.{Tree}
use Rattle.req_grammar.specs.Readings.{IsRequirementText}
use Rattle.req_tokens.specs.declared.fault.TextFault.{TextFault}
use Rattle.req_tokens.specs.declared.fault.TextFault.TheVariants.{OutOfMemory}
use Rattle.req_parser.specs.Failures.{FailsText}
use Rattle.policy_model.specs.declared.limits.TheConstants.{MOST_TEXT_BYTES}
use Rattle.line_model.specs.Words.{spaced}
use Rattle.line_model.specs.LineFaults.{LineFault, bad_line, requirement_too_long}
use Rattle.line_model.specs.Left.{Left, ◌>>=◌}

-- all that is left of a line, spaces included: at least one word, which may be empty
abbrev pub rest_of : ℕ → List (List ℕ) → Result (List ℕ) LineFault
rest_of column [] = Err (bad_line (column - 1))
rest_of column (w ∷ ws) = Ok (spaced (w ∷ ws))

-- the rest of a line
abbrev pub rest_at : Left → Result (List ℕ) LineFault
rest_at left = rest_of left.column left.words

-- a text that begins in this column, where its first LF stands or none does
abbrev pub of_one_line : ℕ → List ℕ → Option ℕ → Result (List ℕ) LineFault
of_one_line column text None = Ok text
of_one_line column text (Some place) = Err (bad_line (column + place))

-- the text of a requirement that begins in this column: it has no more bytes than it may have, and no LF
abbrev pub text_within : ℕ → List ℕ → Result (List ℕ) LineFault
text_within column text = if nat_le (length text) MOST_TEXT_BYTES then of_one_line column text (position (λ byte. byte == 10) text) else Err requirement_too_long

-- all that is left of a line, as a requirement's text
abbrev pub text_at : Left → Result (List ℕ) LineFault
text_at left = do
  text ← rest_at left
  text_within left.column text

-- a text reads as this requirement, or has this fault
abbrev pub ReadsAs : List ℕ → Result Tree TextFault → Type 0
ReadsAs text (Ok tree) = IsRequirementText text tree
ReadsAs text (Err fault) = FailsText text fault × (fault ≢ OutOfMemory)
