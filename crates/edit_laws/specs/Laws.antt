-- What is promised of the program's edits by their texts; proved on functions of src/laws.rt.
use Rattle.std.specs.Prelude.{◌≡◌, Result, MatchResult}
use Rattle.policy_model.specs.Texts.{content_text}
use Rattle.line_model.specs.Contents.{content_at}
use Rattle.line_model.specs.Edits.{by_words}
use Rattle.line_words.specs.declared.fault.LineFault.{LineFault}
use Rattle.line_words.specs.declared.fault.LineFault.TheVariants.{OutOfMemory}
use Rattle.line_laws.specs.EditTexts.{edit_text}
use Rattle.line_model.specs.Edits.{edit_at}
use Rattle.rule_edits.specs.Edit.{content_of, edit_of}
use Rattle.rule_edits.specs.Reads.{ReadsContent, ReadsEdit}
use Rattle.rule_edits.specs.declared.edit.Content.{Content}
use Rattle.rule_edits.specs.declared.edit.Edit.{Edit}

-- a call that reads a content's text returns that content, unless memory ran out
abbrev pub ContentComesBack : Content → Type 0
ContentComesBack content = (result : Result Content LineFault) → ReadsContent result (by_words content_at (content_text (content_of content)))
    → MatchResult result (λ read. ∥ content_of read ≡ content_of content ∥₁) (λ fault. fault ≡ OutOfMemory)

-- a call that reads an edit's line returns that edit, unless memory ran out
abbrev pub EditComesBack : Edit → Type 0
EditComesBack edit = (result : Result Edit LineFault) → ReadsEdit result (by_words edit_at (edit_text (edit_of edit)))
    → MatchResult result (λ read. ∥ edit_of read ≡ edit_of edit ∥₁) (λ fault. fault ≡ OutOfMemory)
