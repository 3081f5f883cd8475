-- What is read of a text that asks for something is that, unless memory ran out.
use Rattle.std.proofs.Common.{◌≡◌, ◌≢◌, true, Ok, Err, refl}
use Rattle.std.proofs.Math.Logic.{∥∥₁_map, ∥∥₁_elim}
use Rattle.policy_model.specs.Keys.{is_key}
use Rattle.policy_model.specs.Texts.{content_text}
use Rattle.line_words.specs.Faults.{fault_of}
use Rattle.line_words.specs.declared.fault.LineFault.{LineFault}
use Rattle.line_words.specs.declared.fault.LineFault.TheVariants.{BadLine, BadRequirement, BadPriority, BadMoment, BadLabel, BadKey, RequirementTooLong, OutOfMemory}
use Rattle.line_laws.specs.Limits.{FitsLine}
use Rattle.line_laws.specs.EditTexts.{edit_text}
use Rattle.line_laws.specs.Laws.{ContentReadsBack, EditReadsBack, TextAsksForOneContent, LineAsksForOneEdit, ContentHasNoFault, EditHasNoFault}
use Rattle.rule_edits.specs.Edit.{content_of, edit_of}
use Rattle.rule_edits.specs.declared.edit.Content.{Content}
use Rattle.rule_edits.specs.declared.edit.Edit.{Edit}
use Rattle.edit_laws.specs.Laws.{ContentComesBack, EditComesBack}

-- no other fault is left than that of memory
is_memory : (fault : LineFault) → ((fault ≢ OutOfMemory) → ⊥) → fault ≡ OutOfMemory
is_memory OutOfMemory h = refl
is_memory (BadLine column) h = absurd (h (λ e. cc))
is_memory (BadRequirement inner) h = absurd (h (λ e. cc))
is_memory BadPriority h = absurd (h (λ e. cc))
is_memory BadMoment h = absurd (h (λ e. cc))
is_memory BadLabel h = absurd (h (λ e. cc))
is_memory BadKey h = absurd (h (λ e. cc))
is_memory RequirementTooLong h = absurd (h (λ e. cc))

pub content_comes_back : ContentReadsBack → TextAsksForOneContent → ContentHasNoFault → (content : Content) → ∥ FitsLine (content_of content) ∥₁ → ContentComesBack content
content_comes_back back one apart content fits (Ok read) reads =
    ∥∥₁_map fits (λ f. one (content_text (content_of content)) (content_of read) (content_of content) reads (back (content_of content) f))
content_comes_back back one apart content fits (Err fault) reads =
    is_memory fault (λ other. ∥∥₁_elim fits (λ a b. absurd a) (λ f. apart (content_text (content_of content)) (content_of content) (fault_of fault) (back (content_of content) f) (reads other)))

pub edit_comes_back : EditReadsBack → LineAsksForOneEdit → EditHasNoFault → (edit : Edit) → is_key (edit_of edit).key ≡ true → ∥ FitsLine (content_of edit.content) ∥₁ → EditComesBack edit
edit_comes_back back one apart edit key fits (Ok read) reads =
    ∥∥₁_map fits (λ f. one (edit_text (edit_of edit)) (edit_of read) (edit_of edit) reads (back (edit_of edit) key f))
edit_comes_back back one apart edit key fits (Err fault) reads =
    is_memory fault (λ other. ∥∥₁_elim fits (λ a b. absurd a) (λ f. apart (edit_text (edit_of edit)) (edit_of edit) (fault_of fault) (back (edit_of edit) key f) (reads other)))
