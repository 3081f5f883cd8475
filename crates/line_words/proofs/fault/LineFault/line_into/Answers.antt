-- Each refusal is the text of its fault.
use Rattle.std.proofs.Common.{◌++◌, ◌∙◌, sym, ap, codes, decimal}
use Rattle.std.proofs.lemmas.List.{append_assoc}
use Rattle.line_text.specs.LineText.{line_bytes}
use Rattle.req_tokens.specs.FaultText.{text_fault_text}
use Rattle.line_model.specs.LineFaults.{line_fault_text}
use Rattle.line_words.specs.Faults.{fault_of}
use Rattle.line_words.proofs.fault.LineFault.line_into.Goals as goal

pub returns-in-BadLine-clause-text : goal.returns-in-BadLine-clause-text
returns-in-BadLine-clause-text c =
    c.push_field.ensures.text
    ∙ ap (λ n. line_bytes c.args.out.now ++ (codes "refused line 1 BadLine column=" ++ decimal n)) c.from.ensures
    ∙ ap (λ fault. line_bytes c.args.out.now ++ line_fault_text (fault_of fault)) (sym c.in-BadLine.is)

pub returns-in-BadRequirement-clause-text : goal.returns-in-BadRequirement-clause-text
returns-in-BadRequirement-clause-text c =
    c.line_into.ensures.text
    ∙ ap (λ text. text ++ text_fault_text c.in-BadRequirement.fault) c.push_all.ensures.text
    ∙ append_assoc (line_bytes c.args.out.now) (codes "refused line 2 BadRequirement ") (text_fault_text c.in-BadRequirement.fault)
    ∙ ap (λ fault. line_bytes c.args.out.now ++ line_fault_text (fault_of fault)) (sym c.in-BadRequirement.is)

pub returns-in-BadPriority-clause-text : goal.returns-in-BadPriority-clause-text
returns-in-BadPriority-clause-text c =
    c.push_all-in-BadPriority.ensures.text ∙ ap (λ fault. line_bytes c.args.out.now ++ line_fault_text (fault_of fault)) (sym c.in-BadPriority.is)

pub returns-in-BadMoment-clause-text : goal.returns-in-BadMoment-clause-text
returns-in-BadMoment-clause-text c =
    c.push_all-in-BadMoment.ensures.text ∙ ap (λ fault. line_bytes c.args.out.now ++ line_fault_text (fault_of fault)) (sym c.in-BadMoment.is)

pub returns-in-BadLabel-clause-text : goal.returns-in-BadLabel-clause-text
returns-in-BadLabel-clause-text c =
    c.push_all-in-BadLabel.ensures.text ∙ ap (λ fault. line_bytes c.args.out.now ++ line_fault_text (fault_of fault)) (sym c.in-BadLabel.is)

pub returns-in-BadKey-clause-text : goal.returns-in-BadKey-clause-text
returns-in-BadKey-clause-text c =
    c.push_all-in-BadKey.ensures.text ∙ ap (λ fault. line_bytes c.args.out.now ++ line_fault_text (fault_of fault)) (sym c.in-BadKey.is)

pub returns-in-RequirementTooLong-clause-text : goal.returns-in-RequirementTooLong-clause-text
returns-in-RequirementTooLong-clause-text c =
    c.push_all-in-RequirementTooLong.ensures.text ∙ ap (λ fault. line_bytes c.args.out.now ++ line_fault_text (fault_of fault)) (sym c.in-RequirementTooLong.is)
