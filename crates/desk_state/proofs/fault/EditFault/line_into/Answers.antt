use Rattle.std.proofs.Common.{sym, ap, ◌∙◌, ◌++◌}
use Rattle.std.specs.Prelude.{codes, decimal}
use Rattle.line_text.specs.LineText.{line_bytes}
use Rattle.desk_state.specs.Answer.{fault_text}
use Rattle.desk_state.proofs.fault.EditFault.line_into.Goals as goal

pub returns-in-DisableFull-clause-text : goal.returns-in-DisableFull-clause-text
returns-in-DisableFull-clause-text c =
    c.push_field.ensures.text
    ∙ ap (λ n. line_bytes c.args.out.now ++ (codes "refused edit 15 DisableFull rule=" ++ decimal n)) c.get.ensures.value
    ∙ ap (λ f. line_bytes c.args.out.now ++ fault_text f) (sym c.in-DisableFull.is)
