use Rattle.std.proofs.Common.{ap, ◌∙◌}
use Rattle.http_model.specs.Fields.{same_name}
use Rattle.http_fields.proofs.FirstField.{found}
use Rattle.http_fields.proofs.names.+find_field.Goals as goal

pub returns-then-is_same : goal.returns-then-is_same
returns-then-is_same t c = record {
  found = rw c.of-then-is_same.ensures (found c.args.window.now c.args.name.now c.args.fields.now c.in-Some.field.now c.in-Some.rest.now c.in-Some.ensures.cases.0 c.requires.within
      (c.if-is_same.ensures ∙ ap (λ b. same_name b c.args.name.now) c.of.ensures));
}
