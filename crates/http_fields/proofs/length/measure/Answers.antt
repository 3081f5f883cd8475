use Rattle.std.proofs.Common.{sym, ◌∙◌}
use Rattle.http_fields.specs.Views.{pairs_at}
use Rattle.http_fields.proofs.Lengths.{twice, once}
use Rattle.http_fields.proofs.length.measure.Goals as goal

pub returns-then-has_field-2 : goal.returns-then-has_field-2
returns-then-has_field-2 c = record {
  measured = sym (twice c.args.method.now (pairs_at c.args.window.now c.args.fields.now) c.if-has_field.ensures c.in-Some.value.now (pairs_at c.args.window.now c.in-Some.rest.now)
      c.in-Some.ensures.found.values_are c.if-has_field-2.ensures);
}

pub returns : goal.returns
returns c = record {
  measured = c.by_digits.ensures ∙ sym (once c.args.method.now (pairs_at c.args.window.now c.args.fields.now) c.if-has_field.ensures c.in-Some.value.now
      (pairs_at c.args.window.now c.in-Some.rest.now) c.in-Some.ensures.found.values_are c.if-has_field-2.ensures);
}
