use Rattle.std.proofs.Common.{sym, ◌∙◌}
use Rattle.csv.specs.Records.{fields_of}
use Rattle.import_csv.proofs.HeaderFields.{header_by, header_named, header_counted}
use Rattle.import_csv.proofs.row.is_header.Goals as goal

pub returns-then-len-ne-COLUMNS : goal.returns-then-len-ne-COLUMNS
returns-then-len-ne-COLUMNS c = (λ no. cc, λ same. absurd (c.if-len-ne-COLUMNS.true (c.len.ensures ∙ header_counted (fields_of c.args.fields.now) same)))

pub returns : goal.returns
returns c =
    rw (
      c.is_field.ensures,
      c.is_field-2.ensures,
      c.is_field-3.ensures,
      c.is_field-4.ensures,
      c.is_field-5.ensures,
      c.is_field-6.ensures,
      c.is_field-7.ensures,
      c.is_field-8.ensures,
    ) (
      λ yes. header_by (fields_of c.args.fields.now) (sym c.len.ensures ∙ c.if-len-ne-COLUMNS.false) yes,
      λ same. header_named (fields_of c.args.fields.now) same,
    )
