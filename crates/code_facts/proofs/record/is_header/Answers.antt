use Rattle.csv.specs.Records.{fields_of}
use Rattle.std.proofs.Common.{sym, ◌∙◌}
use Rattle.code_facts.proofs.RowLemmas.{header_fields, other_header}
use Rattle.code_facts.proofs.record.is_header.Goals as goal

pub returns-then-len-ne6 : goal.returns-then-len-ne6
returns-then-len-ne6 c = other_header (fields_of c.args.fields.now) (λ six. c.if-len-ne6.true (c.len.ensures ∙ six))

pub returns : goal.returns
returns c =
    let all = header_fields (fields_of c.args.fields.now) (sym c.len.ensures ∙ c.if-len-ne6.false) in
    rw (c.is_field.ensures, c.is_field-2.ensures, c.is_field-3.ensures, c.is_field-4.ensures, c.is_field-5.ensures, c.is_field-6.ensures) all
