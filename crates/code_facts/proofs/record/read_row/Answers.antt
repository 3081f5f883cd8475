use Rattle.std.proofs.Common.{◌≡◌, Option, option_map, subst, sym, ◌∙◌}
use Rattle.std.specs.Result.{IfOk}
use Rattle.csv.specs.Records.{fields_of}
use Rattle.code_facts.specs.Rows.{Row}
use Rattle.code_facts.specs.RowCode.{row_of_code}
use Rattle.code_facts.proofs.RowLemmas.{six_read}
use Rattle.code_facts.proofs.record.read_row.Goals as goal

pub returns : goal.returns
returns c =
    let row_is = six_read (fields_of c.args.fields.now) c.field-hash.result.now c.field-scope.result.now c.field-slot.result.now c.field-key.result.now c.field-kind.result.now c.field-value.result.now
    (sym c.len.ensures ∙ c.if-len-ne6.false) c.field-hash.ensures c.field-scope.ensures c.field-slot.ensures c.field-key.ensures c.field-kind.ensures c.field-value.ensures in
    subst (λ (w : Option Row). IfOk c.read_fields.result (λ row. option_map row_of_code row ≡ w)) row_is c.read_fields.ensures
