use Rattle.std.proofs.Common.{refl}
use Rattle.rule_values.specs.Rule.{row_of}
use Rattle.authority_table.proofs.TallyGoesOn.{tally_last}
use Rattle.authority_table.proofs.tally.Tally.with_selected.Goals as goal

pub returns : goal.returns
returns c = λ s rows sel h.
    tally_last s rows (row_of c.args.rule.now) c.args.self _ sel h refl (c.with.ensures _ h.touched) (c.full_with.ensures s rows sel h.full)
