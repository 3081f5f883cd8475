use Rattle.std.proofs.Common.{◌<◌, sym, ◌∙◌, arith}
use Rattle.std.specs.Prelude.{Some, None}
use Rattle.authority_table.proofs.TallyGoesOn.{refused_none, refused_by}
use Rattle.authority_table.proofs.tally.refused.Goals as goal

pub returns-then-tally-eq0-clause-refused : goal.returns-then-tally-eq0-clause-refused
returns-then-tally-eq0-clause-refused c = λ s rows h. refused_none s c.args.change.now rows c.args.tally.now h c.if-tally-eq0.true

pub returns-in-Some-clause-refused : goal.returns-in-Some-clause-refused
returns-in-Some-clause-refused c = λ s rows h.
    let some : 0 < c.args.tally.now.count = omega (arith, c.if-tally-eq0.false) in
    refused_by s c.args.change.now rows c.args.tally.now (Some c.in-Some.rule) h some (sym c.in-Some.is ∙ c.full_for.ensures s rows h.full)

pub returns-in-None-clause-refused : goal.returns-in-None-clause-refused
returns-in-None-clause-refused c = λ s rows h.
    let some : 0 < c.args.tally.now.count = omega (arith, c.if-tally-eq0.false) in
    refused_by s c.args.change.now rows c.args.tally.now None h some (sym c.in-None.is ∙ c.full_for.ensures s rows h.full)
