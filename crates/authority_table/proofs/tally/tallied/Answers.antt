use Rattle.rule_values.specs.Selector.{selector_of}
use Rattle.authority_table.proofs.TallyOfSpan.{tally_span}
use Rattle.authority_table.proofs.tally.tallied.Goals as goal

pub returns : goal.returns
returns c = tally_span (selector_of c.args.selector.now) c.args.rules.now c.span_of-span.result c.tallied_each.result c.span_of-span.ensures c.tallied_each.ensures
