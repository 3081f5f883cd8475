use Rattle.std.proofs.Common.{◌∙◌}
use Rattle.fact_values.proofs.ByBytes.{is_by_bytes}
use Rattle.fact_values.proofs.names.Names.has.Goals as goal

pub returns : goal.returns
returns c = c.contains.ensures ∙ is_by_bytes (λ k. k.items) c.args.name.now c.args.self.now.set.keys
