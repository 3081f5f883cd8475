use Rattle.fact_values.proofs.Kept.{name_put}
use Rattle.fact_values.proofs.names.Names.put.Goals as goal

pub returns : goal.returns
returns c = name_put (λ k. k.items) c.args.self.now.set.keys c.insert.new.self.keys c.in_ok-name.name c.args.name.now c.in_ok-insert.ensures.keys c.in_ok-name.ensures.items
