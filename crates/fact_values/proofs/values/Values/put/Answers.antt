use Rattle.fact_values.proofs.Kept.{value_put}
use Rattle.fact_values.proofs.values.Values.put.Goals as goal

pub returns : goal.returns
returns c = value_put (λ k. k.items) c.args.self.now.map.entries c.insert.new.self.entries c.in_ok-key.key c.args.value c.args.key.now c.in_ok-insert.ensures.entries c.in_ok-key.ensures.items
