use Rattle.std.proofs.Common.{ap, ◌∙◌}
use Rattle.std.specs.Prelude.{option_map}
use Rattle.fact_values.specs.Keyed.{value_of}
use Rattle.fact_values.proofs.ByBytes.{found_by_bytes}
use Rattle.fact_values.proofs.values.Values.get.Goals as goal

pub returns : goal.returns
returns c = ap (option_map value_of) (c.get.ensures.value ∙ found_by_bytes (λ k. k.items) c.args.key.now c.args.self.now.map.entries)
