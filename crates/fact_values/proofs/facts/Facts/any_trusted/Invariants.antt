use Rattle.std.proofs.Common.{◌≡◌, drop}
use Rattle.std.specs.Prelude.{map}
use Rattle.std.specs.List.{list_any}
use Rattle.req_tree.specs.Facts as f
use Rattle.fact_values.specs.Knowledge.{certificate_of}
use Rattle.fact_values.proofs.facts.Facts.any_trusted.Given as goal

abbrev pub invariant-loop-certificate : goal.invariant-loop-certificate
invariant-loop-certificate l =
    list_any (λ (c : f.Certificate). c.trusted) (map certificate_of (drop l.certificate-index l.self.chain.items)) ≡ list_any (λ (c : f.Certificate). c.trusted) (map certificate_of l.self.chain.items)
