use Rattle.std.proofs.Common.{ap, refl, true, arith}
use Rattle.std.proofs.lemmas.List.{length-map}
use Rattle.fact_values.specs.Knowledge.{knowledge_of, certificate_of}
use Rattle.fact_values.proofs.Chains.{changed_chain}
use Rattle.fact_values.proofs.facts.Facts.trust_cert.Goals as goal

pub returns : goal.returns
returns c =
    ap (λ chain. record (knowledge_of c.args.self.now) { chain = chain })
    (changed_chain (λ x. record x { trusted = true }) c.args.place c.args.self.now.chain.items c.index_mut.result.now _ (omega (arith, c.requires, length-map c.args.self.now.chain.items certificate_of)) c.index_mut.ensures.value refl)
