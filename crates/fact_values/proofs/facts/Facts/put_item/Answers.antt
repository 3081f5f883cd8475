use Rattle.std.proofs.Common.{ap, sym, ◌∙◌, arith}
use Rattle.std.proofs.lemmas.List.{length-map}
use Rattle.std.proofs.lemmas.Result.{on_ok_weaker}
use Rattle.fact_values.specs.Keyed.{with_item}
use Rattle.fact_values.specs.Knowledge.{knowledge_of, certificate_of}
use Rattle.fact_values.specs.Growth.{with_item_at}
use Rattle.fact_values.proofs.Chains.{changed_chain}
use Rattle.fact_values.proofs.facts.Facts.put_item.Goals as goal

pub returns-in-CertField : goal.returns-in-CertField
returns-in-CertField c =
    let inside = rw c.in-CertField.is at c.requires in
    on_ok_weaker c.put_item-in-CertField.result (λ e.
    ap (λ chain. record (knowledge_of c.args.self.now) { chain = chain })
    (changed_chain (λ x. record x { field = with_item c.args.key.now c.args.text.now x.field }) c.in-CertField.at c.args.self.now.chain.items c.index_mut.result.now _
    (omega (arith, inside, length-map c.args.self.now.chain.items certificate_of)) c.index_mut.ensures.value
    (ap (λ v. record (certificate_of c.index_mut.result.now) { field = v }) e))
    ∙ ap (λ p. with_item_at p c.args.key.now c.args.text.now (knowledge_of c.args.self.now)) (sym c.in-CertField.is)) c.put_item-in-CertField.ensures

pub returns-in-CertOid : goal.returns-in-CertOid
returns-in-CertOid c =
    let inside = rw c.in-CertOid.is at c.requires in
    on_ok_weaker c.put_item-in-CertOid.result (λ e.
    ap (λ chain. record (knowledge_of c.args.self.now) { chain = chain })
    (changed_chain (λ x. record x { oid = with_item c.args.key.now c.args.text.now x.oid }) c.in-CertOid.at c.args.self.now.chain.items c.index_mut-in-CertOid.result.now _
    (omega (arith, inside, length-map c.args.self.now.chain.items certificate_of)) c.index_mut-in-CertOid.ensures.value
    (ap (λ v. record (certificate_of c.index_mut-in-CertOid.result.now) { oid = v }) e))
    ∙ ap (λ p. with_item_at p c.args.key.now c.args.text.now (knowledge_of c.args.self.now)) (sym c.in-CertOid.is)) c.put_item-in-CertOid.ensures

pub returns-in-CertPolicy : goal.returns-in-CertPolicy
returns-in-CertPolicy c =
    let inside = rw c.in-CertPolicy.is at c.requires in
    on_ok_weaker c.put_item-in-CertPolicy.result (λ e.
    ap (λ chain. record (knowledge_of c.args.self.now) { chain = chain })
    (changed_chain (λ x. record x { policy = with_item c.args.key.now c.args.text.now x.policy }) c.in-CertPolicy.at c.args.self.now.chain.items c.index_mut-in-CertPolicy.result.now _
    (omega (arith, inside, length-map c.args.self.now.chain.items certificate_of)) c.index_mut-in-CertPolicy.ensures.value
    (ap (λ v. record (certificate_of c.index_mut-in-CertPolicy.result.now) { policy = v }) e))
    ∙ ap (λ p. with_item_at p c.args.key.now c.args.text.now (knowledge_of c.args.self.now)) (sym c.in-CertPolicy.is)) c.put_item-in-CertPolicy.ensures
