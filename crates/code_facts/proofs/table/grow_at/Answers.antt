use Rattle.std.proofs.Common.{ap, refl, sym, ◌∙◌, ◌≡◌, Ok}
use Rattle.fact_values.specs.Knowledge.{knowledge_of}
use Rattle.code_facts.specs.RowCode.{fact_of}
use Rattle.code_facts.specs.Growing.{grown}
use Rattle.code_facts.specs.Tables.{or_nothing}
use Rattle.code_facts.proofs.TableLemmas.{on_ok}
use Rattle.code_facts.proofs.table.grow_at.Goals as goal

pub returns-clause-found : goal.returns-clause-found
returns-clause-found c =
    on_ok (grown c.args.number (fact_of c.args.fact.now) (knowledge_of c.in-Some.facts.now) ≡ Ok (knowledge_of c.grow.new.facts)) _
    (λ right. record {
      facts = c.grow.new.facts;
      entries = refl;
      right = ap (grown c.args.number (fact_of c.args.fact.now)) (ap or_nothing (sym c.in-Some.ensures.value)) ∙ right;
    })
    c.grow.result c.grow.ensures.found
