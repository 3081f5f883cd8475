use Rattle.std.proofs.Common.{ap, sym, ◌∙◌, ◌≡◌}
use Rattle.indexmap.specs.IndexMap.{insert_entry}
use Rattle.code_facts.specs.RowCode.{fact_of}
use Rattle.code_facts.specs.Growing.{grown}
use Rattle.code_facts.specs.Tables.{same_hash}
use Rattle.code_facts.proofs.TableLemmas.{on_ok}
use Rattle.code_facts.proofs.table.grow_new.Goals as goal

pub returns-in-Ok-clause-found : goal.returns-in-Ok-clause-found
returns-in-Ok-clause-found c =
    on_ok (c.keep.new.by_hash.entries ≡ insert_entry same_hash c.args.by_hash.now.entries c.args.row.now.hash c.grow.new.facts) _
    (λ kept. record {
      facts = c.grow.new.facts;
      entries = kept;
      right = ap (grown c.args.number (fact_of c.args.row.now.fact)) (sym c.empty-facts.ensures) ∙ c.in-Ok.ensures.found;
    })
    c.keep.result c.keep.ensures.kept

pub returns-in-Err-clause-first : goal.returns-in-Err-clause-first
returns-in-Err-clause-first c = λ apart. ap (grown c.args.number (fact_of c.args.row.now.fact)) (sym c.empty-facts.ensures) ∙ c.in-Err.ensures.first apart
