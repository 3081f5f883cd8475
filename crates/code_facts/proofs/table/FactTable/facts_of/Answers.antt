use Rattle.std.proofs.Common.{ap, refl, ◌∙◌, option_map}
use Rattle.fact_values.specs.Knowledge.{knowledge_of}
use Rattle.code_facts.specs.Tables.{or_nothing, same_hash}
use Rattle.code_facts.proofs.Listing.{found_listed, found_known}
use Rattle.code_facts.proofs.TableLemmas.{copied_known, copied_in}
use Rattle.code_facts.proofs.table.FactTable.facts_of.Goals as goal

pub returns-clause-listed : goal.returns-clause-listed
returns-clause-listed c =
    copied_known c.get.result ∙ ap (option_map knowledge_of) c.get.ensures.value
    ∙ found_listed same_hash c.args.hash.now (λ other. refl) c.args.self.now.by_hash.entries

pub returns-clause-known : goal.returns-clause-known
returns-clause-known c =
    copied_in c.get.result ∙ ap or_nothing c.get.ensures.value
    ∙ found_known same_hash c.args.hash.now (λ other. refl) c.args.self.now.by_hash.entries
