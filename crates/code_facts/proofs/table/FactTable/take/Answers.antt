use Rattle.std.proofs.Common.{refl, sym, ◌≡◌, ◌≢◌, Err}
use Rattle.req_tree.specs.Facts.{nothing}
use Rattle.code_facts.specs.declared.fault.FactFault.TheVariants.{OutOfMemory}
use Rattle.code_facts.specs.RowCode.{fact_of}
use Rattle.code_facts.specs.Growing.{grown}
use Rattle.code_facts.specs.Tables.{Grows, Begins, known_at, same_hash}
use Rattle.code_facts.proofs.TableLemmas.{on_ok, if_err, none_found, added_there, refused_there, added_new, refused_new}
use Rattle.code_facts.proofs.table.FactTable.take.Goals as goal

pub returns-in-Some-clause-found : goal.returns-in-Some-clause-found
returns-in-Some-clause-found c =
    on_ok (Grows c.args.number (fact_of c.args.row.now.fact) c.args.self.now.by_hash.entries c.in-Some.at c.grow_at.new.by_hash.entries) _
    (λ grows earlier stands.
    let one = added_there same_hash c.args.row.now.hash (λ other. refl) c.args.number earlier (fact_of c.args.row.now.fact) c.in-Some.at c.args.self.now.by_hash.entries c.grow_at.new.by_hash.entries
    stands (sym c.in-Some.ensures.index) c.in-Some.ensures.value grows in
    (one.row_is, one.held))
    c.grow_at.result c.grow_at.ensures.found

pub returns-in-Some-clause-first : goal.returns-in-Some-clause-first
returns-in-Some-clause-first c =
    if_err (λ fault. fault ≢ OutOfMemory → grown c.args.number (fact_of c.args.row.now.fact) (known_at c.args.self.now.by_hash.entries c.in-Some.at) ≡ Err fault) _
    (λ fault h apart earlier stands.
    refused_there same_hash c.args.row.now.hash (λ other. refl) c.args.number earlier (fact_of c.args.row.now.fact) c.in-Some.at c.args.self.now.by_hash.entries fault stands c.in-Some.ensures.value (h apart))
    c.grow_at.result c.grow_at.ensures.first

pub returns-in-None-clause-found : goal.returns-in-None-clause-found
returns-in-None-clause-found c =
    on_ok (Begins c.args.number (fact_of c.args.row.now.fact) c.args.self.now.by_hash.entries c.args.row.now.hash c.grow_new.new.by_hash.entries) _
    (λ begins earlier stands.
    let one = added_new same_hash c.args.row.now.hash (λ other. refl) c.args.number earlier (fact_of c.args.row.now.fact) c.args.self.now.by_hash.entries c.grow_new.new.by_hash.entries begins.facts
    stands (none_found _ c.in-None.ensures.found) begins.right begins.entries in
    (one.row_is, one.held))
    c.grow_new.result c.grow_new.ensures.found

pub returns-in-None-clause-first : goal.returns-in-None-clause-first
returns-in-None-clause-first c =
    if_err (λ fault. fault ≢ OutOfMemory → grown c.args.number (fact_of c.args.row.now.fact) nothing ≡ Err fault) _
    (λ fault h apart earlier stands.
    refused_new same_hash c.args.row.now.hash (λ other. refl) c.args.number earlier (fact_of c.args.row.now.fact) c.args.self.now.by_hash.entries fault stands (none_found _ c.in-None.ensures.found) (h apart))
    c.grow_new.result c.grow_new.ensures.first
