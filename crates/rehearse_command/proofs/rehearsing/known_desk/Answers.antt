-- The facts are those of the file, and a desk without rows is a new one.
use Rattle.std.proofs.Common.{ℕ, List, sym, ◌∙◌, subst}
use Rattle.std.specs.Arc.{arc_value}
use Rattle.code_facts.specs.Tables.{IsFactsFile, table_facts}
use Rattle.code_facts.specs.declared.table.FactTable.{FactTable}
use Rattle.memory_keeper.specs.Memory.{kept}
use Rattle.rehearse_command.proofs.NewDesk.{new_desk}
use Rattle.rehearse_command.proofs.rehearsing.known_desk.Goals as goal

pub returns-in-Ok-load-clause-stands : goal.returns-in-Ok-load-clause-stands
returns-in-Ok-load-clause-stands c =
    let facts = table_facts (arc_value c.in_ok-facts.facts) in
    let found : IsFactsFile c.as_slice.result.now facts =
    subst (λ (t : FactTable). IsFactsFile c.as_slice.result.now (table_facts t)) (sym c.in_ok-facts.ensures.ok) c.in-Ok.ensures.found in (
      facts,
      subst (λ (b : List ℕ). IsFactsFile b facts) (c.as_slice.ensures ∙ c.in_ok-text.ensures) found,
      new_desk c.stored_rows_mean_tables.ensures.once c.stored_tables.ensures.empty (kept c.load.new.keeper) c.in-Ok-load.desk facts
          (sym c.in-Ok-load.ensures.same ∙ c.requires) c.in-Ok-load.ensures.loaded.1 c.in-Ok-load.ensures.stands,
    )
