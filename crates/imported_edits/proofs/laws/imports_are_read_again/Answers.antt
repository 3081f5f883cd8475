use Rattle.imported_edits.proofs.RowsFit.{imported_edits_fit, import_is_read_again}
use Rattle.imported_edits.proofs.laws.imports_are_read_again.Goals as goal

pub returns-clause-edits : goal.returns-clause-edits
returns-clause-edits c = imported_edits_fit c.words_that_are_read_fit.ensures.priority c.words_that_are_read_fit.ensures.expiry

pub returns-clause-store : goal.returns-clause-store
returns-clause-store c =
    import_is_read_again (imported_edits_fit c.words_that_are_read_fit.ensures.priority c.words_that_are_read_fit.ensures.expiry)
    c.stores_are_read_again.ensures.history
