-- A store that a desk left is read again.
use Rattle.std.proofs.Common.{sym, subst}
use Rattle.store_model.specs.Accepted.{MeetsRules}
use Rattle.store_model.specs.Laws.{HistoriesStayKept, RowsMeanOne, AcceptedRowsMeanKept, AcceptedIsNotRefused}
use Rattle.store_model.specs.Again.{KeptIsReadAgain, HistoriesAreReadAgain}

pub kept_again : RowsMeanOne → AcceptedIsNotRefused → KeptIsReadAgain
kept_again one never raw t kept holds =
    let accepted = subst MeetsRules (sym holds.stored) kept.accepted in
    record { accepted = accepted; refused = λ row. never raw row accepted; only = λ other means. one raw other t means holds }

pub histories_again : HistoriesStayKept → AcceptedRowsMeanKept → KeptIsReadAgain → HistoriesAreReadAgain
histories_again stay meant again raw left t h accepted holds edits means = again left _ (stay t h (meant raw t accepted holds) edits) means
