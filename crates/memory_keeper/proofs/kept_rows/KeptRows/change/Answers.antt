use Rattle.std.proofs.Common.{[], ◌∷◌, ap, ◌∙◌}
use Rattle.std.proofs.lemmas.List.{map-append}
use Rattle.std.proofs.lemmas.Result.{on_ok_weaker}
use Rattle.raw_tables.specs.Raw.{plain_receipt, plain_receipts}
use Rattle.memory_keeper.proofs.Kept.{same_rows}
use Rattle.memory_keeper.proofs.kept_rows.KeptRows.change.Goals as goal

pub returns-else-is_err-clause-ok : goal.returns-else-is_err-clause-ok
returns-else-is_err-clause-ok c = λ n.
    on_ok_weaker c.change-changed.result
    (λ e. same_rows c.args.self.now.format c.args.self.now.switch _ _ _ _
    (ap plain_receipts c.in_ok-push.ensures.ok ∙ map-append plain_receipt c.args.self.now.receipts (c.args.receipt ∷ [])) e)
    (c.change-changed.ensures.ok n)
