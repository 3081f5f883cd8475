use Rattle.store_reading.proofs.RuleSteps.{above_row}
use Rattle.store_reading.proofs.rules.is_above.Goals as goal

pub returns-in-Some : goal.returns-in-Some
returns-in-Some c =
    let above = above_row c.args.before.now c.args.row.now.id c.in-Some.last.now c.in-Some.ensures.item.3 c.requires in
    ((λ t. above.0 (c.is_below.ensures.0 t)), (λ h. c.is_below.ensures.1 (above.1 h)))
