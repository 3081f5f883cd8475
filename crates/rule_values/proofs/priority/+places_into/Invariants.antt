use Rattle.rule_values.proofs.priority.+places_into.Given as goal

abbrev pub decreases-places_into : goal.decreases-places_into
decreases-places_into l = l.count
