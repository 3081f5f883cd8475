use Rattle.std.specs.Prelude.{◌≡◌, take}
use Rattle.memory_keeper.proofs.held_rules.HeldRules.of.Given as goal

abbrev pub invariant-loop-rule : goal.invariant-loop-rule
invariant-loop-rule l = l.held ≡ take l.rule-index l.fn.rules
