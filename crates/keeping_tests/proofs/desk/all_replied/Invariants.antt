use Rattle.policy_keeper.specs.Mirror.{Mirrors}
use Rattle.desk_state.specs.Stands.{tables}
use Rattle.keeping_tests.proofs.desk.all_replied.Given as goal

abbrev pub invariant-loop-row : goal.invariant-loop-row
invariant-loop-row g l = Mirrors (g.K.Keeper.told l.keeper) (tables l.desk)
