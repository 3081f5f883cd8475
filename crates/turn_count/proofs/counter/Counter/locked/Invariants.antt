use Rattle.turn_count.proofs.counter.Counter.locked.Given as goal

abbrev pub ghost-new : goal.ghost-new
ghost-new g = 0
