use Rattle.turn_count.proofs.counting.+in_generations.Given as goal

abbrev pub decreases-in_generations : goal.decreases-in_generations
decreases-in_generations g l = l.generations
