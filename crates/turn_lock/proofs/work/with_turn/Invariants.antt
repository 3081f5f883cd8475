use Rattle.turn_lock.proofs.work.with_turn.Given as goal

abbrev pub ghosts-end_work : goal.ghosts-end_work
ghosts-end_work g a = record { events = g.W.Work.events a.about.now.value a.answer.now }
