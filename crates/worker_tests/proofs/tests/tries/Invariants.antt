use Rattle.worker_tests.proofs.tests.tries.Given as goal

abbrev pub ghosts-tries_in : goal.ghosts-tries_in
ghosts-tries_in g a = record { number = a.zone.number; blocks = a.zone.blocks; memory = a.zone.memory }
