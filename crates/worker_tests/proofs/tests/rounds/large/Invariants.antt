use Rattle.worker_tests.proofs.tests.rounds.large.Given as goal

abbrev pub ghosts-large_in : goal.ghosts-large_in
ghosts-large_in g a = record { number = a.zone.number; blocks = a.zone.blocks; memory = a.zone.memory }
