use Rattle.worker_tests.proofs.tests.rounds.alone.Given as goal

abbrev pub ghosts-alone_in : goal.ghosts-alone_in
ghosts-alone_in g a = record { start = a.zone }
