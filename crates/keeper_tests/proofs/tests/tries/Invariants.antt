use Rattle.keeper_tests.proofs.tests.tries.Given as goal

abbrev pub ghosts-tries_in : goal.ghosts-tries_in
ghosts-tries_in g a = record { order = a.keeper.order; ready = a.keeper.ready; most = a.most }
