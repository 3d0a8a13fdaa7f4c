use Rattle.zone_tests.proofs.tests.trial.tries.Given as goal

abbrev pub ghosts-tries_in : goal.ghosts-tries_in
ghosts-tries_in g a = record {
  isolated = a.blanks.isolated.name;
  rounds = a.blanks.rounds.name;
  moved = a.blanks.moved.name;
  back = a.blanks.back.name;
}
