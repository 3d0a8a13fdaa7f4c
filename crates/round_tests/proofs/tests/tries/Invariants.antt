use Rattle.round_tests.proofs.tests.tries.Given as goal

abbrev pub ghosts-tries_in-Z-ZoneIdentity : goal.ghosts-tries_in-Z-ZoneIdentity
ghosts-tries_in-Z-ZoneIdentity g a = record { number = 1; blocks = a.blocks }

abbrev pub ghosts-tries_in-Z-Opening : goal.ghosts-tries_in-Z-Opening
ghosts-tries_in-Z-Opening g a = record {
  isolated = a.blanks.isolated.name;
  rounds = a.blanks.rounds.name;
  moved = a.blanks.moved.name;
  back = a.blanks.back.name;
}
