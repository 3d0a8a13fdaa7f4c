use Rattle.round_tests.proofs.tests.alone.is_watched.Given as goal

abbrev pub ghosts-is_watched_in-Z-ZoneIdentity : goal.ghosts-is_watched_in-Z-ZoneIdentity
ghosts-is_watched_in-Z-ZoneIdentity g a = record { number = 1; blocks = 1 }

abbrev pub ghosts-is_watched_in-Z-Opening : goal.ghosts-is_watched_in-Z-Opening
ghosts-is_watched_in-Z-Opening g a = record {
  isolated = a.blanks.isolated.name;
  rounds = a.blanks.rounds.name;
  moved = a.blanks.moved.name;
  back = a.blanks.back.name;
}
