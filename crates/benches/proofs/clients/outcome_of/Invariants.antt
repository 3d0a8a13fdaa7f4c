use Rattle.benches.proofs.clients.outcome_of.Given as goal

abbrev pub ghosts-run-K-ZoneIdentity : goal.ghosts-run-K-ZoneIdentity
ghosts-run-K-ZoneIdentity g a = record { number = 0; blocks = 8 }

abbrev pub ghosts-run-Z-Opening : goal.ghosts-run-Z-Opening
ghosts-run-Z-Opening g a = record {
  isolated = a.blanks.isolated.name;
  rounds = a.blanks.rounds.name;
  moved = a.blanks.moved.name;
  back = a.blanks.back.name;
}
