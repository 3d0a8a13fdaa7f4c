use Rattle.benches.proofs.rounds.best.Given as goal

abbrev pub ghosts-time : goal.ghosts-time
ghosts-time g a = record {
  isolated = a.blanks.isolated.name;
  rounds = a.blanks.rounds.name;
  moved = a.blanks.moved.name;
  back = a.blanks.back.name;
}
