use Rattle.first_pool.proofs.main.Given as goal

abbrev pub ghosts-compact_two_pages : goal.ghosts-compact_two_pages
ghosts-compact_two_pages g a = record {
  isolated = a.blanks.isolated.name;
  rounds = a.blanks.rounds.name;
  moved = a.blanks.moved.name;
  back = a.blanks.back.name;
}
