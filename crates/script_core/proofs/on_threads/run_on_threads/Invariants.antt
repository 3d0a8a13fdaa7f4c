use Rattle.script_core.proofs.on_threads.run_on_threads.Given as goal

abbrev pub ghosts-run_threaded : goal.ghosts-run_threaded
ghosts-run_threaded g a = record {
  isolated = a.blanks.isolated.name;
  rounds = a.blanks.rounds.name;
  moved = a.blanks.moved.name;
  back = a.blanks.back.name;
}
