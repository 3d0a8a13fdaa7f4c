use Rattle.zone_tests.proofs.tests.world.a_world_comes_apart_at_rest.Given as goal

abbrev pub ghosts-comes_apart : goal.ghosts-comes_apart
ghosts-comes_apart g a = record {
  isolated = a.blanks.isolated.name;
  rounds = a.blanks.rounds.name;
  moved = a.blanks.moved.name;
  back = a.blanks.back.name;
}
