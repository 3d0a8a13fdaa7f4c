use Rattle.std.proofs.Common.{◌≡◌, length}
use Rattle.memory_tests.proofs.tests.sets.turn_each.Given as goal

-- the set and the table are as large as they were
abbrev pub invariant-loop-run : goal.invariant-loop-run
invariant-loop-run g l = record {
  set : l.set.bound ≡ l.fn.set.bound;
  table : length l.table ≡ length l.fn.table;
}
