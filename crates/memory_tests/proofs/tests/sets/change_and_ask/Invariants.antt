use Rattle.std.proofs.Common.{◌≡◌, ◌≤◌, length}
use Rattle.memory_tests.proofs.tests.sets.change_and_ask.Given as goal

-- the set keeps its bound, and the table its length
abbrev pub invariant-loop : goal.invariant-loop
invariant-loop g l = record {
  set : l.bound ≤ l.set.bound;
  table : length l.table.items ≡ l.bound;
}
