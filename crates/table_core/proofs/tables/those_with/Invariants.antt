use Rattle.std.proofs.Common.{◌≤◌, length, drop}
use Rattle.table_core.proofs.Passing.{Found}
use Rattle.table_core.proofs.tables.those_with.Given as goal

abbrev pub invariant-loop-name : goal.invariant-loop-name
invariant-loop-name l = record {
  few : length l.found.items ≤ l.name-index;
  found : Found l.entries.entries l.names l.entry l.found.items (drop l.name-index l.names);
}
