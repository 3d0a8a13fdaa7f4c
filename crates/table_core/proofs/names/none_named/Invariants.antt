use Rattle.std.proofs.Common.{◌≡◌, ◌+◌, [], replicate}
use Rattle.table_core.proofs.names.none_named.Given as goal

-- the lists so far have no address, and there is room for exactly the others
abbrev pub invariant-loop : goal.invariant-loop
invariant-loop l = record {
  lists : l.lists.items ≡ replicate l.counter [];
  room : l.counter + l.lists.room ≡ l.count;
}
