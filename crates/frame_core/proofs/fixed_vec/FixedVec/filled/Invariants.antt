use Rattle.std.proofs.Common.{◌≡◌, replicate}
use Rattle.std.specs.Prelude.{vec_capacity}
use Rattle.frame_core.proofs.fixed_vec.FixedVec.filled.Given as goal

-- the list so far has only copies of the value, and still the capacity for all of them
abbrev pub invariant-loop : goal.invariant-loop
invariant-loop g l = record {
  copies : l.list.items ≡ replicate l.counter l.item;
  room : vec_capacity l.list ≡ l.count;
}
