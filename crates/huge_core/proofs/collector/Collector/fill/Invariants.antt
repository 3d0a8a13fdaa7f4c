use Rattle.std.proofs.Common.{◌≤◌, ◌-◌, All}
use Rattle.arrayvec.specs.ArrayVec.{array_vec_len}
use Rattle.huge_core.specs.Reserving.{IsGot}
use Rattle.huge_core.proofs.collector.Collector.fill.Given as goal

abbrev pub invariant-loop-got : goal.invariant-loop-got
invariant-loop-got g l = record {
  most : array_vec_len l.got ≤ l.n;
  got : All (IsGot l.self.order) l.got.items;
}

abbrev pub decreases-loop-got : goal.decreases-loop-got
decreases-loop-got g l = l.n - array_vec_len l.got
