use Rattle.std.proofs.Common.{◌≤◌, ◌-◌, All}
use Rattle.arrayvec.specs.ArrayVec.{array_vec_len}
use Rattle.huge_core.specs.Reserving.{IsGot}
use Rattle.huge_core.proofs.Running.{IsRunning}
use Rattle.huge_core.proofs.collector.Collector.reserve.Given as goal

abbrev pub invariant-loop-error : goal.invariant-loop-error
invariant-loop-error g l = record {
  most : array_vec_len l.got ≤ l.n;
  got : All (IsGot l.self.order) l.got.items;
  running : IsRunning l.self l.fn.seats.scan l.seats.scan l.fn.seats.ends l.seats.ends l.rounds;
}

abbrev pub decreases-loop-error : goal.decreases-loop-error
decreases-loop-error g l = l.self.rounds - l.rounds
