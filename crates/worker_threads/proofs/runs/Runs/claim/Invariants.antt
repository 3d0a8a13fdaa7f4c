use Rattle.std.proofs.Common.{◌≡◌, ◌^◌}
use Rattle.std.specs.Prelude.{drop}
use Rattle.state_core.specs.Valid.{IsValidZone}
use Rattle.worker_threads.specs.Work.{runs_claimed}
use Rattle.worker_threads.proofs.runs.Runs.claim.Given as goal
use Rattle.zone_core.specs.ZoneIdentity.{HasIdentity}

abbrev pub invariant-loop-place : goal.invariant-loop-place
invariant-loop-place g l = record {
  claimed : runs_claimed (2 ^ l.fn.self.order) (drop l.place l.fn.self.left) l.zone ≡ runs_claimed (2 ^ l.fn.self.order) l.fn.self.left l.fn.zone;
  identity : HasIdentity l.fn.zone.number l.fn.zone.blocks l.zone;
  valid : IsValidZone l.fn.zone → IsValidZone l.zone;
}
