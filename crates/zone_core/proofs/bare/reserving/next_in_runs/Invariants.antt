use Rattle.std.proofs.Common.{◌^◌, ℕ, take}
use Rattle.std.specs.List.{list_any}
use Rattle.fewest_core.specs.Evacuation.{is_in_run}
use Rattle.zone_core.specs.Reserving.{IsNext}
use Rattle.zone_core.proofs.bare.reserving.next_in_runs.Given as goal

abbrev pub invariant-loop-place : goal.invariant-loop-place
invariant-loop-place l = IsNext (λ frame. list_any (λ (first : ℕ). is_in_run first (2 ^ l.order) frame) (take l.place l.firsts)) l.from l.next
