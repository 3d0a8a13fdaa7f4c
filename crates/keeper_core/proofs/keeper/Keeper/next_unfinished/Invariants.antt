use Rattle.std.proofs.Common.{◌≡◌, ℕ, ◌<◌, false}
use Rattle.std.specs.Prelude.{slice_index}
use Rattle.zone_core.specs.Stepping.{is_unfinished}
use Rattle.keeper_core.proofs.keeper.Keeper.next_unfinished.Given as goal

abbrev pub invariant-loop-place : goal.invariant-loop-place
invariant-loop-place g l = (k : ℕ) → k < l.place → is_unfinished l.zone (slice_index l.self.claims k) l.self.order ≡ false
