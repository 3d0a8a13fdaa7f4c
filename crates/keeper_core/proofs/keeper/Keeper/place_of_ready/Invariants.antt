use Rattle.std.proofs.Common.{◌≡◌, ℕ, ◌<◌, false}
use Rattle.std.specs.Prelude.{slice_index}
use Rattle.keeper_core.specs.Keeping.{is_ready}
use Rattle.keeper_core.proofs.keeper.Keeper.place_of_ready.Given as goal

abbrev pub invariant-loop-place : goal.invariant-loop-place
invariant-loop-place g l = (k : ℕ) → k < l.place → is_ready l.zone l.self.order (slice_index l.self.claims k) ≡ false
