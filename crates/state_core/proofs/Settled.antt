-- The names under which other crates cite the facts about a page in use that takes up other frames.
use Rattle.std.proofs.Common.{◌≡◌, ◌≢◌, ℕ, ◌≤◌, true, Some}
use Rattle.std.specs.FinMap as map
use Rattle.frame_core.specs.declared.record.Record.{Record}
use Rattle.state_core.specs.declared.placement.Placement.{Placement}
use Rattle.state_core.specs.Valid.{IsValidZone}
use Rattle.state_core.specs.Carrying.{relocated}
use Rattle.state_core.specs.Swept.{SweptIfQuiet}
use Rattle.state_core.specs.ZoneState.{ZoneState, frame_count, takes_up}
use Rattle.state_core.proofs.Moving as moving
use Rattle.state_core.proofs.Places as places
pub use Rattle.state_core.proofs.Moving.{CanSettle, IsStill, IsRecorded, isolate_still, moved_still, back_still}
pub use Rattle.state_core.proofs.Isolating.{target_within, pair_here, can_isolate, isolated_others, isolated_target, isolate_recorded}
pub use Rattle.state_core.proofs.Ending.{frames_apart, can_move_on, can_go_back, moved_others, moved_source, back_target, source_within, target_in, out_fewer, moved_recorded, back_recorded}
pub use Rattle.state_core.proofs.ValidMoves.{swept_if_isolated, swept_if_moved, swept_if_put_back, valid_isolated, valid_moved, valid_put_back}

module _ (v : ZoneState) (page : ℕ) (old new : Placement) (can : CanSettle v page old new) (entry : Record) where
  pub at_page : map.get (relocated v entry page new).placement page ≡ Some new
  at_page = places.at_page can

  pub at_other : (q : ℕ) → q ≢ page → map.get (relocated v entry page new).placement q ≡ map.get v.placement q
  at_other = places.at_other can

  pub not_old : (q g : ℕ) → q ≢ page → takes_up (map.get v.placement q) g ≡ true → takes_up (Some old) g ≡ true → ⊥
  not_old = places.not_old can

pub valid_settled : (v : ZoneState) (page : ℕ) (old new : Placement) (can : CanSettle v page old new) (entry : Record) → IsRecorded v entry page new → (migrate free : ℕ) → (migrate ≤ free) × (free ≤ frame_count v) → SweptIfQuiet (record (relocated v entry page new) { migrate = migrate; free = free }) → IsValidZone (record (relocated v entry page new) { migrate = migrate; free = free })
valid_settled v page old new can = moving.valid_settled can
