-- The call that begins a round.
use Rattle.std.specs.Prelude.{length, Some}
use Rattle.state_core.specs.Pairs.{is_calm}
use Rattle.state_core.specs.ZoneState.{ZoneState, frame_count}

-- the zone after a round was begun: the fingers are at its ends, and it notes the number of records and whether the round is calm
abbrev pub round_begun : ZoneState → ZoneState
round_begun z = record z {
  migrate = 0;
  free = frame_count z;
  round = Some (record { records = length z.records; calm = is_calm z });
}
