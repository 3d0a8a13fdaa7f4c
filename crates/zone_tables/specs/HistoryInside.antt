-- What is true of the fields of a zone's history.
use Rattle.std.specs.Prelude.{◌≡◌, ◌≤◌, length, Some}
use Rattle.state_core.specs.declared.round.RoundStart.{RoundStart}
use Rattle.state_core.specs.ZoneState.{is_quiet_since}
use Rattle.zone_tables.specs.declared.history.History.TheInside.{Inside}

-- the latest round began when the journal had no more records than now, and the field says whether it is quiet
pub record IsTold (z : Inside) : Type 0 where
  pub begun : (start : RoundStart) → z.round ≡ Some start → start.records ≤ length z.journal.records
  pub quiet : z.quiet ≡ is_quiet_since z.journal.records z.round
