-- What an audit of a zone tells where no seats are looked at.
use Rattle.std.specs.Prelude.{◌≡◌, ◌+◌, []}
use Rattle.frame_core.specs.Ends.{AreEndedOnce}
use Rattle.frame_core.specs.Moves.{isolated, moved, put_back, out}
use Rattle.state_core.specs.declared.information.Audit.{Audit}
use Rattle.state_core.specs.ZoneState.{ZoneState}

-- the counts are those of the journal and add up, no page is out, and each that was isolated has ended exactly once
pub record IsCounted (z : ZoneState) (audit : Audit) : Type 0 where
  pub isolated : audit.isolated ≡ isolated z.records
  pub moved : audit.moved ≡ moved z.records
  pub back : audit.back ≡ put_back z.records
  pub sum : audit.moved + audit.back ≡ audit.isolated
  pub none_out : out z.records ≡ []
  pub once : AreEndedOnce z.records
