-- What the lock of a zone keeps during a round, where nobody else has the zone: what the round comes to from here.
use Rattle.std.specs.Prelude.{◌≡◌, ◌⊎◌, ℕ, ◌-◌, ◌<◌, ◌≤◌, false, [], length, Some}
use Rattle.std.specs.FinMap as map
use Rattle.std.specs.FinSet as set
use Rattle.frame_core.specs.History.{pins}
use Rattle.frame_core.specs.Moves.{isolated, out, put_back}
use Rattle.state_core.specs.declared.placement.Placement.TheVariants.{Moving}
use Rattle.state_core.specs.Valid.{IsValidZone}
use Rattle.state_core.specs.Pairs.{stands_in}
use Rattle.state_core.specs.Rounds.{round_begun}
use Rattle.state_core.specs.Swept.{IsCarriedUp}
use Rattle.state_core.specs.ZoneState.{ZoneState, takes_up}
use Rattle.zone_core.specs.ByHand.{scanned_out, all_isolated}
use Rattle.zone_core.specs.Outcome.{outcome_of}

-- each page that is moving goes up past both fingers, and has no pin, and its words aren't lent
pub record AreCarriedUp (z : ZoneState) : Type 0 where
  pub each : (page serial source target : ℕ) → map.get z.placement page ≡ Some (Moving serial source target) → IsCarriedUp z page source target
  pub here : (page serial source target : ℕ) → map.get z.placement page ≡ Some (Moving serial source target) → set.contains z.lent_pages page ≡ false

-- the scanner can't tell these zones apart: its fingers stand alike, and between them the same pages stand in the same frames, and the
-- same frames are taken up
pub record IsSeenAs (z w : ZoneState) : Type 0 where
  pub blocks : z.blocks ≡ w.blocks
  pub migrate : z.migrate ≡ w.migrate
  pub free : z.free ≡ w.free
  pub stands : (page frame : ℕ) → z.migrate ≤ frame → frame < z.free → stands_in (map.get z.placement page) frame ≡ stands_in (map.get w.placement page) frame
  pub takes : (page frame : ℕ) → z.migrate ≤ frame → frame < z.free → takes_up (map.get z.placement page) frame ≡ takes_up (map.get w.placement page) frame
  pub marked : z.marked ≡ w.marked
  pub claimed : z.claimed ≡ w.claimed
  pub handed_out : z.handed_out ≡ w.handed_out
  pub unmovable : z.unmovable ≡ w.unmovable
  pub pins_are : (page : ℕ) → pins z.records page ≡ pins w.records page
  -- as many pages were isolated, and the journal has as many places besides those for their ends
  pub count : isolated z.records ≡ isolated w.records
  pub spare : z.room - length (out z.records) ≡ w.room - length (out w.records)

-- from here a round over a zone comes to what the round by hand comes to: the scanner that goes on stops as that one does, and if no
-- page was put back, the zone has the outcome of that one
pub record ComesTo (start z : ZoneState) : Type 0 where
  pub carried : AreCarriedUp z
  pub scans : IsSeenAs (scanned_out z) (all_isolated start)
  pub least : put_back start.records ≤ put_back z.records
  pub outcome : put_back z.records ≡ put_back start.records → outcome_of (scanned_out z) ≡ outcome_of (all_isolated start)

-- a zone that no page is moving in
pub record IsAtRest (start : ZoneState) : Type 0 where
  pub valid : IsValidZone start
  pub none_out : out start.records ≡ []

-- its round is under way
pub record IsUnderWay (start z : ZoneState) : Type 0 where
  pub comes : ComesTo start z
  -- as long as no page was isolated it has just begun
  pub least : isolated start.records ≤ isolated z.records
  pub fresh : isolated z.records ≡ isolated start.records → z ≡ round_begun start

-- what the lock of such a zone keeps while the scanner has it
abbrev pub KeepsScanning : ZoneState → ZoneState → Type 0
KeepsScanning start z = IsAtRest start → IsUnderWay start z

-- and whenever it is free: the round hasn't begun, or it is under way
abbrev pub KeepsAlone : ZoneState → ZoneState → Type 0
KeepsAlone start z = IsAtRest start → (z ≡ start) ⊎ IsUnderWay start z
