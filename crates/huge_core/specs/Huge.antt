-- A block of frames that a zone handed out.
use Rattle.std.specs.Prelude.{◌≡◌, ℕ, ◌^◌, List, length, Some, None}
use Rattle.state_core.specs.declared.error.ZoneError.{ZoneError}
use Rattle.state_core.specs.Clear.{IsClear}
use Rattle.state_core.specs.Contents.{contents_refusal, contents_from, contents_written}
use Rattle.state_core.specs.HandingOut.{lowest_run, take_order_refusal, give_order_refusal, block_taken, block_given}
use Rattle.state_core.specs.Valid.{IsValidZone}
use Rattle.state_core.specs.ZoneState.{ZoneState}
use Rattle.zone_core.specs.ZoneIdentity.{HasIdentity}

-- a block: its first frame, and its order; it has 2 ^ order frames
pub record Huge : Type 0 where
  pub frame : ℕ
  pub order : ℕ

-- a zone handed a block out: what the zone was when the call was made, and what it was afterwards
pub record IsHandedOut (block : Huge) : Type 0 where
  pub zone : ZoneState
  pub zone_new : ZoneState
  pub accepted : take_order_refusal zone block.order ≡ None
  -- no lower block of its order was free
  pub lowest : lowest_run zone block.order ≡ Some block.frame
  pub taken : zone_new ≡ block_taken zone block.frame block.order
  -- no page and no address has a frame of it
  pub clear : IsClear zone_new block.frame (2 ^ block.order)
  pub valid : IsValidZone zone_new

-- a zone refused to hand out a block of this order: what the zone was when the call was made
pub record IsRefused (order : ℕ) (error : ZoneError) : Type 0 where
  pub zone : ZoneState
  pub valid : IsValidZone zone
  pub refused : take_order_refusal zone order ≡ Some error

-- a zone with this number and this many pageblocks took a block back that it had handed out: what the zone was when the call was made,
-- and what it was afterwards
pub record IsTakenBack (number blocks : ℕ) (block : Huge) : Type 0 where
  pub zone : ZoneState
  pub zone_new : ZoneState
  pub identity : HasIdentity number blocks zone
  pub accepted : give_order_refusal zone block.frame block.order ≡ None
  pub given : zone_new ≡ block_given zone block.frame block.order
  pub valid : IsValidZone zone_new

-- such a zone refused to take a block back: what the zone was when the call was made
pub record IsRefusedBack (number blocks : ℕ) (block : Huge) (error : ZoneError) : Type 0 where
  pub zone : ZoneState
  pub identity : HasIdentity number blocks zone
  pub valid : IsValidZone zone
  pub refused : give_order_refusal zone block.frame block.order ≡ Some error

-- this many words of a block, from one on, were read from a zone with this number and this many pageblocks: what the zone was when the
-- call was made; it stayed so
pub record IsRead (number blocks : ℕ) (block : Huge) (from count : ℕ) (values : List ℕ) : Type 0 where
  pub zone : ZoneState
  pub identity : HasIdentity number blocks zone
  pub valid : IsValidZone zone
  pub accepted : contents_refusal zone block.frame block.order from count ≡ None
  pub read : values ≡ contents_from zone block.frame from count

-- these values were written into a block of such a zone, from one word on: what the zone was when the call was made, and what it was
-- afterwards
pub record IsWritten (number blocks : ℕ) (block : Huge) (from : ℕ) (values : List ℕ) : Type 0 where
  pub zone : ZoneState
  pub zone_new : ZoneState
  pub identity : HasIdentity number blocks zone
  pub accepted : contents_refusal zone block.frame block.order from (length values) ≡ None
  pub written : zone_new ≡ contents_written zone block.frame from values
  pub valid : IsValidZone zone_new

-- such a zone refused to read or write this many words of a block, from one on: what the zone was when the call was made
pub record IsRefusedWords (number blocks : ℕ) (block : Huge) (from count : ℕ) (error : ZoneError) : Type 0 where
  pub zone : ZoneState
  pub identity : HasIdentity number blocks zone
  pub valid : IsValidZone zone
  pub refused : contents_refusal zone block.frame block.order from count ≡ Some error
