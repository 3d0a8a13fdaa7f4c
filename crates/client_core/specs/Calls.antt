-- What a call under the lock of a zone tells: what the zone was when the call was made, and what it was afterwards.
use Rattle.std.specs.Prelude.{◌≡◌, ℕ, Bool, Option, Some, None, unwrap_or}
use Rattle.frame_core.specs.declared.place.Address.{Address}
use Rattle.state_core.specs.declared.call.ZoneAnswer.{ZoneAnswer}
use Rattle.state_core.specs.declared.call.ZoneCall.{ZoneCall}
use Rattle.state_core.specs.declared.error.ZoneError.{ZoneError}
use Rattle.state_core.specs.Access.{value_at, loaded}
use Rattle.state_core.specs.Calls.{refusal_of, answer_of, record_of}
use Rattle.state_core.specs.Valid.{IsValidZone}
use Rattle.state_core.specs.Mapping.{mapped}
use Rattle.state_core.specs.ZoneState.{ZoneState, frame_for, lowest_unused_page}
use Rattle.client_core.specs.declared.error.ClientError.{ClientError}
use Rattle.client_core.specs.declared.error.ClientError.TheVariants.{Memory, Zone}
use Rattle.client_core.specs.Receipts.{Client, with_receipt}

-- a call was accepted: some valid zone didn't refuse it (`refusal` says when a zone would), and `leaves` holds of this zone, the
-- answer, and the zone afterwards
pub record IsAccepted {X : Type 0} (refusal : ZoneState → Option ZoneError) (leaves : ZoneState → X → ZoneState → Type 0) (answer : X) : Type 0 where
  pub zone : ZoneState
  pub valid : IsValidZone zone
  pub accepted : refusal zone ≡ None
  pub zone_new : ZoneState
  pub left : leaves zone answer zone_new

-- a call was made: some valid zone didn't refuse it and gave this answer
pub record IsMade {W : ℕ} (call : ZoneCall W) (answer : ZoneAnswer) : Type 0 where
  pub zone : ZoneState
  pub valid : IsValidZone zone
  pub accepted : refusal_of call zone ≡ None
  pub answer_is : answer ≡ answer_of call zone

-- a client's call was made, and its receipt, the newest that the client has, is the record that such a call leaves in the journal
abbrev pub HasMade : {W : ℕ} → Client → ZoneCall W → ZoneAnswer → Client → Type 0
HasMade old call answer new = IsMade call answer × (new ≡ with_receipt old (record_of call old.number answer))

-- a call was refused: some valid zone refused it with this error
pub record IsRefused (refusal : ZoneState → Option ZoneError) (error : ZoneError) : Type 0 where
  pub zone : ZoneState
  pub valid : IsValidZone zone
  pub refused : refusal zone ≡ Some error

-- a call failed with this error: for want of memory, where it takes any, or because a zone refused it
abbrev pub IsFailed : Type 0 → (ZoneState → Option ZoneError) → ClientError → Type 0
IsFailed takes_memory refusal Memory = takes_memory
IsFailed takes_memory refusal (Zone error) = IsRefused refusal error

-- the call answers nothing, and the zone afterwards is what `left` makes of the zone before
abbrev pub leaving : (ZoneState → ZoneState) → ZoneState → Unit {0} → ZoneState → Type 0
leaving left zone done zone_new = zone_new ≡ left zone

-- a load answers the value of a word, and leaves its record in the zone
abbrev pub loading : ℕ → Address → ℕ → ZoneState → ℕ → ZoneState → Type 0
loading client address word zone value zone_new = (value ≡ value_at zone address word) × (zone_new ≡ loaded zone client address word)

-- a map answers the fresh page, which is in this frame, and leaves the zone with this page
abbrev pub mapping : ℕ → Address → Bool → ℕ → ZoneState → ℕ → ZoneState → Type 0
mapping client address unmovable frame zone page zone_new =
    (page ≡ unwrap_or (lowest_unused_page zone) 0) × (zone_new ≡ mapped zone client address unmovable frame)

-- a map that names no frame answers the fresh page, which is in the frame for such a page, and leaves the zone with this page
abbrev pub mapping_free : ℕ → Address → Bool → ℕ → ZoneState → ℕ → ZoneState → Type 0
mapping_free client address unmovable frame zone page zone_new =
    (frame_for zone unmovable ≡ Some frame) × mapping client address unmovable frame zone page zone_new
