-- What a call that isn't refused found in its zone.
use Rattle.std.proofs.Common.{◌≡◌, ℕ, Bool, true, false, cond, not, refl, ◌&&◌, if◌then◌else◌, arith}
use Rattle.std.specs.Prelude.{Option, Some, None, IsSome, is_some, nat_lt}
use Rattle.std.specs.Option.{option_or}
use Rattle.std.proofs.lemmas.Bool.{and_parts, ltb-true, not-false}
use Rattle.frame_core.specs.declared.place.Address.{Address}
use Rattle.frame_core.specs.History.{page_at}
use Rattle.state_core.specs.declared.error.ZoneError.{ZoneError}
use Rattle.state_core.specs.declared.error.ZoneError.TheVariants.{Range, JournalFull, Occupied, NoFrame}
use Rattle.state_core.specs.declared.placement.Placement.{Placement}
use Rattle.state_core.specs.declared.placement.Placement.TheVariants.{At}
use Rattle.state_core.specs.Access.{placement_refusal}
use Rattle.state_core.specs.Mapping.{map_refusal, map_at_refusal}
use Rattle.state_core.specs.ZoneState.{ZoneState, frame_count, has_address, has_room, is_free, lowest_free_frame, placement_at}
use Rattle.state_core.proofs.Finding.{some_lowest}

-- it passed each test
pub passed : (b : Bool) (error : ZoneError) (o : Option ZoneError) → cond b (Some error) o ≡ None → (b ≡ false) × (o ≡ None)
passed true error o e = cc
passed false error o e = (refl, e)

-- neither of two rules refused it
pub both_passed : (a b : Option ZoneError) → option_or a b ≡ None → (a ≡ None) × (b ≡ None)
both_passed None b e = (refl, e)
both_passed (Some error) b e = cc

-- its page is in a frame
pub in_a_frame : (o : Option Placement) (other : Option ZoneError) → option_or (placement_refusal o) other ≡ None → (frame : ℕ) × (o ≡ Some (At frame))
in_a_frame (Some (At frame)) other e = (frame, refl)
in_a_frame _ other e = cc

-- the page of its address is in a frame, where it wants room in the journal first
pub at_address : (z : ZoneState) (address : Address) (other : Option ZoneError) → (if not (has_room z) then Some JournalFull else option_or (placement_refusal (placement_at z address)) other) ≡ None → (frame : ℕ) × (placement_at z address ≡ Some (At frame))
at_address z address other accepted = in_a_frame _ other (passed _ _ _ accepted).1

-- a frame is free, where it is a map
pub frame_left : (z : ZoneState) (address : Address) → map_refusal z address ≡ None → IsSome (lowest_free_frame z)
frame_left z address accepted = grind arith

-- a frame is free, where it is a map at a frame
pub frame_left_at : (z : ZoneState) (address : Address) (frame : ℕ) → map_at_refusal z address frame ≡ None → IsSome (lowest_free_frame z)
frame_left_at z address frame accepted =
    let within = passed (not (has_address z address && nat_lt frame (frame_count z))) Range _ accepted in
    let room = passed (not (has_room z)) JournalFull _ within.1 in
    let vacant = passed (is_some (page_at z.records address)) Occupied _ room.1 in
    let free = passed (not (is_free z frame)) NoFrame _ vacant.1 in
    some_lowest z frame (not-false _ free.0) (ltb-true _ _ (and_parts _ _ (not-false _ within.0)).1)
