-- How the list and the hands of a world stand for its state, and what is true of them.
use Rattle.std.specs.Prelude.{◌≡◌, ℕ, ◌*◌, ◌/◌, ◌≤◌, Bool, List, [], map as each, slice_get, Some}
use Rattle.frame_core.specs.Page.{IsolatedPage}
use Rattle.frame_core.specs.Serials.{serials_of}
use Rattle.machine_core.specs.declared.hands.Held.{Held}
use Rattle.machine_core.specs.declared.hands.Held.TheVariants.{Nothing, Page, Copy}
use Rattle.state_core.specs.Ending.{IsOwnCopy}
use Rattle.zone_core.specs.Seats.{ScanSeat, EndSeat}
use Rattle.machine_core.specs.World.{WorldState, IsOrderly}
use Rattle.state_core.specs.ZoneState.{ZoneState}

-- what a hand holds, as contracts see pages and their copies
abbrev pub InHand : Type 0
InHand = Held IsolatedPage IsolatedPage

-- what contracts see of what a hand holds: the serial in place of the page
abbrev pub hand_as : InHand → Held ℕ ℕ
hand_as Nothing = Nothing
hand_as (Page p) = Page p.serial
hand_as (Copy p) = Copy p.serial

-- each of these pages, or copies of pages, is moving in the zone and has the page's words
abbrev pub AreOwn : ZoneState → List IsolatedPage → Type 0
AreOwn zone list = (i : ℕ) (p : IsolatedPage) → slice_get list i ≡ Some p → IsOwnCopy zone p

-- the state of a world that contracts see, read off its parts
abbrev pub world_of : ZoneState → ScanSeat → EndSeat → Bool → List IsolatedPage → List InHand → WorldState
world_of zone scan ends is_open list held =
    record { zone = zone; scan = scan; ends = ends; is_open = is_open; waiting = serials_of list; hands = each hand_as held }

-- what a world carries is of its zone, and its list has exactly the room for the pages that a round can isolate: half of the 512 frames
-- of each pageblock, since each moving page takes two
pub record IsCarried (zone : ZoneState) (scan : ScanSeat) (ends : EndSeat) (is_open : Bool) (list : List IsolatedPage) (held : List InHand) (capacity : ℕ) : Type 0 where
  pub orderly : IsOrderly (world_of zone scan ends is_open list held)
  pub waiting : AreOwn zone list
  pub pages : (i : ℕ) (p : IsolatedPage) → slice_get held i ≡ Some (Page p) → IsOwnCopy zone p
  pub copies : (i : ℕ) (p : IsolatedPage) → slice_get held i ≡ Some (Copy p) → IsOwnCopy zone p
  pub room : capacity ≡ 256 * zone.blocks

-- an empty list with exactly the room for the pages that a round can isolate in a zone of up to 32768 pageblocks
pub record IsRest (list : List IsolatedPage) (capacity : ℕ) : Type 0 where
  pub none : list ≡ []
  pub room : capacity ≡ 256 * (capacity / 256)
  pub few : capacity / 256 ≤ 32768
