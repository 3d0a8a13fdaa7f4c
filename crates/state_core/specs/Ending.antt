-- The calls that end the move of a page: which pages they take, how the move ends, and what they leave.
use Rattle.std.specs.Prelude.{◌≡◌, ◌≢◌, ℕ, ◌<◌, Bool, true, not, ◌&&◌, nat_eq, if◌then◌else◌, Option, Some, ⊤}
use Rattle.std.specs.FinMap as map
use Rattle.std.specs.FinSet as set
use Rattle.frame_core.specs.declared.place.Address.{Address}
use Rattle.frame_core.specs.declared.record.Cause.{Cause}
use Rattle.frame_core.specs.declared.record.Cause.TheVariants.{Pinned, NotCopied}
use Rattle.frame_core.specs.declared.record.Record.TheVariants.{Moved as WasMoved, Back as WasPutBack}
use Rattle.frame_core.specs.History.{page_at, pins}
use Rattle.frame_core.specs.Page.{IsolatedPage}
use Rattle.state_core.specs.declared.moves.Ended.{Ended}
use Rattle.state_core.specs.declared.moves.Ended.TheVariants as ended
use Rattle.state_core.specs.declared.placement.Placement.{Placement}
use Rattle.state_core.specs.declared.placement.Placement.TheVariants.{At, Moving}
use Rattle.state_core.specs.Valid.{is_under}
use Rattle.state_core.specs.ZoneState.{ZoneState, is_free}
use Rattle.state_core.specs.Carrying.{flags_of, words_now, relocated}

-- whether a page is of this zone and is moving there under its serial, and its words aren't lent: a move whose words are lent ends when
-- they come back
abbrev pub is_own : ZoneState → IsolatedPage → Bool
is_own z p = nat_eq p.page.zone z.number && is_under (map.get z.placement p.page.number) p.serial && not (set.contains z.lent_pages p.page.number)

-- a copy is of a page that is moving in this zone under its serial, and has the page's words
pub record IsOwnCopy (z : ZoneState) (copy : IsolatedPage) : Type 0 where
  pub own : is_own z copy ≡ true
  pub same : copy.page.words ≡ words_now z copy.page.number

-- the frame that a moving page left, and 0 of any other page
abbrev pub source_of : Option Placement → ℕ
source_of (Some (Moving serial source target)) = source
source_of _ = 0

-- the frame that a moving page goes to, and 0 of any other page
abbrev pub target_of : Option Placement → ℕ
target_of (Some (Moving serial source target)) = target
target_of _ = 0

-- how the commit of a page ends: it is moved where it has no pin, and else put back
abbrev pub ended_as : ZoneState → ℕ → Ended
ended_as z page = if nat_eq (pins z.records page) 0 then ended.Moved else ended.Back

-- the zone after a page was moved: it is in its new frame
abbrev pub moved_to_target : ZoneState → ℕ → ℕ → ZoneState
moved_to_target z serial page = relocated z (WasMoved serial) page (At (target_of (map.get z.placement page)))

-- the zone after a page was put back: it is in its old frame again
abbrev pub put_back_to_source : ZoneState → ℕ → ℕ → Cause → ZoneState
put_back_to_source z serial page cause = relocated z (WasPutBack cause serial) page (At (source_of (map.get z.placement page)))

-- the zone after a commit: a page with no pin is moved, and one with a pin is put back
abbrev pub committed : ZoneState → ℕ → ℕ → ZoneState
committed z serial page =
    if nat_eq (pins z.records page) 0 then moved_to_target z serial page else put_back_to_source z serial page Pinned

-- a page that was moving is in one of its two frames, with its flags and words, at each address that names it; its other
-- frame is free, and nothing else moved: `kept` is the frame that it is in, and `left` the other one
pub record IsSettled (old new : ZoneState) (page kept left : ℕ) : Type 0 where
  pub here : map.get new.placement page ≡ Some (At kept)
  pub freed : is_free new left ≡ true
  pub flags : flags_of new page ≡ flags_of old page
  pub words : words_now new page ≡ words_now old page
  pub others : (other : ℕ) → other ≢ page → map.get new.placement other ≡ map.get old.placement other
  pub names : (address : Address) → page_at new.records address ≡ page_at old.records address

-- a move ended: the page is in the one of its two frames that `kept` chooses, and the one that `left` chooses is free
pub record IsEnded (old new : ZoneState) (page serial : ℕ) (kept left : ℕ → ℕ → ℕ) : Type 0 where
  pub source : ℕ
  pub target : ℕ
  pub way : map.get old.placement page ≡ Some (Moving serial source target)
  pub settled : IsSettled old new page (kept source target) (left source target)

-- the move of this page ended as the answer says: Moved in the target, Back in the source
abbrev pub Ends : ZoneState → ZoneState → IsolatedPage → Ended → Type 0
Ends old new p ended.Moved = IsEnded old new p.page.number p.serial (λ source target. target) (λ source target. source)
Ends old new p ended.Back = IsEnded old new p.page.number p.serial (λ source target. source) (λ source target. target)

-- how many pins a page has to have so that it may be put back for this cause
abbrev pub HasCause : Cause → ℕ → Type 0
HasCause Pinned pins = 0 < pins
HasCause NotCopied pins = ⊤
