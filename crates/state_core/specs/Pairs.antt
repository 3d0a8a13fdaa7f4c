-- The page that a round isolates next, and the frame that it goes to. It is defined as a relation, `IsPair`, and after that as
-- a machine searches for it, `next_pair`. `isolate_next` has a clause for each, so its proof shows that they agree.
use Rattle.std.specs.Prelude.{◌≡◌, ℕ, ◌/◌, ◌<◌, ◌≤◌, Bool, true, false, not, ◌&&◌, ◌||◌, length, nat_eq, nat_lt, nat_le, Option, Some, None}
use Rattle.std.specs.FinMap as map
use Rattle.std.specs.FinSet as set
use Rattle.frame_core.specs.Below.{lowest, highest, some_below}
use Rattle.frame_core.specs.History.{pins}
use Rattle.frame_core.specs.Moves.{out}
use Rattle.state_core.specs.declared.round.Pair.{Pair}
use Rattle.state_core.specs.declared.placement.Placement.{Placement}
use Rattle.state_core.specs.declared.placement.Placement.TheVariants.{At, Moving}
use Rattle.state_core.specs.ZoneState.{ZoneState, frame_count, is_free, is_held}

-- whether a frame is in a marked pageblock
abbrev pub is_marked : ZoneState → ℕ → Bool
is_marked z frame = set.contains z.marked (frame / 512)

-- whether a page may be taken from its frame: it has no pin, and wasn't mapped as unmovable
abbrev pub can_move : ZoneState → ℕ → Bool
can_move z page = nat_eq (pins z.records page) 0 && not (set.contains z.unmovable page)

-- a frame that the round may take a page from: with a page that may be taken, in an unmarked pageblock between the fingers
pub record IsSource (z : ZoneState) (page frame : ℕ) : Type 0 where
  pub here : map.get z.placement page ≡ Some (At frame)
  pub movable : can_move z page ≡ true
  pub unmarked : is_marked z frame ≡ false
  pub low : z.migrate ≤ frame
  pub high : frame < z.free

-- a frame that the round may take a page to: free, in an unmarked pageblock above the source and below the free finger
pub record IsTarget (z : ZoneState) (source frame : ℕ) : Type 0 where
  pub free : is_free z frame ≡ true
  pub unmarked : is_marked z frame ≡ false
  pub low : source < frame
  pub high : frame < z.free

-- the lowest source with its page, and the highest target above it
pub record IsPair (z : ZoneState) (page source target : ℕ) : Type 0 where
  pub from : IsSource z page source
  pub lowest : (other frame : ℕ) → IsSource z other frame → source ≤ frame
  pub to : IsTarget z source target
  pub highest : (frame : ℕ) → IsTarget z source frame → frame ≤ target

-- the scanners have met: there is no pair
abbrev pub HaveMet : ZoneState → Type 0
HaveMet z = (page source target : ℕ) → IsPair z page source target → ⊥

-- whether a page with this placement is in a frame, and not moving
abbrev pub stands_in : Option Placement → ℕ → Bool
stands_in None frame = false
stands_in (Some (At f)) frame = nat_eq frame f
stands_in (Some (Moving serial source target)) frame = false

-- the page in a frame, if there is one that isn't moving
abbrev pub holder : ZoneState → ℕ → Option ℕ
holder z frame = lowest (λ page. stands_in (map.get z.placement page) frame) (frame_count z)

-- whether a page that may be none is there and may be taken from its frame
abbrev pub can_move_if_some : ZoneState → Option ℕ → Bool
can_move_if_some z None = false
can_move_if_some z (Some page) = can_move z page

-- whether a frame holds a page that may be taken from it, in an unmarked pageblock
abbrev pub holds_movable : ZoneState → ℕ → Bool
holds_movable z frame = not (is_marked z frame) && can_move_if_some z (holder z frame)

-- whether a frame is free, in an unmarked pageblock
abbrev pub is_free_unmarked : ZoneState → ℕ → Bool
is_free_unmarked z frame = not (is_marked z frame) && is_free z frame

-- the lowest source, if there is one
abbrev pub next_source : ZoneState → Option ℕ
next_source z = lowest (λ frame. nat_le z.migrate frame && holds_movable z frame) z.free

-- the highest target of a source, if there is one
abbrev pub next_target : ZoneState → ℕ → Option ℕ
next_target z source = highest (λ frame. nat_lt source frame && is_free_unmarked z frame) z.free

-- the pair of a source, its page and its target, if it has both
abbrev pub pair_from : ℕ → Option ℕ → Option ℕ → Option Pair
pair_from source (Some page) (Some target) = Some (record { page = page; source = source; target = target })
pair_from source _ _ = None

-- the pair of a source that may be none, if there is one
abbrev pub pair_at : ZoneState → Option ℕ → Option Pair
pair_at z None = None
pair_at z (Some source) = pair_from source (holder z source) (next_target z source)

-- the next pair, as a machine finds it
abbrev pub next_pair : ZoneState → Option Pair
next_pair z = pair_at z (next_source z)

-- whether a page that may be none is there and may not be taken from its frame
abbrev pub stays_if_some : ZoneState → Option ℕ → Bool
stays_if_some z None = false
stays_if_some z (Some page) = not (can_move z page)

-- whether a frame of an unmarked pageblock is held, or holds a page that may not be taken from it
abbrev pub is_stuck : ZoneState → ℕ → Bool
is_stuck z frame = not (is_marked z frame) && (is_held z frame || stays_if_some z (holder z frame))

-- whether a round that begins now is calm: no page is out and no frame is stuck
abbrev pub is_calm : ZoneState → Bool
is_calm z = nat_eq (length (out z.records)) 0 && not (some_below (is_stuck z) (frame_count z))
