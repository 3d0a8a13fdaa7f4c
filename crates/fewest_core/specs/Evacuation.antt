-- An evacuation: the pages of a run of frames go out of it, each to a free frame outside. When it is refused, and what it leaves.
use Rattle.std.specs.Prelude.{◌≡◌, ◌≢◌, ℕ, zero, suc, ◌+◌, ◌*◌, ◌/◌, ◌^◌, Bool, true, not, ◌&&◌, length, nat_le, nat_lt, if◌then◌else◌, Option, Some, None}
use Rattle.std.specs.FinMap as map
use Rattle.frame_core.specs.declared.place.Address.{Address}
use Rattle.frame_core.specs.Below.{count_below, highest}
use Rattle.frame_core.specs.History.{page_at}
use Rattle.frame_core.specs.Moves.{out}
use Rattle.state_core.specs.declared.error.ZoneError.{ZoneError}
use Rattle.state_core.specs.declared.error.ZoneError.TheVariants.{Range, NoBlock, JournalFull}
use Rattle.state_core.specs.declared.placement.Placement.TheVariants.{At}
use Rattle.state_core.specs.Carrying.{flags_of, words_now}
use Rattle.state_core.specs.HandingOut.{has_block}
use Rattle.state_core.specs.Pairs.{holder, is_free_unmarked}
use Rattle.state_core.specs.ZoneState.{ZoneState, frame_count}
use Rattle.fewest_core.specs.FewestMoves.{Move, after_move, cost, is_open}

-- whether a frame is in the run of so many frames from a first one on
abbrev pub is_in_run : ℕ → ℕ → ℕ → Bool
is_in_run first size frame = nat_le first frame && nat_lt frame (first + size)

-- whether a frame may take a page of the frames that pass: it is none of them, and free, in an unmarked pageblock
abbrev pub is_beside : (ℕ → Bool) → ZoneState → ℕ → Bool
is_beside is_in z frame = not (is_in frame) && is_free_unmarked z frame

-- whether a frame may take a page of a run
abbrev pub is_spare : ℕ → ℕ → ZoneState → ℕ → Bool
is_spare first size = is_beside (is_in_run first size)

-- how many frames may take a page of a run
abbrev pub spare_frames : ℕ → ℕ → ZoneState → ℕ
spare_frames first size z = count_below (is_spare first size z) (frame_count z)

-- the highest frame that may take a page of a run, if there is one
abbrev pub highest_spare : ℕ → ℕ → ZoneState → Option ℕ
highest_spare first size z = highest (is_spare first size z) (frame_count z)

-- whether the journal has places for so many isolations and their ends, besides those for the ends of the pages that are out
abbrev pub has_room_for_moves : ZoneState → ℕ → Bool
has_room_for_moves z count = nat_le (length (out z.records) + 2 * count) z.room

-- whether the pages of a run can go out of it: the run is open, and there are as many spare frames as it has pages
abbrev pub can_empty : ZoneState → ℕ → ℕ → Bool
can_empty z first size = is_open z size (first / size) && nat_le (cost z size (first / size)) (spare_frames first size z)

-- why the evacuation of a run is refused, if it is
abbrev pub evacuate_refusal : ZoneState → ℕ → ℕ → Option ZoneError
evacuate_refusal z first order =
    if not (has_block z order first) then Some Range
    else if not (can_empty z first (2 ^ order)) then Some NoBlock
    else if not (has_room_for_moves z (cost z (2 ^ order) (first / 2 ^ order))) then Some JournalFull
    else None

-- the zone after a move that no round makes: the latest round is forgotten, so that it isn't quiet any more, since frames change on both
-- sides of its fingers
abbrev pub moved_away : ZoneState → Move → ZoneState
moved_away z m = record (after_move z m) { round = None }

-- the zone after the page of a frame, if it holds one, was moved to a target, if there is one
abbrev pub moved_out : ZoneState → Option ℕ → ℕ → Option ℕ → ZoneState
moved_out z (Some page) source (Some target) = moved_away z (record { page = page; source = source; target = target })
moved_out z _ source _ = z

-- the zone after the first n frames of a run were emptied, the lowest first: the page of each went to the highest spare frame
abbrev pub emptied : ℕ → ℕ → ZoneState → ℕ → ZoneState
emptied first size z zero = z
emptied first size z (suc n) =
    let before = emptied first size z n in
    moved_out before (holder before (first + n)) (first + n) (highest_spare first size before)

-- the zone after a run was evacuated
abbrev pub evacuated : ZoneState → ℕ → ℕ → ZoneState
evacuated z first size = emptied first size z size

-- the pages have the flags and words that they had, at each address that names them, and those that weren't in a frame that passes
-- are where they were
pub record IsCarriedFrom (is_in : ℕ → Bool) (old new : ZoneState) : Type 0 where
  pub flags : (page : ℕ) → flags_of new page ≡ flags_of old page
  pub words : (page : ℕ) → words_now new page ≡ words_now old page
  pub names : (address : Address) → page_at new.records address ≡ page_at old.records address
  pub others : (page : ℕ) → ((frame : ℕ) → is_in frame ≡ true → map.get old.placement page ≢ Some (At frame)) → map.get new.placement page ≡ map.get old.placement page

-- the same of the pages of a run
abbrev pub IsCarriedOut : ℕ → ℕ → ZoneState → ZoneState → Type 0
IsCarriedOut first size = IsCarriedFrom (is_in_run first size)
