-- A claim: a run of frames is shut to new pages, is emptied in steps, and is handed out once it is empty. When each call is refused, and
-- what it leaves.
use Rattle.std.specs.Prelude.{ℕ, zero, suc, ◌/◌, ◌^◌, Bool, not, ◌&&◌, min, nat_eq, if◌then◌else◌, Option, Some, None}
use Rattle.frame_core.specs.Below.{count_from, highest, lowest}
use Rattle.state_core.specs.declared.error.ZoneError.{ZoneError}
use Rattle.state_core.specs.declared.error.ZoneError.TheVariants.{Range, NoBlock, JournalFull}
use Rattle.state_core.specs.Claiming.{claimed_at, is_claimed, run_claimed, run_dropped}
use Rattle.state_core.specs.HandingOut.{block_taken, has_block}
use Rattle.state_core.specs.Pairs.{can_move_if_some, holder, is_free_unmarked}
use Rattle.state_core.specs.ZoneState.{ZoneState, frame_count, has_room}
use Rattle.fewest_core.specs.Evacuation.{has_room_for_moves, is_in_run, moved_out}
use Rattle.fewest_core.specs.FewestMoves.{is_open}

-- why the claim of a run is refused, if it is
abbrev pub claim_refusal : ZoneState → ℕ → ℕ → Option ZoneError
claim_refusal z first order =
    if not (has_block z order first) then Some Range
    else if not (is_open z (2 ^ order) (first / 2 ^ order)) then Some NoBlock
    else None

-- whether a frame holds a page that may be taken from it, in whatever pageblock
abbrev pub may_go : ZoneState → ℕ → Bool
may_go z frame = can_move_if_some z (holder z frame)

-- how many pages of a run may go
abbrev pub pages_to_go : ℕ → ℕ → ZoneState → ℕ
pages_to_go first size z = count_from (may_go z) first size

-- the lowest frame of a run whose page may go, if there is one
abbrev pub next_to_go : ℕ → ℕ → ZoneState → Option ℕ
next_to_go first size z = lowest (λ frame. is_in_run first size frame && may_go z frame) (frame_count z)

-- the highest free frame of an unmarked pageblock, if there is one
abbrev pub highest_vacant : ZoneState → Option ℕ
highest_vacant z = highest (is_free_unmarked z) (frame_count z)

-- the zone after the page of a frame went to a target and the frame was claimed, if there are both
abbrev pub gone : ZoneState → Option ℕ → Option ℕ → ZoneState
gone z (Some source) (Some target) = claimed_at (moved_out z (holder z source) source (Some target)) source
gone z _ _ = z

-- the zone after n pages of a run went, or as many as could: each time the lowest one, to the highest free frame of an unmarked pageblock
abbrev pub pages_gone : ℕ → ℕ → ZoneState → ℕ → ZoneState
pages_gone first size z zero = z
pages_gone first size z (suc n) =
    let before = pages_gone first size z n in
    gone before (next_to_go first size before) (highest_vacant before)

-- how many pages a step with at most so many moves, where there are frames for them
abbrev pub step_pages : ℕ → ℕ → ZoneState → ℕ → ℕ
step_pages first size z most = min most (pages_to_go first size z)

-- the zone after such a step: the free frames of the run are claimed, and so are those that the pages leave
abbrev pub stepped : ℕ → ℕ → ZoneState → ℕ → ZoneState
stepped first size z most = pages_gone first size (run_claimed first size z) (step_pages first size z most)

-- why a step is refused, if it is
abbrev pub step_refusal : ZoneState → ℕ → ℕ → ℕ → Option ZoneError
step_refusal z first order most =
    if not (has_block z order first) then Some Range
    else if not (has_room_for_moves z (step_pages first (2 ^ order) z most)) then Some JournalFull
    else None

-- how many frames of a run are claimed
abbrev pub claimed_frames : ℕ → ℕ → ZoneState → ℕ
claimed_frames first size z = count_from (is_claimed z) first size

-- why handing out a claimed run is refused, if it is
abbrev pub take_claimed_refusal : ZoneState → ℕ → ℕ → Option ZoneError
take_claimed_refusal z first order =
    if not (has_block z order first) then Some Range
    else if not (has_room z) then Some JournalFull
    else if not (nat_eq (claimed_frames first (2 ^ order) z) (2 ^ order)) then Some NoBlock
    else None

-- the zone after a claimed run was handed out: its claim was dropped, and the block taken
abbrev pub claimed_taken : ZoneState → ℕ → ℕ → ZoneState
claimed_taken z first order = block_taken (run_dropped first (2 ^ order) z) first order

-- why dropping the claim of a run is refused, if it is
abbrev pub drop_refusal : ZoneState → ℕ → ℕ → Option ZoneError
drop_refusal z first order = if not (has_block z order first) then Some Range else None
