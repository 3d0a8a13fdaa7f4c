-- Free runs of frames, counted by order as Linux counts them in /proc/buddyinfo, and its fragmentation index.
use Rattle.std.specs.Prelude.{ℕ, ◌+◌, ◌*◌, ◌/◌, ◌^◌, Bool, not, ◌&&◌, nat_eq, nat_lt, if◌then◌else◌, ℤ, pos, negsuc, ◌-ℤ◌}
use Rattle.frame_core.specs.Below.{count_below, some_below, sum_below}
use Rattle.state_core.specs.HandingOut.{is_run}
use Rattle.state_core.specs.ZoneState.{ZoneState, frame_count, is_free}

-- whether a frame lies in a free run of this order, where runs have an order of 9 at most
abbrev pub is_in_run : ZoneState → ℕ → ℕ → Bool
is_in_run z order frame = nat_lt order 10 && is_run z order (frame / 2 ^ order * 2 ^ order)

-- whether a free run of this order begins at a frame, and lies in no larger one
abbrev pub is_maximal_run : ZoneState → ℕ → ℕ → Bool
is_maximal_run z order first = is_run z order first && not (is_in_run z (order + 1) first)

-- how many free runs of an order lie in no larger one
abbrev pub maximal_runs : ZoneState → ℕ → ℕ
maximal_runs z order = count_below (is_maximal_run z order) (frame_count z)

-- how many there are of all orders
abbrev pub all_runs : ZoneState → ℕ
all_runs z = sum_below (maximal_runs z) 10

-- how many frames are free
abbrev pub free_frames : ZoneState → ℕ
free_frames z = count_below (is_free z) (frame_count z)

-- Linux's fragmentation index of an order, in thousandths: -1000 where a run of the order is free, 0 where no frame is, and else near 0 where
-- memory is lacking and near 1000 where it is fragmented
abbrev pub fragmentation : ZoneState → ℕ → ℤ
fragmentation z order =
    if nat_eq (all_runs z) 0 then pos 0
    else if some_below (is_run z order) (frame_count z) then negsuc 999
    else pos 1000 -ℤ pos ((1000 + 1000 * free_frames z / 2 ^ order) / all_runs z)
