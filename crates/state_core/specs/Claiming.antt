-- The calls that claim free frames, so that no page comes there, and that drop these claims: what they leave.
use Rattle.std.specs.Prelude.{ℕ, zero, suc, ◌+◌, Bool, if◌then◌else◌, None}
use Rattle.std.specs.FinSet as set
use Rattle.std.specs.Ordering.{nat_cmp}
use Rattle.state_core.specs.ZoneState.{ZoneState, is_free}

-- whether a frame is claimed
abbrev pub is_claimed : ZoneState → ℕ → Bool
is_claimed z frame = set.contains z.claimed frame

-- the zone after a free frame was claimed: the latest round is forgotten, so that it isn't quiet any more
abbrev pub claimed_at : ZoneState → ℕ → ZoneState
claimed_at z frame = record z { claimed = set.insert z.claimed frame; round = None }

-- the zone after the claim of a frame was dropped: the frame is free, and the latest round is forgotten
abbrev pub dropped_at : ZoneState → ℕ → ZoneState
dropped_at z frame = record z { claimed = set.remove z.claimed frame; round = None }

-- a set with those of the n numbers from one on that pass
abbrev pub with_run : (ℕ → Bool) → set.FinSet nat_cmp → (first n : ℕ) → set.FinSet nat_cmp
with_run p numbers first zero = numbers
with_run p numbers first (suc n) = if p (first + n) then set.insert (with_run p numbers first n) (first + n) else with_run p numbers first n

-- a set without the n numbers from one on
abbrev pub without_run : set.FinSet nat_cmp → (first n : ℕ) → set.FinSet nat_cmp
without_run numbers first zero = numbers
without_run numbers first (suc n) = set.remove (without_run numbers first n) (first + n)

-- the zone after the free frames of a run were claimed
abbrev pub run_claimed : (first size : ℕ) → ZoneState → ZoneState
run_claimed first size z = record z { claimed = with_run (is_free z) z.claimed first size; round = None }

-- the zone after the claims of the frames of a run were dropped
abbrev pub run_dropped : (first size : ℕ) → ZoneState → ZoneState
run_dropped first size z = record z { claimed = without_run z.claimed first size; round = None }

-- the zone with unmovable pages mapped apart from the others from now on, or not
abbrev pub with_apart : ZoneState → Bool → ZoneState
with_apart z apart = record z { apart = apart }
