-- Sets of frames.
use Rattle.std.specs.Prelude.{◌≡◌, ℕ, ◌*◌, ◌^◌, ◌≤◌, Bool, false, ◌&&◌, List, length, refl}
use Rattle.std.specs.Coded.{Coded, code_by, coded×, coded_list, coded_ℕ}
use Rattle.std.specs.FinSet as set
use Rattle.std.specs.Ordering.{nat_cmp}
use Rattle.frame_core.specs.Below.{count_below}
use Rattle.frame_core.specs.Order.{is_aligned}
use Rattle.scan_core.specs.FrameCounts.{CountsEach}
use Rattle.scan_core.specs.NumberSet.{all_from}

-- a set of frames, the bound below which each of them is, and how many unmovable pages each pageblock has
pub record FrameNumbers : Type 0 where
  pub members : set.FinSet nat_cmp
  pub bound : ℕ
  pub unmovable : List ℕ

-- such a set is coded as its fields
abbrev pub coded_frame_numbers : Coded FrameNumbers
coded_frame_numbers =
    code_by (set.FinSet nat_cmp × (ℕ × List ℕ)) (coded× (set.code {R = nat_cmp} coded_ℕ) (coded× coded_ℕ (coded_list coded_ℕ))) (λ s. (s.members, (s.bound, s.unmovable)))
    (λ p. record { members = p.0; bound = p.1.0; unmovable = p.1.1 }) (λ _. refl)

-- whether all frames of a pageblock pass
abbrev pub all_of_block : (ℕ → Bool) → ℕ → Bool
all_of_block p block = all_from p (512 * block) 512

-- whether a block of this order may begin at a frame, and all of its frames pass
abbrev pub is_run_of : (ℕ → Bool) → ℕ → ℕ → Bool
is_run_of p order first = is_aligned order first && all_from p first (2 ^ order)

-- the count of the frames that pass, in all and in each pageblock: no frame past the pageblocks passes
pub record Counts (count : ℕ) (blocks : List ℕ) (p : ℕ → Bool) : Type 0 where
  pub all : count ≡ count_below p (512 * length blocks)
  pub each : CountsEach blocks p
  pub none : (frame : ℕ) → 512 * length blocks ≤ frame → p frame ≡ false
