-- Keepers as C has them, and what became of a step.
use Rattle.std.specs.Prelude.{◌≡◌, ℕ, Bool, true, false, ◌&&◌, nat_lt, nat_le, ◌^◌, if◌then◌else◌, List, length, take, Option, Some, None}
use Rattle.std.specs.List.{list_all}
use Rattle.fewest_core.specs.FewestMoves.{costs}
use Rattle.keeper_core.specs.Keeping.{Keeper, IsKept}
use Rattle.keeper_core.specs.declared.keeper.Step.{Step}
use Rattle.keeper_core.specs.declared.keeper.Step.TheVariants.{Emptied, Claimed, Rested}
use Rattle.state_core.specs.ZoneState.{ZoneState}
use Rattle.state_core.specs.declared.error.ZoneError.{ZoneError}
use Rattle.state_core.specs.declared.error.ZoneError.TheVariants.{NoBlock}
use Rattle.compactd_c.specs.Ranges.{is_order}

-- a run has to be open
abbrev pub cheapest_refusal : ZoneState → (order : ℕ) → Option ZoneError
cheapest_refusal z order = if nat_lt 0 (length (costs z (2 ^ order))) then None else Some NoBlock

-- the keeper that claimed the first `count` of these runs: there is a place for each block that it keeps ready
abbrev pub keeper_of : (order : ℕ) → (firsts : List ℕ) → (count : ℕ) → Keeper
keeper_of order firsts count = record { order = order; ready = length firsts; claims = take count firsts }

-- frames may have these numbers
abbrev pub are_frames : List ℕ → Bool
are_frames numbers = list_all (λ number. nat_lt number 16777216) numbers

-- there may be such a keeper
abbrev pub is_keeper : (order : ℕ) → (firsts : List ℕ) → (count : ℕ) → Bool
is_keeper order firsts count = is_order order && nat_le count (length firsts) && are_frames (take count firsts)

-- how many pages a step moved
abbrev pub moved_by : Step → ℕ
moved_by (Emptied first pages) = pages
moved_by (Claimed first pages) = 0
moved_by Rested = 0

-- whether it did anything, so that there may be more to do
abbrev pub has_more : Step → Bool
has_more (Emptied first pages) = true
has_more (Claimed first pages) = true
has_more Rested = false

-- a step of the keeper left this keeper and this zone, moved so many pages, and did anything or not
pub record IsStep (k : Keeper) (z : ZoneState) (most : ℕ) (k_new : Keeper) (z_new : ZoneState) (moved : ℕ) (more : Bool) : Type 0 where
  pub step : Step
  pub kept : IsKept k z most step k_new z_new
  pub pages : moved ≡ moved_by step
  pub goes_on : more ≡ has_more step
