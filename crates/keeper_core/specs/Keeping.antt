-- Blocks that are kept ready: with which run a keeper goes on, what a step does, and which block is taken.
use Rattle.std.specs.Prelude.{◌≡◌, ℕ, zero, suc, ◌+◌, ◌/◌, ◌^◌, ◌<◌, ◌≤◌, Bool, not, ◌&&◌, ◌++◌, ◌∷◌, [], List, length, nat_eq, if◌then◌else◌, Option, Some, None, slice_index}
use Rattle.std.specs.FinMap as map
use Rattle.std.specs.List.{find, before_first, after_first}
use Rattle.frame_core.specs.Moves.{moved}
use Rattle.fewest_core.specs.Claims.{claimed_frames, claimed_taken, step_refusal, stepped}
use Rattle.fewest_core.specs.Evacuation.{IsCarriedOut}
use Rattle.fewest_core.specs.FewestMoves.{cost, costs, least}
use Rattle.fewest_core.specs.Reservation.{reserve_refusal, reserved, ArePicked}
use Rattle.keeper_core.specs.declared.keeper.Step.{Step}
use Rattle.keeper_core.specs.declared.keeper.Step.TheVariants.{Emptied, Claimed, Rested}
use Rattle.keeper_core.specs.declared.keeper.Taken.{Taken}
use Rattle.state_core.specs.Claiming.{run_claimed, run_dropped}
use Rattle.state_core.specs.HandingOut.{has_block}
use Rattle.state_core.specs.ZoneState.{ZoneState, has_room}
use Rattle.state_core.specs.declared.error.ZoneError.{ZoneError}
use Rattle.state_core.specs.declared.error.ZoneError.TheVariants.{JournalFull}
use Rattle.zone_core.specs.Stepping.{is_unfinished}

pub record Keeper : Type 0 where
  -- the order of its blocks
  pub order : ℕ
  -- how many it keeps ready
  pub ready : ℕ
  -- the first frames of the runs that it claimed, the first claimed first
  pub claims : List ℕ

-- the first of its claims that isn't finished, if there is one
abbrev pub next_unfinished : Keeper → ZoneState → Option ℕ
next_unfinished k z = find (λ first. is_unfinished z first k.order) k.claims

-- whether a run is ready: all of its frames are claimed
abbrev pub is_ready : ZoneState → (order first : ℕ) → Bool
is_ready z order first = has_block z order first && nat_eq (claimed_frames first (2 ^ order) z) (2 ^ order)

-- the first of its claims that is ready, if there is one
abbrev pub next_ready : Keeper → ZoneState → Option ℕ
next_ready k z = find (is_ready z k.order) k.claims

-- why a step is refused, if it is: as the step of an evacuation is, where it makes one
abbrev pub refusal_of_step : Option ℕ → ZoneState → (order most : ℕ) → Option ZoneError
refusal_of_step None z order most = None
refusal_of_step (Some first) z order most = step_refusal z first order most

abbrev pub keep_refusal : Keeper → ZoneState → ℕ → Option ZoneError
keep_refusal k z most = refusal_of_step (next_unfinished k z) z k.order most

-- a step went on with the first claim that wasn't finished
pub record IsEmptied (k : Keeper) (z : ZoneState) (most first pages : ℕ) (k_new : Keeper) (z_new : ZoneState) : Type 0 where
  pub next : next_unfinished k z ≡ Some first
  pub keeper : k_new ≡ k
  pub zone : z_new ≡ stepped first (2 ^ k.order) z most
  pub moved : moved z_new.records ≡ moved z.records + pages
  pub at_most : pages ≤ most
  -- the pages are as they were, but for the frames of those that went
  pub carried : IsCarriedOut first (2 ^ k.order) z z_new

-- all claims were finished, and the cheapest open run was claimed
pub record IsClaimed (k : Keeper) (z : ZoneState) (first pages : ℕ) (k_new : Keeper) (z_new : ZoneState) : Type 0 where
  pub finished : next_unfinished k z ≡ None
  pub lacks : length k.claims < k.ready
  pub picked : ArePicked z k.order (first ∷ [])
  pub cost : pages ≡ cost z (2 ^ k.order) (first / 2 ^ k.order)
  pub keeper : k_new ≡ record k { claims = k.claims ++ first ∷ [] }
  pub zone : z_new ≡ run_claimed first (2 ^ k.order) z

-- all claims were finished, and there were enough of them, or no run was open
pub record IsRested (k : Keeper) (z : ZoneState) (k_new : Keeper) (z_new : ZoneState) : Type 0 where
  pub finished : next_unfinished k z ≡ None
  pub enough : length k.claims < k.ready → costs z (2 ^ k.order) ≡ []
  pub keeper : k_new ≡ k
  pub zone : z_new ≡ z

-- what a step came to
abbrev pub IsKept : Keeper → ZoneState → (most : ℕ) → Step → Keeper → ZoneState → Type 0
IsKept k z most (Emptied first pages) k_new z_new = IsEmptied k z most first pages k_new z_new
IsKept k z most (Claimed first pages) k_new z_new = IsClaimed k z first pages k_new z_new
IsKept k z most Rested k_new z_new = IsRested k z k_new z_new

-- why no block is handed out, if none is: the journal is full, or none is ready and none can be reserved
abbrev pub refusal_of_take : Option ℕ → ZoneState → ℕ → Option ZoneError
refusal_of_take None z order = reserve_refusal z 1 order
refusal_of_take (Some first) z order = if not (has_room z) then Some JournalFull else None

abbrev pub take_refusal : Keeper → ZoneState → Option ZoneError
take_refusal k z = refusal_of_take (next_ready k z) z k.order

-- a keeper without the first of its claims that is ready
abbrev pub without_ready : Keeper → ZoneState → Keeper
without_ready k z = record k { claims = before_first (is_ready z k.order) k.claims ++ after_first (is_ready z k.order) k.claims }

-- what the keeper and the zone come to where a block is ready, and where none is: then the cheapest open run is emptied
abbrev pub IsTakenFrom : Option ℕ → Keeper → ZoneState → Taken → Keeper → ZoneState → Type 0
IsTakenFrom (Some first) k z taken k_new z_new = (taken.first ≡ first) × (taken.pages ≡ 0) × (k_new ≡ without_ready k z) × (z_new ≡ claimed_taken z first k.order)
IsTakenFrom None k z taken k_new z_new =
    ArePicked z k.order (taken.first ∷ []) × (taken.pages ≡ least 1 z (2 ^ k.order)) × (k_new ≡ k) × (z_new ≡ reserved z k.order (taken.first ∷ []))

-- a block was handed out
pub record IsTaken (k : Keeper) (z : ZoneState) (taken : Taken) (k_new : Keeper) (z_new : ZoneState) : Type 0 where
  pub from : IsTakenFrom (next_ready k z) k z taken k_new z_new
  pub handed_out : map.get z_new.handed_out taken.first ≡ Some k.order

-- the zone after the first n of these claims were dropped, where it has such blocks
abbrev pub claims_dropped : (order : ℕ) → List ℕ → ZoneState → ℕ → ZoneState
claims_dropped order claims z zero = z
claims_dropped order claims z (suc n) =
    let before = claims_dropped order claims z n in
    let first = slice_index claims n in
    if has_block before order first then run_dropped first (2 ^ order) before else before
