-- The numbers that a pool of any size is opened with, and what an opening leaves.
use Rattle.std.specs.Prelude.{◌≡◌, ℕ, nat_eq, if◌then◌else◌, Option, Some, None}
use Rattle.state_core.specs.ZoneState.{ZoneState}
use Rattle.state_core.specs.declared.size.ZoneSize.{ZoneSize}

-- the size with these counts
abbrev pub size_with : ℕ → ℕ → ℕ → ZoneSize
size_with blocks spaces vpages = record { blocks = blocks; spaces = spaces; vpages = vpages }

-- the places of a journal that is kept, or none where there are 0
abbrev pub some_places : ℕ → Option ℕ
some_places places = if nat_eq places 0 then None else Some places

-- an opening of a pool: it is refused where the pool is open, where its numbers aren't allowed, or for lack of memory, and changes nothing then
pub record IsOpening (Allowed : Type 0) (Opened : Option ZoneState → Type 0) (old new : Option ZoneState) (number : ℕ) : Type 0 where
  pub already : ¬ (old ≡ None) → number ≡ 52
  pub range : old ≡ None → ¬ Allowed → number ≡ 1
  pub memory : old ≡ None → Allowed → ¬ (number ≡ 0) → number ≡ 14
  pub zone : number ≡ 0 → Opened new
  pub kept : ¬ (number ≡ 0) → new ≡ old
