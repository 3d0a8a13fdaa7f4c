-- What is true of the fields of the notes of a zone.
use Rattle.std.specs.Prelude.{◌≡◌, ℕ, ◌≤◌, ◌&&◌, length, nat_lt, is_none}
use Rattle.std.specs.FinSet as set
use Rattle.frame_core.specs.Below.{count_below}
use Rattle.zone_tables.specs.Notes.{placement_of, is_in_use}
use Rattle.zone_tables.specs.declared.notes.Notes.TheInside.{Inside}

-- the numbers in use are counted, and the set has room for all and has the others
pub record IsCounted (z : Inside) : Type 0 where
  pub few : length z.notes.items ≤ 16777216
  pub in_use : z.in_use ≡ count_below (is_in_use z.notes.items) (length z.notes.items)
  pub room : length z.notes.items ≤ z.unused.bound
  pub unused : (page : ℕ) → set.contains z.unused.members page ≡ (nat_lt page (length z.notes.items) && is_none (placement_of z.notes.items page))
