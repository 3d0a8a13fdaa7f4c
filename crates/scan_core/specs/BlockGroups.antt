-- The pageblocks in groups by their unmovable pages and their free frames.
use Rattle.std.specs.Prelude.{◌≡◌, ℕ, ◌≤◌, Bool, ◌&&◌, List, length, nat_eq, nat_lt, slice_index, if◌then◌else◌}
use Rattle.std.specs.FinSet as set
use Rattle.scan_core.specs.declared.block_groups.BlockGroups.{BlockGroups}

-- whether a pageblock has a free frame for an unmovable page, by its number of such pages and of free frames: it has such a page
abbrev pub takes_unmovable : ℕ → ℕ → Bool
takes_unmovable unmovable free = nat_lt 0 unmovable && nat_lt 0 free

-- whether it has one for another page: it has no unmovable page, and isn't whole
abbrev pub takes_another : ℕ → ℕ → Bool
takes_another unmovable free = nat_eq unmovable 0 && (nat_lt 0 free && nat_lt free 512)

-- there is room for this many pageblocks
pub record HasRoom (groups : BlockGroups) (blocks : ℕ) : Type 0 where
  pub unmovable : length groups.unmovable.items ≡ blocks
  pub with_unmovable : blocks ≤ groups.with_unmovable.bound
  pub without_unmovable : blocks ≤ groups.without_unmovable.bound

-- the groups are those that the numbers of unmovable pages and of free frames make
pub record IsGrouped (groups : BlockGroups) (free : List ℕ) : Type 0 where
  pub room : HasRoom groups (length free)
  pub with_unmovable : (block : ℕ) → set.contains groups.with_unmovable.members block ≡ takes_unmovable (slice_index groups.unmovable.items block) (slice_index free block)
  pub without_unmovable : (block : ℕ) → set.contains groups.without_unmovable.members block ≡ takes_another (slice_index groups.unmovable.items block) (slice_index free block)

-- the groups after a pageblock has this many unmovable pages and free frames
pub record IsRegrouped (before after : BlockGroups) (block unmovable free : ℕ) : Type 0 where
  pub room : (blocks : ℕ) → HasRoom before blocks → HasRoom after blocks
  pub with_unmovable : (n : ℕ) → set.contains after.with_unmovable.members n ≡ (if nat_eq n block then takes_unmovable unmovable free else set.contains before.with_unmovable.members n)
  pub without_unmovable : (n : ℕ) → set.contains after.without_unmovable.members n ≡ (if nat_eq n block then takes_another unmovable free else set.contains before.without_unmovable.members n)
