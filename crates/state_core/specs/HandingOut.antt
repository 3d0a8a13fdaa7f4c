-- The calls that hand out a block of free frames and take it back: when they are refused, and what they leave.
use Rattle.std.specs.Prelude.{ℕ, ◌+◌, ◌*◌, ◌^◌, Bool, false, not, ◌&&◌, nat_eq, nat_le, if◌then◌else◌, Option, Some, None, is_none, replicate}
use Rattle.std.specs.FinMap as map
use Rattle.std.specs.FinSet as set
use Rattle.frame_core.specs.Below.{lowest, count_from}
use Rattle.frame_core.specs.Order.{is_aligned}
use Rattle.frame_core.specs.declared.record.Record.TheVariants.{TakeHuge, GiveHuge}
use Rattle.state_core.specs.declared.error.ZoneError.{ZoneError}
use Rattle.state_core.specs.declared.error.ZoneError.TheVariants.{Range, JournalFull, NoBlock, NotHuge, Lent}
use Rattle.state_core.specs.ZoneState.{ZoneState, frame_count, has_room, is_free, noted}

-- whether a block of this order may begin at a frame, where there are so many: it is aligned, and all of it is there
abbrev pub is_block_start : ℕ → ℕ → ℕ → Bool
is_block_start frames order first = is_aligned order first && nat_le (first + 2 ^ order) frames

-- whether it may in the zone
abbrev pub has_block : ZoneState → ℕ → ℕ → Bool
has_block z order first = is_block_start (frame_count z) order first

-- whether a block of this order may begin at a frame, and all of its frames are free
abbrev pub is_run : ZoneState → ℕ → ℕ → Bool
is_run z order first = has_block z order first && nat_eq (count_from (is_free z) first (2 ^ order)) (2 ^ order)

-- the first frame of the lowest free block of an order, if there is one
abbrev pub lowest_run : ZoneState → ℕ → Option ℕ
lowest_run z order = lowest (is_run z order) (frame_count z)

-- whether an order that may be none is this order
abbrev pub is_order : Option ℕ → ℕ → Bool
is_order None order = false
is_order (Some held) order = nat_eq held order

-- why taking a block of an order is refused, if it is
abbrev pub take_order_refusal : ZoneState → ℕ → Option ZoneError
take_order_refusal z order =
    if not (has_room z) then Some JournalFull
    else if is_none (lowest_run z order) then Some NoBlock
    else None

-- why giving back a block, by its first frame and its order, is refused, if it is
abbrev pub give_order_refusal : ZoneState → ℕ → ℕ → Option ZoneError
give_order_refusal z first order =
    if not (has_block z order first) then Some Range
    else if not (has_room z) then Some JournalFull
    else if not (is_order (map.get z.handed_out first) order) then Some NotHuge
    else if set.contains z.lent first then Some Lent
    else None

-- the zone after the block of this order, from this first frame on, was handed out: each word of a fresh block is 0
abbrev pub block_taken : ZoneState → ℕ → ℕ → ZoneState
block_taken z first order = record (noted z (TakeHuge first order)) {
  handed_out = map.insert z.handed_out first order;
  contents = map.insert z.contents first (replicate (2 ^ order * z.page_size) 0);
}

-- the zone after the block of this order, from this first frame on, was given back
abbrev pub block_given : ZoneState → ℕ → ℕ → ZoneState
block_given z first order = record (noted z (GiveHuge first order)) {
  handed_out = map.remove z.handed_out first;
  contents = map.remove z.contents first;
}
