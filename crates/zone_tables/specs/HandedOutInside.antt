-- What is true of the fields of the list of blocks that are handed out.
use Rattle.std.specs.Prelude.{◌≡◌, ◌≤◌, length, is_some}
use Rattle.frame_core.specs.Below.{count_below}
use Rattle.zone_tables.specs.HandedOut.{order_of}
use Rattle.zone_tables.specs.declared.handed_out.HandedOut.TheInside.{Inside}

-- the count is that of the blocks
pub record IsCounted (z : Inside) : Type 0 where
  pub few : length z.orders.items ≤ 16777216
  pub blocks : z.blocks ≡ count_below (λ first. is_some (order_of z.orders.items first)) (length z.orders.items)
