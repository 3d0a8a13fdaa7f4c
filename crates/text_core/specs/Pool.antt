-- The blocks that a pool reserves: their order, and the numbers that name them.
use Rattle.std.specs.Prelude.{ℕ, ◌/◌}
use Rattle.text_core.specs.declared.pool.PoolBlocks.{PoolBlocks}
use Rattle.text_core.specs.declared.pool.PoolBlocks.TheVariants.{Pageblocks, OfOrder}

-- the order of the blocks that a pool reserves
abbrev pub pool_order : PoolBlocks → ℕ
pool_order Pageblocks = 9
pool_order (OfOrder order) = order

-- the number that names the block with this first frame: that of its pageblock, or the first frame itself
abbrev pub told_as : PoolBlocks → ℕ → ℕ
told_as Pageblocks first = first / 512
told_as (OfOrder order) first = first
