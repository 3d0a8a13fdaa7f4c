-- Pools on one thread.
use Rattle.std.proofs.Common.{◌≡◌, ◌∙◌, ℕ, suc, List, [], ◌∷◌, ◌++◌, sym, ap, Option, Some, None}
use Rattle.std.specs.Prelude.{unwrap_or}
use Rattle.state_core.specs.declared.error.ZoneError.{ZoneError}
use Rattle.state_core.specs.HandingOut.{block_taken, lowest_run, take_order_refusal}
use Rattle.machine_core.specs.World.{WorldState, with_zone}
use Rattle.text_core.specs.declared.pool.PoolBlocks.{PoolBlocks}
use Rattle.text_core.specs.Pool.{pool_order, told_as}
use Rattle.machine_core.specs.Machine.{next_first, pool_from, pooled, says, stopped_by, unless_stopped}

-- a pool gets one more block, where n are left
module _ (blocks : PoolBlocks) (got : List ℕ) (n : ℕ) (w : WorldState) where
  abbrev order : ℕ
  order = pool_order blocks

  pub pool_from-on : (m first : ℕ) (after : WorldState) → n ≡ suc m → take_order_refusal w.zone order ≡ None → lowest_run w.zone order ≡ Some first
      → after ≡ with_zone w (block_taken w.zone first order) → pool_from blocks got n w ≡ pool_from blocks (got ++ told_as blocks first ∷ []) m after
  pool_from-on m first after left accepted lowest is =
      ap (λ (k : ℕ). pool_from blocks got k w) left
      ∙ ap (λ (o : Option ZoneError). unless_stopped o blocks got w (pool_from blocks (got ++ told_as blocks (next_first w order) ∷ []) m (with_zone w (block_taken w.zone (next_first w order) order)))) accepted
      ∙ ap (λ (o : Option ℕ). pool_from blocks (got ++ told_as blocks (unwrap_or o 0) ∷ []) m (with_zone w (block_taken w.zone (unwrap_or o 0) order))) lowest
      ∙ ap (pool_from blocks (got ++ told_as blocks first ∷ []) m) (sym is)

  -- a pool is refused a block
  pub pool_from-ends : (m : ℕ) (error : ZoneError) → n ≡ suc m → take_order_refusal w.zone order ≡ Some error
      → pool_from blocks got n w ≡ says (pooled blocks got (stopped_by error)) w
  pool_from-ends m error left refused =
      ap (λ (k : ℕ). pool_from blocks got k w) left
      ∙ ap (λ (o : Option ZoneError). unless_stopped o blocks got w (pool_from blocks (got ++ told_as blocks (next_first w order) ∷ []) m (with_zone w (block_taken w.zone (next_first w order) order)))) refused
