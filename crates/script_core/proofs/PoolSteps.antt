-- A pool on one thread keeps a world orderly, and changes no address and no word. Its reply is that of a pool, or a refusal.
use Rattle.std.proofs.Common.{◌≡◌, ℕ, zero, suc, Bool, true, false, List, [], ◌∷◌, ◌++◌, refl, Option, Some, None}
use Rattle.std.specs.Prelude.{if◌then◌else◌}
use Rattle.state_core.specs.declared.call.ZoneCall.TheVariants.{TakeOrder}
use Rattle.state_core.specs.declared.error.ZoneError.{ZoneError}
use Rattle.state_core.specs.HandingOut.{take_order_refusal, block_taken}
use Rattle.machine_core.specs.World.{IsOrderly, WorldState, with_zone}
use Rattle.text_core.specs.declared.pool.PoolBlocks.{PoolBlocks}
use Rattle.text_core.specs.Pool.{pool_order, told_as}
use Rattle.text_core.proofs.Ranges.{HasOrder}
use Rattle.machine_core.specs.Machine.{Answered, next_first, pool_from, pool_step, refused, unless_stopped}
use Rattle.script_core.proofs.Machines.{is_of_rounds}
use Rattle.script_core.proofs.PagesMoved.{LeavesCells, leaves_all, leaves_then}
use Rattle.script_core.proofs.Steps.{Keeps, keeps_all, keeps_then, keeps_zone}

module _ (blocks : PoolBlocks) where
  abbrev order : ℕ
  order = pool_order blocks

  -- the world after one more block was taken
  abbrev taken : WorldState → WorldState
  taken w = with_zone w (block_taken w.zone (next_first w order) order)

  abbrev more : List ℕ → WorldState → List ℕ
  more got w = got ++ told_as blocks (next_first w order) ∷ []

  -- what holds of an answer that a refusal ends, and of one that goes on, holds of either
  either : (P : Answered → Type 0) (o : Option ZoneError) (got : List ℕ) (w : WorldState) (rest : Answered)
      → ((error : ZoneError) → P (unless_stopped (Some error) blocks got w rest)) → (o ≡ None → P rest) → P (unless_stopped o blocks got w rest)
  either P None got w rest ends goes = goes refl
  either P (Some error) got w rest ends goes = ends error

  -- and so it is where a hand round may be open
  by_open : (P : Answered → Type 0) (b : Bool) (w : WorldState) (count : ℕ) → P (refused 45 w) → P (pool_from blocks [] count w) → P (if b then refused 45 w else pool_from blocks [] count w)
  by_open P true w count refusal pool = refusal
  by_open P false w count refusal pool = pool

  keeps_from : HasOrder blocks → (got : List ℕ) (n : ℕ) (w : WorldState) → IsOrderly w → Keeps w (pool_from blocks got n w).world
  keeps_from range got zero w o = keeps_all w o
  keeps_from range got (suc n) w o =
      either (λ a. Keeps w a.world) (take_order_refusal w.zone order) got w (pool_from blocks (more got w) n (taken w)) (λ error. keeps_all w o)
      (λ accepted. (let next = keeps_zone w (TakeOrder order) o range accepted in keeps_then w (taken w) (pool_from blocks (more got w) n (taken w)).world next (keeps_from range (more got w) n (taken w) next.orderly)))

  pub keeps_pool : HasOrder blocks → (w : WorldState) (count : ℕ) → IsOrderly w → Keeps w (pool_step w count blocks).world
  keeps_pool range w count o = by_open (λ a. Keeps w a.world) w.is_open w count (keeps_all w o) (keeps_from range [] count w o)

  leaves_from : (got : List ℕ) (n : ℕ) (w : WorldState) → LeavesCells w.zone (pool_from blocks got n w).world.zone
  leaves_from got zero w = leaves_all w.zone
  leaves_from got (suc n) w =
      either (λ a. LeavesCells w.zone a.world.zone) (take_order_refusal w.zone order) got w (pool_from blocks (more got w) n (taken w)) (λ error. leaves_all w.zone)
      (λ accepted. leaves_then w.zone (taken w).zone (pool_from blocks (more got w) n (taken w)).world.zone (record { blocks = refl; names = λ a. refl; words = λ page word. refl }) (leaves_from (more got w) n (taken w)))

  pub pool_leaves : (w : WorldState) (count : ℕ) → LeavesCells w.zone (pool_step w count blocks).world.zone
  pool_leaves w count = by_open (λ a. LeavesCells w.zone a.world.zone) w.is_open w count (leaves_all w.zone) (leaves_from [] count w)

  -- the reply is that of a pool, or a refusal
  from_replies : (got : List ℕ) (n : ℕ) (w : WorldState) → is_of_rounds (pool_from blocks got n w).reply ≡ true
  from_replies got zero w = refl
  from_replies got (suc n) w =
      either (λ a. is_of_rounds a.reply ≡ true) (take_order_refusal w.zone order) got w (pool_from blocks (more got w) n (taken w)) (λ error. refl)
      (λ accepted. from_replies (more got w) n (taken w))

  pub pool_replies : (w : WorldState) (count : ℕ) → is_of_rounds (pool_step w count blocks).reply ≡ true
  pool_replies w count = by_open (λ a. is_of_rounds a.reply ≡ true) w.is_open w count refl (from_replies [] count w)
