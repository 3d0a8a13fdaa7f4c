-- Each command keeps the world of a run orderly.
use Rattle.std.proofs.Common.{◌≡◌, ℕ, ◌*◌, ◌<◌, ◌≤◌, Bool, true, false, refl, sym, subst, arith, Option, Some, None}
use Rattle.std.specs.Prelude.{nat_eq, if◌then◌else◌}
use Rattle.state_core.specs.Opening.{opened, size_of_blocks}
use Rattle.state_core.proofs.Opened.{opened_valid}
use Rattle.zone_core.specs.Seats.{fresh_end_seat, fresh_scan_seat}
use Rattle.machine_core.specs.World.{IsOrderly, WorldState, world_opened}
use Rattle.machine_core.proofs.Closing.{carried_closed}
use Rattle.text_core.specs.declared.command.Calls.{Calls}
use Rattle.text_core.specs.declared.command.Calls.TheVariants.{Zone, One, Series as SeriesOf}
use Rattle.text_core.specs.declared.command.Command.{Command}
use Rattle.text_core.specs.declared.command.Command.TheVariants.{On, Compact, Pool}
use Rattle.text_core.specs.declared.pool.PoolBlocks.{PoolBlocks}
use Rattle.text_core.proofs.Ranges.{HasOrder, IsInRange}
use Rattle.machine_core.specs.Machine.{Step, answered, calls_step, declined, pool_step, reply_for, step}
use Rattle.script_core.proofs.Machines.{Goes, GoesOn, IsMachine, by_other, by_rounds, is_of_rounds, runs_rounds}
use Rattle.script_core.proofs.PagesMoved.{leaves_all}
use Rattle.script_core.proofs.PoolSteps.{keeps_pool, pool_leaves, pool_replies}
use Rattle.script_core.proofs.Steps.{Keeps, keeps_all, keeps_call, keeps_series, keeps_zone_step}

pub keeps_calls : (w : WorldState) → IsOrderly w → (zone : ℕ) (c : Calls) → IsInRange (On zone c) → Keeps w (calls_step w c).world
keeps_calls w o zone (Zone call) r = keeps_zone_step w o call (reply_for call) r
keeps_calls w o zone (One c) r = keeps_call w o c r
keeps_calls w o zone (SeriesOf s) r = keeps_series s.call s.space s.first s.step 0 s.count w o

-- a command that is neither a round nor a pool
goes_other : (places : ℕ) (w : WorldState) → IsOrderly w → (c : Command) → IsInRange c → runs_rounds c ≡ false → Goes w (step places (Some w) c)
goes_other places w o c r h = by_other places (λ c s. IsInRange c → Goes w s) w
    (λ c number r. record { after = w; world = refl; keeps = keeps_all w o }) (λ r. record { after = w; world = refl; keeps = keeps_all w o })
    (λ zone calls r. record { after = (calls_step w calls).world; world = refl; keeps = keeps_calls w o zone calls r }) c h r

-- any command, in any machine
pub goes_by : (places : ℕ) (steps : Option WorldState → Command → Step) → IsMachine places steps → (w : WorldState) → IsOrderly w → (c : Command) → IsInRange c → Goes w (steps (Some w) c)
goes_by places steps m w o c r = by_kind (runs_rounds c) refl where
  by_kind : (b : Bool) → runs_rounds c ≡ b → Goes w (steps (Some w) c)
  by_kind true e = (m.goes_on w o c r e).goes
  by_kind false e = subst (Goes w) (sym (m.other (Some w) c e)) (goes_other places w o c r e)

-- a refusal leaves an orderly world as it is
pub refusal_goes_on : (w : WorldState) → IsOrderly w → (number : ℕ) → GoesOn w (declined number (Some w))
refusal_goes_on w o number = record { goes = record { after = w; world = refl; keeps = keeps_all w o }; leaves = leaves_all w.zone }

-- The machine on one thread
module _ (places : ℕ) where
  pool_goes_on : (w : WorldState) → IsOrderly w → (zone count : ℕ) (blocks : PoolBlocks) → HasOrder blocks → GoesOn w (step places (Some w) (Pool zone count blocks))
  pool_goes_on w o zone count blocks range = by_number (nat_eq zone w.zone.number) where
    by_number : (b : Bool) → GoesOn w (if b then answered (pool_step w count blocks) else declined 43 (Some w))
    by_number true = record { goes = record { after = (pool_step w count blocks).world; world = refl; keeps = keeps_pool blocks range w count o }; leaves = pool_leaves blocks w count }
    by_number false = refusal_goes_on w o 43

  compact_replies : (w : Option WorldState) (zone : ℕ) → is_of_rounds (step places w (Compact zone)).reply ≡ true
  compact_replies None zone = refl
  compact_replies (Some w) zone = refl

  replies_to_pool : (w : Option WorldState) (zone count : ℕ) (blocks : PoolBlocks) → is_of_rounds (step places w (Pool zone count blocks)).reply ≡ true
  replies_to_pool None zone count blocks = refl
  replies_to_pool (Some w) zone count blocks = by_number (nat_eq zone w.zone.number) where
    by_number : (b : Bool) → is_of_rounds (if b then answered (pool_step w count blocks) else declined 43 (Some w)).reply ≡ true
    by_number true = pool_replies blocks w count
    by_number false = refl

  pub one_thread : IsMachine places (step places)
  one_thread = record {
    other = λ w c h. refl;
    replies = λ w c h. by_rounds (λ c. is_of_rounds (step places w c).reply ≡ true) (compact_replies w) (replies_to_pool w) c h;
    closed = λ c h. by_rounds (λ c. (step places None c).world ≡ None) (λ zone. refl) (λ zone count blocks. refl) c h;
    goes_on = λ w o c r h. by_rounds (λ c. IsInRange c → GoesOn w (step places (Some w) c)) (λ zone r. refusal_goes_on w o _) (λ zone count blocks r. pool_goes_on w o zone count blocks r) c h r;
  }

pub opened_orderly : (zone blocks places : ℕ) → (0 < blocks) × (blocks ≤ 8) → (0 < places) × (places ≤ 65536) → IsOrderly (world_opened zone blocks places)
opened_orderly zone blocks places b p =
    (carried_closed (opened zone blocks places) fresh_scan_seat fresh_end_seat (opened_valid 8 zone (size_of_blocks blocks) places ((b.0, omega (arith, b.1)), omega arith, omega arith, omega arith, omega arith, omega arith) (omega (arith, p.1))) refl (λ serial. refl) (256 * blocks) refl).orderly
