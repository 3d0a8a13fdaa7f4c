-- The machine that makes its rounds by hand.
use Rattle.std.proofs.Common.{◌≡◌, ℕ, ◌*◌, Bool, true, false, refl, ap, Option, Some, None}
use Rattle.std.specs.Prelude.{nat_eq, if◌then◌else◌}
use Rattle.std.specs.List.{list_any}
use Rattle.frame_core.proofs.OnTheWay.{none_out}
use Rattle.state_core.specs.ZoneState.{ZoneState}
use Rattle.zone_core.specs.Alone.{IsAtRest}
use Rattle.zone_core.specs.ByHand.{by_hand}
use Rattle.machine_core.specs.World.{IsOrderly, WorldState, world_closed}
use Rattle.zone_core.specs.Seats.{ScanSeat, EndSeat}
use Rattle.machine_core.proofs.Closing.{carried_closed}
use Rattle.text_core.specs.declared.command.Command.{Command}
use Rattle.text_core.specs.declared.command.Command.TheVariants.{Compact, Pool}
use Rattle.text_core.specs.declared.pool.PoolBlocks.{PoolBlocks}
use Rattle.text_core.specs.declared.reply.Reply.{Reply}
use Rattle.text_core.specs.Pool.{pool_order}
use Rattle.text_core.proofs.Ranges.{HasOrder, IsInRange}
use Rattle.machine_core.specs.Machine.{Answered, Step, answered, declined, refused, says, step}
use Rattle.script_core.specs.MachineByHand.{left_by_hand, pool_by_hand, round_by_hand, step_by_hand, unless_open, work_by_hand}
use Rattle.script_core.proofs.Machines.{GoesOn, IsMachine, by_rounds, is_of_rounds, runs_rounds}
use Rattle.script_core.proofs.RoundsByHand.{Rests, reserved_rests, round_rests}
use Rattle.script_core.proofs.Runs.{refusal_goes_on}

-- a world in which no hand round is open and no page is moving is orderly
pub closed_orderly : (zone : ZoneState) (scan : ScanSeat) (ends : EndSeat) → IsAtRest zone → ends.parts ≡ 64 → IsOrderly (world_closed zone scan ends)
closed_orderly zone scan ends rest whole = (carried_closed zone scan ends rest.valid whole (λ serial. ap (list_any (nat_eq serial)) rest.none_out) (256 * zone.blocks) refl).orderly

-- what a round or a pool leaves
left_goes_on : (w : WorldState) → IsOrderly w → (zone : ZoneState) (r : Reply) → Rests w.zone zone → GoesOn w (answered (says r (left_by_hand w zone)))
left_goes_on w o zone r left = record {
  goes = record {
    after = left_by_hand w zone;
    world = refl;
    keeps = record {
      orderly = closed_orderly zone w.scan w.ends left.rest o.whole;
      blocks = left.leaves.blocks;
    };
  };
  leaves = left.leaves;
}

-- where no hand round is open no page is moving
pub closed_rests : (w : WorldState) → IsOrderly w → w.is_open ≡ false → IsAtRest w.zone
closed_rests w o closed = record { valid = o.valid; none_out = none_out w.zone.records (o.closed closed) }

-- work over the zone with this number
work_by : (P : Step → Type 0) (zone : ℕ) (work : WorldState → Answered) (w : WorldState) → ((number : ℕ) → P (declined number (Some w))) → (w.is_open ≡ false → P (answered (work w))) → P (work_by_hand zone work (Some w))
work_by P zone work w refusal worked = by_number (nat_eq zone w.zone.number) where
  by_open : (b : Bool) → w.is_open ≡ b → P (answered (if b then refused 45 w else work w))
  by_open true e = refusal 45
  by_open false e = worked e

  by_number : (b : Bool) → P (if b then answered (unless_open w (work w)) else declined 43 (Some w))
  by_number true = by_open w.is_open refl
  by_number false = refusal 43

work_goes_on : (zone : ℕ) (work : WorldState → Answered) (w : WorldState) → IsOrderly w → (IsAtRest w.zone → GoesOn w (answered (work w))) → GoesOn w (work_by_hand zone work (Some w))
work_goes_on zone work w o worked = work_by (GoesOn w) zone work w (refusal_goes_on w o) (λ closed. worked (closed_rests w o closed))

pub round_goes_on : (w : WorldState) → IsOrderly w → (zone : ℕ) → GoesOn w (work_by_hand zone round_by_hand (Some w))
round_goes_on w o zone = work_goes_on zone round_by_hand w o (λ rest. left_goes_on w o (by_hand w.zone) (round_by_hand w).reply (round_rests w.zone rest))

pub pool_goes_on : (w : WorldState) → IsOrderly w → (rounds zone count : ℕ) (blocks : PoolBlocks) → HasOrder blocks → GoesOn w (work_by_hand zone (pool_by_hand rounds count blocks) (Some w))
pool_goes_on w o rounds zone count blocks range = work_goes_on zone (pool_by_hand rounds count blocks) w o
    (λ rest. left_goes_on w o _ (pool_by_hand rounds count blocks w).reply (reserved_rests (pool_order blocks) range.0 range.1 rounds count w.zone rest))

work_replies : (zone : ℕ) (work : WorldState → Answered) → ((v : WorldState) → is_of_rounds (work v).reply ≡ true) → (w : Option WorldState) → is_of_rounds (work_by_hand zone work w).reply ≡ true
work_replies zone work replies None = refl
work_replies zone work replies (Some w) = work_by (λ s. is_of_rounds s.reply ≡ true) zone work w (λ number. refl) (λ closed. replies w)

module _ (places : ℕ) where
  other_alike : (w : Option WorldState) (c : Command) → runs_rounds c ≡ false → step_by_hand places w c ≡ step places w c
  other_alike w (Compact zone) h = cc
  other_alike w (Pool zone count blocks) h = cc
  other_alike w _ h = refl

  pub machine_by_hand : IsMachine places (step_by_hand places)
  machine_by_hand = record {
    other = other_alike;
    replies = λ w c h. by_rounds (λ c. is_of_rounds (step_by_hand places w c).reply ≡ true) (λ zone. work_replies zone round_by_hand (λ v. refl) w) (λ zone count blocks. work_replies zone (pool_by_hand 4 count blocks) (λ v. refl) w) c h;
    closed = λ c h. by_rounds (λ c. (step_by_hand places None c).world ≡ None) (λ zone. refl) (λ zone count blocks. refl) c h;
    goes_on = λ w o c r h. by_rounds (λ c. IsInRange c → GoesOn w (step_by_hand places (Some w) c)) (λ zone r. round_goes_on w o zone) (λ zone count blocks r. pool_goes_on w o 4 zone count blocks r) c h r;
  }
