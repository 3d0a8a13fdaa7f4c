-- The machine of a script that makes its rounds by hand: its replies are a function of the script.
use Rattle.std.specs.Prelude.{ℕ, ◌-◌, nat_eq, if◌then◌else◌, List, [], ◌∷◌, map, Option, Some, None}
use Rattle.frame_core.specs.Moves.{isolated}
use Rattle.zone_core.specs.ByHand.{by_hand}
use Rattle.round_core.specs.Errors.{number_of}
use Rattle.round_core.specs.Rounds.{stop_by_hand}
use Rattle.round_core.specs.declared.round.Stop.{Stop}
use Rattle.round_core.specs.declared.round.Stop.TheVariants as stop
use Rattle.huge_core.specs.ByHand.{Reservation, reserved_by_hand}
use Rattle.huge_core.specs.declared.report.Stop.{Stop as PoolStop}
use Rattle.huge_core.specs.declared.report.Stop.TheVariants as pool_stop
use Rattle.state_core.specs.ZoneState.{ZoneState}
use Rattle.text_core.specs.declared.command.Command.{Command}
use Rattle.text_core.specs.declared.command.Command.TheVariants.{Compact, Pool}
use Rattle.text_core.specs.declared.pool.PoolBlocks.{PoolBlocks}
use Rattle.text_core.specs.declared.pool.PoolStopped.{PoolStopped}
use Rattle.text_core.specs.declared.pool.PoolStopped.TheVariants as pool_stopped
use Rattle.text_core.specs.Pool.{pool_order, told_as}
use Rattle.text_core.specs.declared.reply.Reply.{Reply}
use Rattle.text_core.specs.declared.reply.Reply.TheVariants as reply
use Rattle.text_core.specs.declared.reply.Stopped.{Stopped}
use Rattle.text_core.specs.declared.reply.Stopped.TheVariants as stopped
use Rattle.machine_core.specs.World.{WorldState, world_closed}
use Rattle.machine_core.specs.Machine.{Answered, Step, answered, declined, refused, says, step}
use Rattle.text_core.specs.Script.{Answer, Numbered, commands_of}

-- why a round without a limit stopped, for its reply
abbrev pub stopped_as : Stop → Stopped
stopped_as stop.JournalFull = stopped.JournalFull
stopped_as _ = stopped.Met

-- why a pool stopped, for its reply
abbrev pub pool_stopped_as : PoolStop → PoolStopped
pool_stopped_as pool_stop.Enough = pool_stopped.Enough
pool_stopped_as pool_stop.NoBlock = pool_stopped.NoBlock
pool_stopped_as pool_stop.Rounds = pool_stopped.Rounds
pool_stopped_as pool_stop.JournalFull = pool_stopped.JournalFull
pool_stopped_as (pool_stop.Refused error) = pool_stopped.Refused (number_of error)

-- how many pages a round by hand isolates
abbrev pub count_by_hand : ZoneState → ℕ
count_by_hand z = isolated (by_hand z).records - isolated z.records

-- the world after a round or a pool left its zone so: the seats, of which no reply tells, are as before
abbrev pub left_by_hand : WorldState → ZoneState → WorldState
left_by_hand w zone = world_closed zone w.scan w.ends

-- the answer to a round by hand: each page that it isolated is moved
abbrev pub round_by_hand : WorldState → Answered
round_by_hand w =
    says (reply.Round (count_by_hand w.zone) (count_by_hand w.zone) 0 (stopped_as (stop_by_hand w.zone))) (left_by_hand w (by_hand w.zone))

-- the reply to a pool by hand
abbrev pub reservation_reply : PoolBlocks → Reservation → Reply
reservation_reply blocks r = reply.Pool blocks (record { items = map (told_as blocks) r.frames }) r.rounds (pool_stopped_as r.stop)

-- the answer to a pool of `count` blocks by hand, which may run this many rounds
abbrev pub pool_by_hand : (rounds count : ℕ) → PoolBlocks → WorldState → Answered
pool_by_hand rounds count blocks w = let r = reserved_by_hand (pool_order blocks) rounds count w.zone in
    says (reservation_reply blocks r) (left_by_hand w r.zone)

-- the answer of the open zone where no hand round is open, and refusal 45 where one is
abbrev pub unless_open : WorldState → Answered → Answered
unless_open w closed = if w.is_open then refused 45 w else closed

-- the step of work over the zone with this number, which is refused 43 where this isn't the open one
abbrev pub work_by_hand : ℕ → (WorldState → Answered) → Option WorldState → Step
work_by_hand zone work None = declined 43 None
work_by_hand zone work (Some w) = if nat_eq zone w.zone.number then answered (unless_open w (work w)) else declined 43 (Some w)

-- the step of any command: a pool may run four rounds, and all but rounds and pools is as on one thread
abbrev pub step_by_hand : ℕ → Option WorldState → Command → Step
step_by_hand places world (Compact zone) = work_by_hand zone round_by_hand world
step_by_hand places world (Pool zone count blocks) = work_by_hand zone (pool_by_hand 4 count blocks) world
step_by_hand places world command = step places world command

-- the machine's replies to commands, where it has this world before the first of them
abbrev pub answers_by_hand_from : ℕ → Option WorldState → List Numbered → List Answer
answers_by_hand_from places w [] = []
answers_by_hand_from places w (c ∷ commands) = let s = step_by_hand places w c.command in
    record { line = c.line; reply = s.reply } ∷ answers_by_hand_from places s.world commands

-- the machine's replies to an input, where a zone that it opens has this many places in its journal
abbrev pub answers_by_hand : ℕ → List ℕ → List Answer
answers_by_hand places input = answers_by_hand_from places None (commands_of input)
