-- The machine of a script on one thread: it has no zone yet, or one in a world.
use Rattle.std.specs.Prelude.{ℕ, zero, suc, ◌+◌, ◌*◌, ◌/◌, Bool, true, false, nat_eq, if◌then◌else◌, List, [], ◌∷◌, ◌++◌, Option, Some, None, unwrap_or}
use Rattle.frame_core.specs.declared.place.Address.{Address}
use Rattle.state_core.specs.declared.call.ZoneAnswer.{ZoneAnswer}
use Rattle.state_core.specs.declared.call.ZoneAnswer.TheVariants as zone_answer
use Rattle.state_core.specs.declared.call.ZoneCall.{ZoneCall}
use Rattle.state_core.specs.declared.call.ZoneCall.TheVariants.{Map, Unmap, TakeOrder, GiveOrder}
use Rattle.state_core.specs.declared.error.ZoneError.{ZoneError}
use Rattle.state_core.specs.declared.error.ZoneError.TheVariants.{JournalFull, Unmapped}
use Rattle.machine_core.specs.declared.finished.Finished.{Finished}
use Rattle.machine_core.specs.declared.scanned.Scanned.{Scanned}
use Rattle.machine_core.specs.declared.scanned.Scanned.TheVariants as scan
use Rattle.state_core.specs.declared.moves.Ended.{Ended}
use Rattle.state_core.specs.declared.moves.Ended.TheVariants as ended
use Rattle.state_core.specs.declared.information.Look.{Look as Known}
use Rattle.state_core.specs.ErrorNumber.{number_of}
use Rattle.state_core.specs.Looking.{look_of, info_of}
use Rattle.state_core.specs.Calls.{refusal_of, answer_of, after}
use Rattle.state_core.specs.HandingOut.{take_order_refusal, lowest_run, block_taken}
use Rattle.machine_core.specs.World.{WorldState, world_opened, with_zone, scan_refusal, scan_stopped, scan_answer, scanned, take_step, copy_step, finish_step, shut_step}
use Rattle.text_core.specs.declared.command.Call.{Call}
use Rattle.text_core.specs.declared.command.Call.TheVariants.{Info, InfoWithHeld, Scan, Take, Copy, Finish, Shut, Look, Huge, Give}
use Rattle.text_core.specs.declared.command.Calls.{Calls}
use Rattle.text_core.specs.declared.command.Calls.TheVariants.{Zone, One, Series as SeriesOf}
use Rattle.text_core.specs.declared.command.Series.{Series}
use Rattle.text_core.specs.declared.command.Repeated.{Repeated}
use Rattle.text_core.specs.declared.command.Repeated.TheVariants as repeated
use Rattle.text_core.specs.Grammar.{address_of, zone_of}
use Rattle.text_core.specs.declared.command.Command.{Command}
use Rattle.text_core.specs.declared.command.Command.TheVariants.{Open, On, Compact, Pool, Profile2, OutOfRange, During}
use Rattle.text_core.specs.declared.pool.PoolBlocks.{PoolBlocks}
use Rattle.text_core.specs.declared.pool.PoolStopped.{PoolStopped}
use Rattle.text_core.specs.declared.pool.PoolStopped.TheVariants as stopped
use Rattle.text_core.specs.Pool.{pool_order, told_as}
use Rattle.text_core.specs.declared.reply.Reply.{Reply}
use Rattle.text_core.specs.declared.reply.Reply.TheVariants as reply

-- the reply to a call, and the world after it
pub record Answered : Type 0 where
  pub reply : Reply
  pub world : WorldState

-- a reply, and the world after it
abbrev pub says : Reply → WorldState → Answered
says reply after = record { reply = reply; world = after }

-- a refusal with this number, which leaves this world
abbrev pub refused : ℕ → WorldState → Answered
refused number w = says (reply.Refused number) w

-- the refusal of the zone, which leaves this world, and where there is none the given answer
abbrev pub unless : Option ZoneError → WorldState → Answered → Answered
unless None world answered = answered
unless (Some error) world answered = refused (number_of error) world

-- the reply and the world of a step, or refusal 45 where a hand doesn't hold what the call needs
abbrev pub by_hand : {A : Type 0} → (A → Reply) → WorldState → Option (A × WorldState) → Answered
by_hand told world None = refused 45 world
by_hand told world (Some (answer, after)) = says (told answer) after

-- the reply `ok` and the world of a copy, or refusal 45 where the hand doesn't hold a page
abbrev pub copied : WorldState → Option WorldState → Answered
copied world None = refused 45 world
copied world (Some after) = says reply.Done after

-- the reply for what a scan found
abbrev pub found : Scanned → Reply
found (scan.Serial serial) = reply.Serial serial
found scan.Met = reply.Met

-- the reply for how the move of the page with this serial ended
abbrev pub ending : ℕ → Ended → Reply
ending serial ended.Moved = reply.Moved serial
ending serial ended.Back = reply.PutBack serial

-- the answer to a look: what is known of the page, or the refusal that there is none; nothing changes
abbrev pub looked : WorldState → Option Known → Answered
looked world None = refused (number_of Unmapped) world
looked world (Some known) = says (reply.Looked known) world

-- the reply for what the zone answered to a call: the value of a load, and the block that was handed out; the page and the frame of a
-- map aren't told
abbrev pub reply_for : ZoneCall 8 → ZoneAnswer → Reply
reply_for call zone_answer.Done = reply.Done
reply_for call (zone_answer.Mapped page frame) = reply.Done
reply_for call (zone_answer.Value x) = reply.Value x
reply_for (TakeOrder order) (zone_answer.Frame first) = reply.HandedOut first order
reply_for call (zone_answer.Frame first) = reply.Done

-- the reply to `huge`: the pageblock that begins at the frame that the zone answered
abbrev pub reply_for_huge : ZoneAnswer → Reply
reply_for_huge (zone_answer.Frame first) = reply.Block (first / 512)
reply_for_huge answer = reply.Done

-- a call of the zone, made as client 0: its refusal, or the reply for its answer and the zone after it
abbrev pub zone_step : WorldState → ZoneCall 8 → (ZoneAnswer → Reply) → Answered
zone_step w call told = unless (refusal_of call w.zone) w (says (told (answer_of call w.zone)) (with_zone w (after call 0 w.zone)))

-- the reply to a call that the zone answers by itself, and the world after it
abbrev pub make_step : WorldState → ZoneCall 8 → Answered
make_step w call = zone_step w call (reply_for call)

-- the reply to another call on the open zone, and the world after it
abbrev pub call_step : WorldState → Call → Answered
call_step w Info = says (reply.Info (info_of w.zone)) w
call_step w InfoWithHeld = says (reply.InfoWithHeld (info_of w.zone)) w
call_step w Scan = unless (scan_refusal w) (scan_stopped w) (says (found (scan_answer w)) (scanned w))
call_step w (Take hand) = by_hand (λ serial. reply.Serial serial) w (take_step w hand)
call_step w (Copy hand) = copied w (copy_step w hand)
call_step w (Finish hand) = by_hand (λ (f : Finished). ending f.serial f.ended) w (finish_step w hand)
call_step w Shut = by_hand (λ count. reply.Shut count) w (shut_step w)
call_step w (Look a) = looked w (look_of w.zone a)
call_step w Huge = zone_step w (TakeOrder 9) reply_for_huge
call_step w (Give block) = zone_step w (GiveOrder (512 * block) 9) (λ _. reply.Done)

-- the call that a series makes at an address
abbrev pub call_at : Repeated → Address → ZoneCall 8
call_at repeated.Map a = Map a false
call_at repeated.Unmap a = Unmap a

-- the answer to the call of a series at this address, or refusal 1 where the space has no such page
abbrev pub page_step : Repeated → WorldState → Option Address → Answered
page_step c w None = refused 1 w
page_step c w (Some a) = make_step w (call_at c a)

-- a series ends where a call was refused after `done` others, and goes on where it wasn't
abbrev pub unless_refused : ℕ → Reply → WorldState → Answered → Answered
unless_refused done (reply.Refused number) w rest = says (reply.DoneUntil done number) w
unless_refused done _ w rest = rest

-- n more calls of a series after `done` others: at page v of space s, and then each `further` pages further, in order, up to
-- the first refusal
abbrev pub series_from : Repeated → (s v further done n : ℕ) → WorldState → Answered
series_from c s v further done zero w = says (reply.AllDone done) w
series_from c s v further done (suc n) w = let a = page_step c w (address_of s v) in
    unless_refused done a.reply a.world (series_from c s (v + further) further (done + 1) n a.world)

-- the answer to a series of calls
abbrev pub series_step : WorldState → Series → Answered
series_step w s = series_from s.call s.space s.first s.step 0 s.count w

-- the answer to the calls of a command
abbrev pub calls_step : WorldState → Calls → Answered
calls_step w (Zone call) = make_step w call
calls_step w (One call) = call_step w call
calls_step w (SeriesOf series) = series_step w series

-- why a pool stops where it is refused a block: where none is free it needs a round, for which no worker can be had without threads
abbrev pub stopped_by : ZoneError → PoolStopped
stopped_by JournalFull = stopped.JournalFull
stopped_by _ = stopped.Refused 32

-- the reply to a pool that ran no round and got the blocks that these numbers name
abbrev pub pooled : PoolBlocks → List ℕ → PoolStopped → Reply
pooled blocks got why = reply.Pool blocks (record { items = got }) 0 why

-- the first frame of the lowest free block of an order, and 0 where there is no such block
abbrev pub next_first : WorldState → ℕ → ℕ
next_first w order = unwrap_or (lowest_run w.zone order) 0

-- a pool stops after these blocks where the next one is refused, and goes on where it isn't
abbrev pub unless_stopped : Option ZoneError → PoolBlocks → List ℕ → WorldState → Answered → Answered
unless_stopped None blocks got w rest = rest
unless_stopped (Some error) blocks got w rest = says (pooled blocks got (stopped_by error)) w

-- n more blocks of a pool after these: the lowest free block each time, up to the first that is refused
abbrev pub pool_from : PoolBlocks → List ℕ → ℕ → WorldState → Answered
pool_from blocks got zero w = says (pooled blocks got stopped.Enough) w
pool_from blocks got (suc n) w = let order = pool_order blocks in let first = next_first w order in
    unless_stopped (take_order_refusal w.zone order) blocks got w
    (pool_from blocks (got ++ told_as blocks first ∷ []) n (with_zone w (block_taken w.zone first order)))

-- the answer to a pool of `count` blocks, which is refused 45 where a hand round is open
abbrev pub pool_step : WorldState → ℕ → PoolBlocks → Answered
pool_step w count blocks = if w.is_open then refused 45 w else pool_from blocks [] count w

-- the reply to a command, and the world after it, if there is one
pub record Step : Type 0 where
  pub reply : Reply
  pub world : Option WorldState

-- the answer of the open zone, as a step
abbrev pub answered : Answered → Step
answered a = record { reply = a.reply; world = Some a.world }

-- a refusal with this number, which changes nothing
abbrev pub declined : ℕ → Option WorldState → Step
declined number world = record { reply = reply.Refused number; world = world }

-- the step of opening a zone with this many pageblocks and places in its journal, which is refused 44 where one was opened before
abbrev pub open_step : ℕ → ℕ → ℕ → Option WorldState → Step
open_step zone blocks places None = answered (says reply.Done (world_opened zone blocks places))
open_step zone blocks places (Some w) = declined 44 (Some w)

-- the step of calls on the zone with this number, which is refused 43 where this isn't the open one
abbrev pub step_on : ℕ → Calls → Option WorldState → Step
step_on zone calls None = declined 43 None
step_on zone calls (Some w) = if nat_eq zone w.zone.number then answered (calls_step w calls) else declined 43 (Some w)

-- the number of the refusal of a round, for which no worker can be had without threads
abbrev pub round_refusal : ℕ → WorldState → ℕ
round_refusal zone w = if nat_eq zone w.zone.number then (if w.is_open then 45 else 32) else 43

-- the step of a round over the zone with this number, without threads
abbrev pub compact_on : ℕ → Option WorldState → Step
compact_on zone None = declined 43 None
compact_on zone (Some w) = declined (round_refusal zone w) (Some w)

-- the step of a pool of blocks of the zone with this number, which is refused 43 where this isn't the open one
abbrev pub pool_on : ℕ → ℕ → PoolBlocks → Option WorldState → Step
pool_on zone count blocks None = declined 43 None
pool_on zone count blocks (Some w) =
    if nat_eq zone w.zone.number then answered (pool_step w count blocks) else declined 43 (Some w)

-- the step of a round during which a client makes calls, without threads: nothing of it is done
abbrev pub during_on : Option ℕ → Option WorldState → Step
during_on None world = declined 1 world
during_on (Some zone) world = compact_on zone world

-- the step of any command; a zone that it opens has this many places in its journal
abbrev pub step : ℕ → Option WorldState → Command → Step
step places world OutOfRange = declined 1 world
step places world Profile2 = record { reply = reply.Done; world = world }
step places world (Open zone blocks) = open_step zone blocks places world
step places world (On zone calls) = step_on zone calls world
step places world (Compact zone) = compact_on zone world
step places world (Pool zone count blocks) = pool_on zone count blocks world
step places world (During number) = during_on (zone_of number) world

-- whether a command opens a zone
abbrev pub opens : Option WorldState → Command → Bool
opens None (Open zone blocks) = true
opens _ command = false
