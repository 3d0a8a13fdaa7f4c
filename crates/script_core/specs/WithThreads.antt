-- A machine with threads. It answers as one on one thread does, except that it runs rounds, pools with rounds, and rounds during which a
-- client makes calls.
use Rattle.std.specs.Prelude.{◌≡◌, ◌↔◌, ◌++◌, ◌⊎◌, ℕ, ◌<◌, ◌≤◌, Bool, true, false, nat_eq, if◌then◌else◌, List, [], ◌∷◌, All, length, ⊤, Option, Some, None, Result, Ok, Err, IfOk}
use Rattle.std.specs.List.{AllByRecursion}
use Rattle.state_core.specs.declared.error.ZoneError.{ZoneError}
use Rattle.state_core.specs.ZoneState.{ZoneState}
use Rattle.zone_core.specs.Alone.{IsAtRest}
use Rattle.zone_core.specs.ByHand.{by_hand}
use Rattle.zone_core.specs.Outcome.{IsSame}
use Rattle.zone_core.specs.declared.seats.Seats.{Seats}
use Rattle.zone_core.specs.Seats.{ScanSeat, EndSeat, audit_refusal}
use Rattle.zone_core.specs.ZoneIdentity.{HasIdentity}
use Rattle.machine_core.specs.World.{WorldState, world_closed}
use Rattle.huge_core.specs.declared.collector.Collector.{Collector}
use Rattle.huge_core.specs.declared.report.Report.{Report}
use Rattle.huge_core.specs.declared.report.Stop.{Stop as PoolStop}
use Rattle.huge_core.specs.declared.report.Stop.TheVariants as pool_stop
use Rattle.huge_core.specs.ByHand.{IsReservedByHand}
use Rattle.huge_core.specs.Huge.{Huge}
use Rattle.huge_core.specs.Reserving.{HasRun, IsGot}
use Rattle.round_core.specs.declared.error.RoundError.{RoundError}
use Rattle.round_core.specs.declared.round.Round.{Round}
use Rattle.round_core.specs.Calls.{IsAddedBeside}
use Rattle.round_core.specs.Errors.{number_of}
use Rattle.round_core.specs.Kept.{LockInvariant}
use Rattle.round_core.specs.Rounds.{IsRefusedEarly, IsRound, IsWant, stop_by_hand}
use Rattle.text_core.specs.declared.command.Command.{Command}
use Rattle.text_core.specs.declared.command.Command.TheVariants.{Open, On, Compact, Pool, During, Profile2, OutOfRange}
use Rattle.text_core.specs.declared.pool.PoolBlocks.{PoolBlocks}
use Rattle.text_core.specs.Pool.{pool_order, told_as}
use Rattle.text_core.specs.declared.reply.Reply.{Reply}
use Rattle.text_core.specs.declared.reply.Reply.TheVariants as reply
use Rattle.text_core.specs.Grammar.{zone_of}
use Rattle.client_core.specs.Receipts.{IsToldBeside, Agrees, Client}
use Rattle.client_core.specs.Settling.{HasKeptJournal}
use Rattle.script_core.specs.Clients.{AreClientAnswers}
use Rattle.script_core.specs.MachineByHand.{count_by_hand, pool_stopped_as, stopped_as}
use Rattle.text_core.specs.Script.{Answer, ClientLine, Numbered, commands_of}
use Rattle.machine_core.specs.OneThread.{IsStep, Opens, OneThread, is_at_rest, number_is_at_rest, single_at_first}

-- a machine with threads: the machine as on one thread, the number of the zone that a round left broken, if one did, and
-- the client of the blocks
pub record WithThreads : Type 0 where
  pub single : OneThread
  pub broken : Option ℕ
  pub client : Client

-- the client of the blocks before its first call
abbrev pub client_at_first : Client
client_at_first = record { number = 1; receipts = [] }

-- a machine with threads before the first command
abbrev pub threaded_at_first : ℕ → WithThreads
threaded_at_first places = record { single = single_at_first places; broken = None; client = client_at_first }

-- whether a command of one line uses threads for the open zone: a round and a pool do
abbrev pub is_threaded : Command → Option WorldState → Bool
is_threaded (Compact zone) world = is_at_rest zone world
is_threaded (Pool zone count blocks) world = is_at_rest zone world
is_threaded _ world = false

-- the reply to a round
abbrev pub round_reply : Result Round RoundError → Reply
round_reply (Ok r) = reply.Round r.count r.moved r.back (stopped_as r.stopped)
round_reply (Err error) = reply.Refused (number_of error)

-- a round came to its end, or wasn't begun for want of memory or of a thread
abbrev pub Settles : Result Round RoundError → Type 0
Settles (Ok r) = ⊤
Settles (Err error) = IsWant error

-- the machine after a round, given the audit after it: the zone makes a world with its seats again where the audit
-- passes, and else it is broken
abbrev pub left_by : ℕ → Client → ZoneState → ScanSeat → EndSeat → Option ZoneError → WithThreads
left_by places client zone scan ends None =
    record { single = record { places = places; world = Some (world_closed zone scan ends) }; broken = None; client = client }
left_by places client zone scan ends (Some error) =
    record { single = single_at_first places; broken = Some zone.number; client = client }

-- no zone of the machine is broken, and it gave this world away, in which no hand round is open
pub record HasGivenAway (machine : WithThreads) (w : WorldState) : Type 0 where
  pub given : machine.single.world ≡ None
  pub whole : machine.broken ≡ None
  pub closed : w.is_open ≡ false

-- a world was taken apart into this zone and these seats, and the end seat is whole
pub record IsSplit {I N M B : Type 0} (w : WorldState) (zone : ZoneState) (seats : Seats I N M B) : Type 0 where
  pub same_zone : zone ≡ w.zone
  pub scan : seats.scan ≡ w.scan
  pub ends : seats.ends ≡ w.ends
  pub whole : seats.ends.parts ≡ 64

-- what came of a round over the zone of a world, in whatever schedule
pub record IsRoundOver (w : WorldState) : Type 0 where
  -- the zone as its lock kept it, with the same number and pageblocks
  pub zone : ZoneState
  pub kept : LockInvariant zone
  pub identity : HasIdentity w.zone.number w.zone.blocks zone
  -- the seats after the round, and its result
  pub scan : ScanSeat
  pub ends : EndSeat
  pub result : Result Round RoundError
  pub round : IfOk result (λ r. IsRound w.scan scan w.ends ends r)
  pub early : IsRefusedEarly w.scan scan w.ends ends result
  pub settled : Settles result → audit_refusal zone ends ≡ None

-- the machine that a round leaves, with this client
abbrev pub left_after : {w : WorldState} → ℕ → Client → IsRoundOver w → WithThreads
left_after places client over = left_by places client over.zone over.scan over.ends (audit_refusal over.zone over.ends)

-- a round over a zone did what the round by hand does
pub record IsDoneByHand (z z_new : ZoneState) (r : Round) : Type 0 where
  pub same : IsSame (by_hand z) z_new
  pub count : r.count ≡ count_by_hand z
  pub moved : r.moved ≡ count_by_hand z
  pub none_back : r.back ≡ 0
  pub stopped : r.stopped ≡ stop_by_hand z

-- a round came to what the round by hand comes to, and where memory or a thread was wanting, the zone is as before
abbrev pub ComesToByHand : ZoneState → ZoneState → Result Round RoundError → Type 0
ComesToByHand z z_new (Ok r) = IsDoneByHand z z_new r
ComesToByHand z z_new (Err error) = IsWant error → IsSame z z_new

-- a round without a client: its reply, and the machine after it
pub record IsRoundOn (w : WorldState) (places : ℕ) (client : Client) (answer : Reply) (new : WithThreads) : Type 0 where
  pub over : IsRoundOver w
  pub by_hand : ComesToByHand w.zone over.zone over.result
  pub answer_is : answer ≡ round_reply over.result
  pub left : new ≡ left_after places client over

-- the numbers that name blocks, in the order in which they were got
abbrev pub told_of : PoolBlocks → List (Option Huge) → List ℕ
told_of blocks [] = []
told_of blocks (Some block ∷ more) = told_as blocks block.frame ∷ told_of blocks more
told_of blocks (None ∷ more) = told_of blocks more

-- the reply to a pool
abbrev pub pool_reply : PoolBlocks → Report → Reply
pool_reply blocks r = reply.Pool blocks (record { items = told_of blocks r.got.items }) r.rounds (pool_stopped_as r.stop)

-- a pool ran rounds and none was refused, or one wasn't begun for want of memory or of a thread
abbrev pub SettlesAt : PoolStop → ℕ → Type 0
SettlesAt (pool_stop.Refused error) rounds = IsWant error
SettlesAt why rounds = 0 < rounds

-- a pool of `count` blocks of the zone of a world, in whatever schedule: its reply, and the machine after it
pub record IsPoolOn (count : ℕ) (blocks : PoolBlocks) (w : WorldState) (places : ℕ) (client : Client) (answer : Reply) (new : WithThreads) : Type 0 where
  -- the zone as its lock kept it, with the same number and pageblocks
  pub zone : ZoneState
  pub kept : LockInvariant zone
  pub identity : HasIdentity w.zone.number w.zone.blocks zone
  -- the seats after the pool, and what the collector reports
  pub scan : ScanSeat
  pub ends : EndSeat
  pub report : Report
  -- the collector may run four rounds, and it ran those of the report
  pub collector : Collector
  pub rounds : collector.rounds ≡ 4
  pub ran : HasRun collector w.scan scan w.ends ends report
  -- each block that it got has the order and was handed out, and it stopped with Enough exactly where it got as many as were asked for
  pub order : collector.order ≡ pool_order blocks
  pub got : All (IsGot collector.order) report.got.items
  pub most : length report.got.items ≤ count
  pub enough : (report.stop ≡ pool_stop.Enough) ↔ (length report.got.items ≡ count)
  pub settled : SettlesAt report.stop report.rounds → audit_refusal zone ends ≡ None
  -- and it did what a reservation by hand does
  pub by_hand : IsAtRest w.zone → IsReservedByHand collector count w.zone zone report
  pub answer_is : answer ≡ pool_reply blocks report
  pub left : new ≡ left_by places client zone scan ends (audit_refusal zone ends)

-- what a command does with threads over the zone of a world
abbrev pub IsWorkOn : Command → WorldState → ℕ → Client → Reply → WithThreads → Type 0
IsWorkOn (Compact zone) w places client answer new = IsRoundOn w places client answer new
IsWorkOn (Pool zone count blocks) w places client answer new = IsPoolOn count blocks w places client answer new
IsWorkOn _ w places client answer new = ⊥

-- what a command does with threads over the world of a machine, if the machine has one
abbrev pub IsWorkStep : Command → Option WorldState → ℕ → Client → Reply → WithThreads → Type 0
IsWorkStep command None places client answer new = ⊥
IsWorkStep command (Some w) places client answer new = IsWorkOn command w places client answer new

-- what a command does where no zone is broken: with threads, or as on one thread
abbrev pub IsStepBy : Bool → WithThreads → Command → Reply → WithThreads → Type 0
IsStepBy true old command answer new = IsWorkStep command old.single.world old.single.places old.client answer new
IsStepBy false old command answer new = IsStep old.single command answer new.single × (new.broken ≡ None) × (new.client ≡ old.client)

-- the number of the refusal of a command on a zone, where the zone with the first number is broken
abbrev pub broken_refusal : ℕ → ℕ → ℕ
broken_refusal number zone = if nat_eq zone number then 33 else 43

-- the number of the refusal of a command on a zone whose number may be out of range, where the zone with the first number is broken
abbrev pub broken_refusal_at : ℕ → Option ℕ → ℕ
broken_refusal_at number None = 1
broken_refusal_at number (Some zone) = broken_refusal number zone

-- the reply to a command where the zone with this number is broken: no call can be made of it
abbrev pub broken_reply : ℕ → Command → Reply
broken_reply number OutOfRange = reply.Refused 1
broken_reply number Profile2 = reply.Done
broken_reply number (Open zone blocks) = reply.Refused 44
broken_reply number (On zone calls) = reply.Refused (broken_refusal number zone)
broken_reply number (Compact zone) = reply.Refused (broken_refusal number zone)
broken_reply number (Pool zone count blocks) = reply.Refused (broken_refusal number zone)
broken_reply number (During zone) = reply.Refused (broken_refusal_at number (zone_of zone))

-- what a command does where the zone with this number is broken, or where none is
abbrev pub IsStepAt : Option ℕ → WithThreads → Command → Reply → WithThreads → Type 0
IsStepAt None old command answer new = IsStepBy (is_threaded command old.single.world) old command answer new
IsStepAt (Some number) old command answer new = (answer ≡ broken_reply number command) × (new ≡ old)

-- the reply to a command of one line, and the machine after it
abbrev pub IsReplyStep : WithThreads → Command → Reply → WithThreads → Type 0
IsReplyStep old command answer new = IsStepAt old.broken old command answer new

-- a command has one reply, with the number of its line
pub record IsOneReply (old : WithThreads) (c : Numbered) (answers : List Answer) (new : WithThreads) : Type 0 where
  pub reply : Reply
  pub one : answers ≡ record { line = c.line; reply = reply } ∷ []
  pub step : IsReplyStep old c.command reply new

-- the reply to a round during which a client made calls: 36 where the zone's journal isn't kept, and 35 where it is and the client's
-- receipts aren't its records there
pub record IsSettledReply (zone : ZoneState) (client : Client) (result : Result Round RoundError) (answer : Reply) : Type 0 where
  pub not_kept : (HasKeptJournal zone → ⊥) → answer ≡ reply.Refused 36
  pub agrees : HasKeptJournal zone → Agrees zone.records client → answer ≡ round_reply result
  pub differs : HasKeptJournal zone → (Agrees zone.records client → ⊥) → answer ≡ reply.Refused 35

-- a round during which a client made calls: the answers to the client's lines, the reply to the round, and the machine after it
pub record IsTurnBeside (w : WorldState) (places : ℕ) (client : Client) (lines : List ClientLine) (told : List Answer) (own : Reply) (new : WithThreads) : Type 0 where
  pub over : IsRoundOver w
  pub client_after : Client
  -- of the records that the journal has more, those of the client are its new receipts, in their order; all others are of the round
  pub added : IsToldBeside client client_after w.zone.records over.zone.records
  pub clients : AreClientAnswers client lines told client_after
  pub settled : IsSettledReply over.zone client_after over.result own
  pub left : new ≡ left_after places client_after over

-- a block was run: the answers are those to the client's lines, and after them the reply to the round
pub record IsRoundBeside (w : WorldState) (old : WithThreads) (c : Numbered) (answers : List Answer) (new : WithThreads) : Type 0 where
  pub told : List Answer
  pub own : Reply
  pub answers_are : answers ≡ told ++ record { line = c.line; reply = own } ∷ []
  pub turn : IsTurnBeside w old.single.places old.client c.clients told own new

-- nothing ran over the zone of a world, which the machine has again
pub record IsNothingRun (w : WorldState) (old new : WithThreads) : Type 0 where
  pub zone : ZoneState
  -- each record that the journal has more is of a round or of the client
  pub added : IsAddedBeside old.client.number w.zone.records zone.records
  pub kept : LockInvariant zone
  pub identity : HasIdentity w.zone.number w.zone.blocks zone
  pub left : new ≡ left_by old.single.places old.client zone w.scan w.ends (audit_refusal zone w.ends)

-- the client's thread couldn't be started: nothing ran, and the one reply is refusal 32
pub record IsUnstarted (w : WorldState) (old : WithThreads) (c : Numbered) (answers : List Answer) (new : WithThreads) : Type 0 where
  pub one : answers ≡ record { line = c.line; reply = reply.Refused 32 } ∷ []
  pub nothing : IsNothingRun w old new

-- a command is a block for the open zone, while no hand round is open
abbrev pub IsBlockFor : Command → Option WorldState → Type 0
IsBlockFor (During number) world = number_is_at_rest (zone_of number) world ≡ true
IsBlockFor _ world = ⊥

-- a block whose client lines may run was run, or its client couldn't be started
pub record IsBlockStep (old : WithThreads) (c : Numbered) (answers : List Answer) (new : WithThreads) : Type 0 where
  pub world : WorldState
  pub there : old.single.world ≡ Some world
  pub whole : old.broken ≡ None
  pub block : IsBlockFor c.command old.single.world
  pub ran : IsRoundBeside world old c answers new ⊎ IsUnstarted world old c answers new

-- The answers to a command and its client lines, and the machine after them. A block may always have one reply, as on one thread, since the
-- client's thread may be one that can't be started.
abbrev pub IsThreadedStep : WithThreads → Numbered → List Answer → WithThreads → Type 0
IsThreadedStep old c answers new = IsOneReply old c answers new ⊎ IsBlockStep old c answers new

-- a command may end a run for want of memory: one that opens a zone, and a block, since the client's receipts are copied before its
-- thread is started; `compact` and `pool` tell this by 31 in their reply
abbrev pub AsksMemory : WithThreads → Command → Type 0
AsksMemory old command = (old.broken ≡ None) × (Opens old.single command ⊎ IsBlockFor command old.single.world)

-- a command isn't a round, a pool or a block
abbrev pub IsUnthreaded : Command → Type 0
IsUnthreaded (Compact zone) = ⊥
IsUnthreaded (Pool zone count blocks) = ⊥
IsUnthreaded (During number) = ⊥
IsUnthreaded _ = ⊤

-- no command of an input is a round, a pool or a block
abbrev pub IsUnthreadedScript : List ℕ → Type 0
IsUnthreadedScript input = AllByRecursion (λ c. IsUnthreaded c.command) (commands_of input)
