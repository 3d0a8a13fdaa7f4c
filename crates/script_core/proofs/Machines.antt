-- What the laws ask of a machine: what its rounds and its pools leave, and what they reply. All else it does as on one thread.
use Rattle.std.proofs.Common.{◌≡◌, ℕ, Bool, true, false, List, [], ◌∷◌, Option, Some, None}
use Rattle.machine_core.specs.World.{IsOrderly, WorldState}
use Rattle.text_core.specs.declared.command.Command.{Command}
use Rattle.text_core.specs.declared.command.Calls.{Calls}
use Rattle.text_core.specs.declared.command.Command.TheVariants.{Open, On, Compact, Pool, During, Profile2, OutOfRange}
use Rattle.text_core.specs.declared.pool.PoolBlocks.{PoolBlocks}
use Rattle.text_core.specs.declared.reply.Reply.{Reply}
use Rattle.text_core.specs.declared.reply.Reply.TheVariants as reply
use Rattle.text_core.proofs.Ranges.{IsInRange}
use Rattle.machine_core.specs.Machine.{Step, answered, calls_step, declined, during_on, round_refusal, step}
use Rattle.text_core.specs.Grammar.{zone_of}
use Rattle.std.specs.Prelude.{nat_eq, if◌then◌else◌}
use Rattle.text_core.specs.Script.{Answer, Numbered, commands_of}
use Rattle.script_core.proofs.PagesMoved.{LeavesCells}
use Rattle.script_core.proofs.Steps.{Keeps}

-- whether a command is a round or a pool
abbrev pub runs_rounds : Command → Bool
runs_rounds (Compact zone) = true
runs_rounds (Pool zone count blocks) = true
runs_rounds _ = false

-- what holds of every round and of every pool holds of each command that is one of them
pub by_rounds : (P : Command → Type 0) → ((zone : ℕ) → P (Compact zone)) → ((zone count : ℕ) (blocks : PoolBlocks) → P (Pool zone count blocks)) → (c : Command) → runs_rounds c ≡ true → P c
by_rounds P compact pool (Compact zone) h = compact zone
by_rounds P compact pool (Pool zone count blocks) h = pool zone count blocks
by_rounds P compact pool _ h = cc

-- and what holds of a refusal, of the line `profile 2` and of the calls on the open zone holds of each other command
pub by_other : (places : ℕ) (P : Command → Step → Type 0) (w : WorldState) → ((c : Command) (number : ℕ) → P c (declined number (Some w))) → P Profile2 (record { reply = reply.Done; world = Some w })
    → ((zone : ℕ) (calls : Calls) → P (On zone calls) (answered (calls_step w calls))) → (c : Command) → runs_rounds c ≡ false → P c (step places (Some w) c)
by_other places P w refusal done on OutOfRange h = refusal OutOfRange 1
by_other places P w refusal done on Profile2 h = done
by_other places P w refusal done on (Open zone blocks) h = refusal (Open zone blocks) 44
by_other places P w refusal done on (On zone calls) h = by_number (nat_eq zone w.zone.number) where
  by_number : (b : Bool) → P (On zone calls) (if b then answered (calls_step w calls) else declined 43 (Some w))
  by_number true = on zone calls
  by_number false = refusal (On zone calls) 43
by_other places P w refusal done on (During number) h = by_zone (zone_of number) where
  by_zone : (z : Option ℕ) → P (During number) (during_on z (Some w))
  by_zone None = refusal (During number) 1
  by_zone (Some zone) = refusal (During number) (round_refusal zone w)
by_other places P w refusal done on _ h = cc

-- whether a reply is that of a round or of a pool, or a refusal
abbrev pub is_of_rounds : Reply → Bool
is_of_rounds (reply.Round count moved back why) = true
is_of_rounds (reply.Pool blocks got rounds why) = true
is_of_rounds (reply.Refused number) = true
is_of_rounds _ = false

-- a step leaves an orderly world with the same number of pageblocks
pub record Goes (w : WorldState) (s : Step) : Type 0 where
  pub after : WorldState
  pub world : s.world ≡ Some after
  pub keeps : Keeps w after

-- and besides each address names the same page there, and each word has the same value
pub record GoesOn (w : WorldState) (s : Step) : Type 0 where
  pub goes : Goes w s
  pub leaves : LeavesCells w.zone goes.after.zone

-- these are the steps of a machine, where a zone that it opens has this many places in its journal
pub record IsMachine (places : ℕ) (steps : Option WorldState → Command → Step) : Type 0 where
  -- a command that is neither a round nor a pool has the step of one thread
  pub other : (w : Option WorldState) (c : Command) → runs_rounds c ≡ false → steps w c ≡ step places w c
  -- a round and a pool have replies of their own, or are refused
  pub replies : (w : Option WorldState) (c : Command) → runs_rounds c ≡ true → is_of_rounds (steps w c).reply ≡ true
  -- where no zone is open they open none
  pub closed : (c : Command) → runs_rounds c ≡ true → (steps None c).world ≡ None
  -- and where one is they leave its world in order
  pub goes_on : (w : WorldState) → IsOrderly w → (c : Command) → IsInRange c → runs_rounds c ≡ true → GoesOn w (steps (Some w) c)

-- a machine's replies to commands, where it has this world before the first of them; `answers_from` and `answers_by_hand_from` are the same for theirs
abbrev pub answers_by : (Option WorldState → Command → Step) → Option WorldState → List Numbered → List Answer
answers_by steps w [] = []
answers_by steps w (c ∷ commands) = let s = steps w c.command in
    record { line = c.line; reply = s.reply } ∷ answers_by steps s.world commands

-- a machine's replies to an input
abbrev pub answers_to : (Option WorldState → Command → Step) → List ℕ → List Answer
answers_to steps input = answers_by steps None (commands_of input)
