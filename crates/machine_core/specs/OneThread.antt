-- A machine on one thread: it answers a command as the machine's step says.
use Rattle.std.specs.Prelude.{◌≡◌, ℕ, Bool, false, not, ◌&&◌, nat_eq, IsTrue, List, [], ◌∷◌, Option, Some, None}
use Rattle.machine_core.specs.World.{WorldState}
use Rattle.text_core.specs.declared.command.Command.{Command}
use Rattle.text_core.specs.declared.reply.Reply.{Reply}
use Rattle.machine_core.specs.Machine.{opens, step}
use Rattle.text_core.specs.Script.{Answer, Numbered}

-- a machine: the number of places that the journal of its zone has, and the world of that zone, if it opened one
pub record OneThread : Type 0 where
  pub places : ℕ
  pub world : Option WorldState

-- a machine before the first command
abbrev pub single_at_first : ℕ → OneThread
single_at_first places = record { places = places; world = None }

-- whether the zone with this number is open, and no hand round is open
abbrev pub is_at_rest : ℕ → Option WorldState → Bool
is_at_rest zone (Some w) = nat_eq zone w.zone.number && not w.is_open
is_at_rest zone None = false

-- whether the zone with this number, if the number is in range, is open, and no hand round is open
abbrev pub number_is_at_rest : Option ℕ → Option WorldState → Bool
number_is_at_rest None world = false
number_is_at_rest (Some zone) world = is_at_rest zone world

-- the reply to a command and the machine after it are those of the machine's step
pub record IsStep (old : OneThread) (command : Command) (reply : Reply) (new : OneThread) : Type 0 where
  pub step_is : record { reply = reply; world = new.world } ≡ step old.places old.world command
  pub places_are : new.places ≡ old.places

-- a command needs memory: it opens a zone
abbrev pub Opens : OneThread → Command → Type 0
Opens m command = IsTrue (opens m.world command)

-- a machine on one thread gives one reply to a command, whatever client lines it has
pub record IsSingleStep (old : OneThread) (c : Numbered) (answers : List Answer) (new : OneThread) : Type 0 where
  pub reply : Reply
  pub one : answers ≡ record { line = c.line; reply = reply } ∷ []
  pub step : IsStep old c.command reply new
