-- How a script without blocks is answered on threads: as by the machine that makes its rounds by hand, up to the first round that failed and
-- the first pool that was refused a round.
use Rattle.std.specs.Prelude.{◌≡◌, ℕ, ◌≤◌, ◌⊎◌, Bool, false, ◌&&◌, nat_le, IsTrue, List, [], ◌∷◌, Option, ⊤}
use Rattle.std.specs.List.{AllByRecursion}
use Rattle.machine_core.specs.World.{WorldState}
use Rattle.text_core.specs.declared.command.Command.{Command}
use Rattle.text_core.specs.declared.command.Command.TheVariants.{Compact, Pool, During}
use Rattle.text_core.specs.declared.pool.PoolStopped.TheVariants as pool_stopped
use Rattle.text_core.specs.declared.reply.Reply.{Reply}
use Rattle.text_core.specs.declared.reply.Reply.TheVariants as reply
use Rattle.machine_core.specs.Machine.{opens}
use Rattle.text_core.specs.Runs.{Asking, Rule}
use Rattle.text_core.specs.Script.{Answer, Numbered, commands_of}
use Rattle.script_core.specs.MachineByHand.{step_by_hand}

-- how far a machine with threads is followed by the machine by hand: to the world of that one, or no longer
pub data Followed : Type 0 where
  To : Option WorldState → Followed
  NoLonger : Followed

-- memory or a thread was wanting for a round, and nothing was begun
abbrev pub IsUnbegun : Command → Reply → Type 0
IsUnbegun (Compact zone) answer = (answer ≡ reply.Refused 31) ⊎ (answer ≡ reply.Refused 32)
IsUnbegun _ answer = ⊥

-- a round failed, or a pool was refused a round
abbrev pub HasFailed : Command → Reply → Type 0
HasFailed (Compact zone) answer = (answer ≡ reply.Refused 33) ⊎ (answer ≡ reply.Refused 34)
HasFailed (Pool zone count blocks) (reply.Pool told got rounds (pool_stopped.Refused number)) = (31 ≤ number) × (number ≤ 34)
HasFailed _ _ = ⊥

-- the reply to a command, where the machine by hand has this world before it, and how far it follows
abbrev pub IsReplyByHand : ℕ → Option WorldState → Command → Reply → Followed → Type 0
IsReplyByHand places world command answer new =
    ((answer ≡ (step_by_hand places world command).reply) × (new ≡ To (step_by_hand places world command).world))
    ⊎ ((IsUnbegun command answer × (new ≡ To world)) ⊎ (HasFailed command answer × (new ≡ NoLonger)))

-- a command has one reply, with the number of its line
pub record IsOneByHand (places : ℕ) (world : Option WorldState) (c : Numbered) (answers : List Answer) (new : Followed) : Type 0 where
  pub reply : Reply
  pub one : answers ≡ record { line = c.line; reply = reply } ∷ []
  pub step : IsReplyByHand places world c.command reply new

-- the rule of such a machine, where a zone that it opens has this many places in its journal
abbrev pub IsByHandStep : ℕ → Rule Followed
IsByHandStep places (To world) c answers new = IsOneByHand places world c answers new
IsByHandStep places NoLonger c answers new = new ≡ NoLonger

-- a command needs memory: it opens a zone
abbrev pub OpensByHand : Asking Followed
OpensByHand (To world) command = IsTrue (opens world command)
OpensByHand NoLonger command = ⊤

-- a command isn't a block
abbrev pub IsNoBlock : Command → Type 0
IsNoBlock (During number) = ⊥
IsNoBlock _ = ⊤

-- no command of an input is a block: nobody makes calls during its rounds
abbrev pub IsAloneScript : List ℕ → Type 0
IsAloneScript input = AllByRecursion (λ c. IsNoBlock c.command) (commands_of input)

-- whether a reply tells that a round was refused, with 31, 32, 33 or 34
abbrev pub tells_refusal : Reply → Bool
tells_refusal (reply.Refused number) = nat_le 31 number && nat_le number 34
tells_refusal (reply.Pool blocks got rounds (pool_stopped.Refused number)) = nat_le 31 number && nat_le number 34
tells_refusal _ = false

-- none of these answers does
abbrev pub NoneRefused : List Answer → Type 0
NoneRefused answers = AllByRecursion (λ a. tells_refusal a.reply ≡ false) answers
