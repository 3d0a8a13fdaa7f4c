-- The counts of a reply to `info` add up to the frames of the zone.
use Rattle.std.specs.Prelude.{◌≡◌, ℕ, ◌+◌, ◌*◌, List, [], ◌∷◌, Option, Some, None, ⊤}
use Rattle.std.specs.List.{AllByRecursion}
use Rattle.std.specs.Option.{option_or}
use Rattle.text_core.specs.declared.command.Command.{Command}
use Rattle.text_core.specs.declared.command.Command.TheVariants.{Open}
use Rattle.text_core.specs.declared.reply.Reply.{Reply}
use Rattle.text_core.specs.declared.reply.Reply.TheVariants as reply
use Rattle.text_core.specs.Script.{Answer, Numbered}

-- the number of frames of the zone that a command opens, if it opens one: each pageblock has 512
abbrev pub frames_in : Command → Option ℕ
frames_in (Open zone blocks) = Some (512 * blocks)
frames_in _ = None

-- the number of frames of the zone of a script, which its first `zone` opens
abbrev pub frames_of : List Numbered → Option ℕ
frames_of [] = None
frames_of (c ∷ commands) = option_or (frames_in c.command) (frames_of commands)

-- the counts of a reply, if it has counts, add up to this number of frames; a moving page has two frames, and is
-- counted in `pages` and in `moving`
abbrev pub AddsUpTo : Option ℕ → Reply → Type 0
AddsUpTo frames (reply.Info i) = frames ≡ Some (i.free + i.pages + i.moving + i.held)
AddsUpTo frames (reply.InfoWithHeld i) = frames ≡ Some (i.free + i.pages + i.moving + i.held)
AddsUpTo frames _ = ⊤

-- the counts of each reply add up to the frames of the zone that these commands open
abbrev pub CountsAddUp : List Numbered → List Answer → Type 0
CountsAddUp commands answers = AllByRecursion (λ a. AddsUpTo (frames_of commands) a.reply) answers
