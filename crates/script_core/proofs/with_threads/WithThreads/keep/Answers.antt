use Rattle.std.proofs.Common.{◌∙◌, ap, refl, Some}
use Rattle.machine_core.specs.OneThread.{OneThread}
use Rattle.script_core.specs.WithThreads.{WithThreads}
use Rattle.script_core.proofs.Rounds.{left_whole}
use Rattle.script_core.proofs.with_threads.WithThreads.keep.Goals as goal

pub returns : goal.returns
returns g c =
    left_whole c.args.self.now.single.places c.args.self.now.client c.args.zone c.args.zone c.args.seats.scan c.args.seats.scan c.args.seats.ends c.args.seats.ends _ _
    c.requires.passes refl refl refl
    (ap (λ (m : OneThread). m.places) c.give_world.ensures ∙ ap (λ (t : WithThreads). t.single.places) c.self.view_is)
    (ap (λ (m : OneThread). m.world) c.give_world.ensures ∙ ap Some c.join.ensures.world)
    (ap (λ (t : WithThreads). t.broken) c.self.view_is ∙ c.requires.whole)
    (ap (λ (t : WithThreads). t.client) c.self.view_is)
