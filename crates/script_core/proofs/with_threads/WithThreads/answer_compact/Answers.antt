use Rattle.std.proofs.Common.{ap, sym, ◌∙◌}
use Rattle.text_core.specs.declared.command.Command.TheVariants.{Compact}
use Rattle.machine_core.specs.OneThread.{OneThread}
use Rattle.script_core.specs.WithThreads.{WithThreads}
use Rattle.script_core.proofs.Rounds.{threaded_step}
use Rattle.script_core.proofs.with_threads.WithThreads.answer_compact.Goals as goal

pub returns : goal.returns
returns g c =
    let given = c.in-Some.ensures.given in
    threaded_step c.args.self.now (Compact c.args.zone) c.run_round.result c.run_round.new.self c.in-Some.world _ _
    (ap (λ (t : WithThreads). t.single.world) (sym c.self.view_is) ∙ given.0)
    given.1
    (ap (λ (s : OneThread). s.places) c.in-Some.ensures.left ∙ ap (λ (t : WithThreads). t.single.places) c.self.view_is)
    (ap (λ (t : WithThreads). t.client) c.self.view_is)
    c.run_round.ensures
