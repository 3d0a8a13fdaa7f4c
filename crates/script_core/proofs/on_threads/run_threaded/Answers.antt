use Rattle.script_core.specs.WithThreads.{AsksMemory, IsThreadedStep, threaded_at_first}
use Rattle.script_core.proofs.RunsAs.{played_carried}
use Rattle.script_core.proofs.ThreadedRuns.{threaded_run}
use Rattle.script_core.proofs.on_threads.run_threaded.Goals as goal

pub returns-clause-run : goal.returns-clause-run
returns-clause-run g c =
    let first = threaded_at_first c.args.options.journal in
    threaded_run c.args.options.journal c.args.options.journal_in_range _ _ _ _ _
    (played_carried _ IsThreadedStep (λ a. a.machine) (λ old c answers new step. step) _ AsksMemory (λ old command asks. asks) _ first c.new-machine.ensures _ _ _ _ _ c.play.ensures.played)
