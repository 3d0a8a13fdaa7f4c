use Rattle.std.proofs.Common.{◌^◌, ◌∙◌, ap, arith}
use Rattle.frame_core.specs.Below.{count_from}
use Rattle.scan_core.specs.Frames.{Frames, free_at}
use Rattle.scan_core.proofs.Sounding.{free_counted_in}
use Rattle.scan_core.proofs.Steps as step
use Rattle.scan_core.proofs.frames.Frames.free_in_run.Goals as goal

pub count_run-requires-clause-within : goal.count_run-requires-clause-within
count_run-requires-clause-within c =
    omega (arith, step.block_within c.self.inside c.self.invariant c.self.view_is c.args.first c.args.order c.requires, c.self.invariant.free_room)

pub returns : goal.returns
returns c =
    c.count_run.ensures
    ∙ free_counted_in c.self.inside c.self.invariant c.args.first (2 ^ c.args.order)
    ∙ ap (λ (frames : Frames). count_from (free_at frames.states) c.args.first (2 ^ c.args.order)) c.self.view_is
