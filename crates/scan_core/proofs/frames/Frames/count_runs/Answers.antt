use Rattle.std.proofs.Common.{◌∙◌, length, ap}
use Rattle.frame_core.specs.Below.{count_below}
use Rattle.scan_core.specs.Frames.{Frames}
use Rattle.scan_core.specs.Runs.{is_run}
use Rattle.scan_core.proofs.Sounding.{runs_by_set}
use Rattle.scan_core.proofs.frames.Frames.count_runs.Goals as goal

pub returns : goal.returns
returns c = c.count_runs.ensures ∙ runs_by_set c.self.inside c.self.invariant c.args.order ∙ ap (λ (frames : Frames). count_below (is_run frames.states c.args.order) (length frames.states)) c.self.view_is
