use Rattle.std.proofs.Common.{◌≡◌, ◌∙◌, ℕ, List, length, true, sym, ap}
use Rattle.std.specs.Prelude.{Option, Some, None, IfSome}
use Rattle.frame_core.specs.declared.state.FrameState.{FrameState}
use Rattle.frame_core.proofs.Searches.{lowest_some}
use Rattle.scan_core.specs.Frames.{Frames}
use Rattle.scan_core.specs.Runs.{first_run, is_run}
use Rattle.scan_core.proofs.Sounding.{first_run_by_set}
use Rattle.scan_core.proofs.frames.Frames.first_run.Goals as goal

run_found : (states : List (FrameState ℕ)) (order : ℕ) (o : Option ℕ) → o ≡ first_run states order → IfSome o (λ first. is_run states order first ≡ true)
run_found states order None is = tt
run_found states order (Some first) is = (lowest_some (is_run states order) (length states) first (sym is)).1

pub returns : goal.returns
returns c =
    let is = c.first_run.ensures ∙ first_run_by_set c.self.inside c.self.invariant c.args.order ∙ ap (λ (frames : Frames). first_run frames.states c.args.order) c.self.view_is in
    record { lowest = is; run = run_found c.args.self.now.states c.args.order c.first_run.result is }
