use Rattle.std.proofs.Common.{◌^◌, ◌%◌, ◌∙◌, ap, arith}
use Rattle.std.specs.FinSet as set
use Rattle.frame_core.specs.Below.{count_from}
use Rattle.scan_core.specs.Frames.{Frames, source_at}
use Rattle.scan_core.proofs.OpenRuns.{block_counted}
use Rattle.scan_core.proofs.Orders.{no_rest}
use Rattle.scan_core.proofs.Sounding.{movable_counted}
use Rattle.scan_core.proofs.Steps as step
use Rattle.scan_core.proofs.frames.Frames.movable_in_run.Goals as goal

pub count_run-requires : goal.count_run-requires
count_run-requires c =
    let count = ap (λ o. 2 ^ o) c.get-2.ensures.value in
    record {
      order = c.get-2.ensures.high;
      aligned = (λ i. c.get.ensures.value i % count i) ∙ no_rest c.args.order (omega (arith, c.get-2.ensures.low, c.get-2.ensures.value)) (omega (arith, c.get-2.ensures.high, c.get-2.ensures.value)) c.args.first (step.block_aligned c.self.inside c.self.invariant c.self.view_is c.args.first c.args.order c.requires);
      within = omega (arith, count, c.get.ensures.value, step.block_within c.self.inside c.self.invariant c.self.view_is c.args.first c.args.order c.requires, c.self.invariant.sources_room);
    }

pub returns : goal.returns
returns c =
    block_counted (set.contains c.self.inside.candidates.sources.members) c.get.result c.args.first c.get-2.result c.args.order c.count_run.result c.count_run.ensures c.get.ensures.value c.get-2.ensures.value
    ∙ movable_counted c.self.inside c.self.invariant c.args.first (2 ^ c.args.order)
    ∙ ap (λ (frames : Frames). count_from (source_at frames.states frames.movable) c.args.first (2 ^ c.args.order)) c.self.view_is
