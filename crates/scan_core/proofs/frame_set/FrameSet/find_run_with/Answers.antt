use Rattle.std.proofs.Common.{◌*◌, ◌%◌, ◌^◌, inl, inr, ap, ◌∙◌, arith}
use Rattle.std.specs.FinSet as set
use Rattle.std.proofs.lemmas.Bool.Decides.{eqb_tells}
use Rattle.scan_core.specs.FrameSet.{FrameNumbers}
use Rattle.scan_core.specs.FreeRuns.{free_in_run}
use Rattle.scan_core.proofs.FreeRuns.{run_counted, run_start, runs_told}
use Rattle.scan_core.proofs.Orders.{no_rest, run_aligned}
use Rattle.scan_core.proofs.frame_set.FrameSet.find_run_with.Goals as goal

pub loop-run-init : goal.loop-run-init
loop-run-init c = λ k low high. absurd (omega (arith, low, high))

pub count_run-requires-clause-aligned : goal.count_run-requires-clause-aligned
count_run-requires-clause-aligned c =
    let low = c.frames-frames.ensures.low in
    let high = c.frames-frames.ensures.high in
    (λ i. run_start (set.contains c.self.inside.numbers.members) c.args.order c.loop-run.run c.frames-frames.result c.frames-frames.ensures.value i % 2 ^ c.get.ensures.value i)
    ∙ no_rest c.args.order low high (c.loop-run.run * 2 ^ c.args.order) (run_aligned c.args.order low high c.loop-run.run)

pub returns-then-count_run-least : goal.returns-then-count_run-least
returns-then-count_run-least c =
    let counted = run_counted (set.contains c.self.inside.numbers.members) c.args.order c.loop-run.run c.frames-frames.result c.frames-frames.ensures.value c.get.result c.get.ensures.value c.count_run.result c.count_run.ensures in
    let here = ap (λ (s : FrameNumbers). free_in_run (set.contains s.members) c.args.order c.loop-run.run) c.self.view_is in
    record {
      above = c.loop-run.auto.run;
      within = omega (arith, c.loop-run-test.true, runs_told c.self.inside c.args.self.now c.self.view_is c.args.order c.frames-frames.result c.frames-frames.ensures.value c.len.result c.len.ensures.len);
      enough = omega (arith, counted, here, c.if-count_run-least.true);
      fewer = c.loop-run.invariant;
    }

pub loop-run-preserved : goal.loop-run-preserved
loop-run-preserved c = λ k low high.
    let counted = run_counted (set.contains c.self.inside.numbers.members) c.args.order c.loop-run.run c.frames-frames.result c.frames-frames.ensures.value c.get.result c.get.ensures.value c.count_run.result c.count_run.ensures in
    let here = ap (λ (s : FrameNumbers). free_in_run (set.contains s.members) c.args.order c.loop-run.run) c.self.view_is in
    elim (eqb_tells k c.loop-run.run) [
      | inl at ↦ omega (arith, ap (free_in_run (set.contains c.args.self.now.members) c.args.order) at.1, counted, here, c.if-count_run-least.false)
      | inr other ↦ c.loop-run.invariant k low (omega (arith, high, other.1))
    ]

pub returns : goal.returns
returns c = λ k low high.
    c.loop-run.invariant k low (omega (arith, high, c.loop-run-test.false, runs_told c.self.inside c.args.self.now c.self.view_is c.args.order c.frames-frames.result c.frames-frames.ensures.value c.len.result c.len.ensures.len))
