use Rattle.std.proofs.Common.{◌≡◌, ℕ, ◌+◌, ap, ◌∙◌, arith}
use Rattle.frame_core.specs.Below.{count_below, sum_below}
use Rattle.state_core.specs.HandingOut.{is_run}
use Rattle.state_core.specs.ZoneState.{ZoneState, frame_count}
use Rattle.zone_core.specs.FreeRuns.{maximal_runs}
use Rattle.zone_core.proofs.HalvedRuns.{frames_are_runs, next_within, runs_upto_next, whole_runs_maximal}
use Rattle.zone_core.proofs.bare.BareZone.count_all_runs.Goals as goal

pub loop-order-init : goal.loop-order-init
loop-order-init g c = record { so_far = omega (arith, c.free_frames-runs.ensures, frames_are_runs c.args.self.now) }

pub overflow_sub-runs : goal.overflow_sub-runs
overflow_sub-runs g c =
    let next = c.count_runs-runs.ensures.count ∙ ap (λ (z : ZoneState). count_below (is_run z (c.loop-order.order + 1)) (frame_count z)) (c.deref.ensures ∙ c.self.view_is) in
    next_within c.args.self.now c.loop-order.order c.loop-order-test.true c.loop-order.runs _ c.loop-order.invariant.so_far next

pub loop-order-preserved : goal.loop-order-preserved
loop-order-preserved g c =
    let next = c.count_runs-runs.ensures.count ∙ ap (λ (z : ZoneState). count_below (is_run z (c.loop-order.order + 1)) (frame_count z)) (c.deref.ensures ∙ c.self.view_is) in
    record { so_far = runs_upto_next c.args.self.now c.loop-order.order c.loop-order-test.true c.loop-order.runs _ c.loop-order.invariant.so_far next }

pub returns : goal.returns
returns g c =
    let now = c.args.self.now in
    let last : c.loop-order.order ≡ 9 = omega (arith, c.loop-order.auto.order-end, c.loop-order-test.false) in
    let upto = c.loop-order.invariant.so_far ∙ ap (λ (order : ℕ). sum_below (maximal_runs now) order + count_below (is_run now order) (frame_count now)) last in
    record { runs = omega (arith, upto, whole_runs_maximal now) }
