use Rattle.std.proofs.Common.{ℕ, ◌+◌, ◌<◌, sym, ap, ◌∙◌, arith}
use Rattle.frame_core.specs.Below.{count_below}
use Rattle.state_core.specs.HandingOut.{is_run}
use Rattle.state_core.specs.ZoneState.{ZoneState, frame_count}
use Rattle.zone_core.specs.FreeRuns.{maximal_runs}
use Rattle.zone_core.proofs.HalvedRuns.{runs_by_parents, whole_runs_maximal}
use Rattle.zone_core.proofs.bare.BareZone.count_maximal_runs.Goals as goal

pub returns-then-order-eq9 : goal.returns-then-order-eq9
returns-then-order-eq9 g c =
    let now = c.args.self.now in
    c.count_runs-runs.ensures.count ∙ ap (λ (z : ZoneState). count_below (is_run z c.args.order) (frame_count z)) (c.deref.ensures ∙ c.self.view_is)
    ∙ ap (λ (order : ℕ). count_below (is_run now order) (frame_count now)) c.if-order-eq9.true ∙ whole_runs_maximal now
    ∙ ap (maximal_runs now) (sym c.if-order-eq9.true)

pub overflow_sub-result : goal.overflow_sub-result
overflow_sub-result g c =
    let less : c.args.order < 9 = omega (arith, c.requires, c.if-order-eq9.false) in
    let runs = c.count_runs-runs.ensures.count ∙ ap (λ (z : ZoneState). count_below (is_run z c.args.order) (frame_count z)) (c.deref.ensures ∙ c.self.view_is) in
    let next = c.count_runs.ensures.count ∙ ap (λ (z : ZoneState). count_below (is_run z (c.args.order + 1)) (frame_count z)) (c.deref-2.ensures ∙ c.self.view_is) in
    omega (arith, runs, next, runs_by_parents c.args.self.now c.args.order less)

pub returns : goal.returns
returns g c =
    let less : c.args.order < 9 = omega (arith, c.requires, c.if-order-eq9.false) in
    let runs = c.count_runs-runs.ensures.count ∙ ap (λ (z : ZoneState). count_below (is_run z c.args.order) (frame_count z)) (c.deref.ensures ∙ c.self.view_is) in
    let next = c.count_runs.ensures.count ∙ ap (λ (z : ZoneState). count_below (is_run z (c.args.order + 1)) (frame_count z)) (c.deref-2.ensures ∙ c.self.view_is) in
    omega (arith, runs, next, runs_by_parents c.args.self.now c.args.order less)
