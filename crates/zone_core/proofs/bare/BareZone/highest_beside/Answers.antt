use Rattle.std.proofs.Common.{◌∙◌, ◌^◌, ap, sym, arith}
use Rattle.fewest_core.specs.Evacuation.{is_beside}
use Rattle.fewest_core.specs.Reservation.{is_in_runs}
use Rattle.frame_core.specs.Below.{highest}
use Rattle.frame_core.proofs.Bounds.{highest_some}
use Rattle.state_core.specs.Pairs.{is_free_unmarked}
use Rattle.state_core.specs.ZoneState.{ZoneState}
use Rattle.zone_core.proofs.Evacuating.{beside_found, beside_lower, beside_none}
use Rattle.zone_core.proofs.bare.BareZone.highest_beside.Goals as goal

pub loop-frame-preserved : goal.loop-frame-preserved
loop-frame-preserved g c =
    let vacant = ap (λ (u : ZoneState). highest (is_free_unmarked u) c.loop-frame.end) (sym (c.deref.ensures ∙ c.self.view_is)) ∙ sym c.last_vacant.ensures in
    let is_in = is_in_runs c.args.firsts.now (2 ^ c.args.order) in
    let found = vacant ∙ c.in-Some.is in
    record {
      within = omega (arith, c.get-end.ensures.value, (highest_some (is_free_unmarked c.args.self.now) c.loop-frame.end c.in-Some.frame found).0, c.loop-frame.invariant.within);
      same = ap (highest (is_beside is_in c.args.self.now)) c.get-end.ensures.value
          ∙ sym (beside_lower is_in (is_free_unmarked c.args.self.now) c.loop-frame.end c.in-Some.frame found (sym c.is_in_runs.ensures ∙ c.if-not-is_in_runs.false))
          ∙ c.loop-frame.invariant.same;
    }

pub loop-frame-smaller : goal.loop-frame-smaller
loop-frame-smaller g c =
    let vacant = ap (λ (u : ZoneState). highest (is_free_unmarked u) c.loop-frame.end) (sym (c.deref.ensures ∙ c.self.view_is)) ∙ sym c.last_vacant.ensures in
    omega (arith, c.get-end.ensures.value, (highest_some (is_free_unmarked c.args.self.now) c.loop-frame.end c.in-Some.frame (vacant ∙ c.in-Some.is)).0)

pub returns-then-not-is_in_runs : goal.returns-then-not-is_in_runs
returns-then-not-is_in_runs g c =
    let vacant = ap (λ (u : ZoneState). highest (is_free_unmarked u) c.loop-frame.end) (sym (c.deref.ensures ∙ c.self.view_is)) ∙ sym c.last_vacant.ensures in
    let is_in = is_in_runs c.args.firsts.now (2 ^ c.args.order) in
    sym (beside_found is_in (is_free_unmarked c.args.self.now) c.loop-frame.end c.in-Some.frame (vacant ∙ c.in-Some.is) (sym c.is_in_runs.ensures ∙ c.if-not-is_in_runs.true)) ∙ c.loop-frame.invariant.same

pub returns : goal.returns
returns g c =
    let vacant = ap (λ (u : ZoneState). highest (is_free_unmarked u) c.loop-frame.end) (sym (c.deref.ensures ∙ c.self.view_is)) ∙ sym c.last_vacant.ensures in
    let is_in = is_in_runs c.args.firsts.now (2 ^ c.args.order) in
    sym (beside_none is_in (is_free_unmarked c.args.self.now) c.loop-frame.end (vacant ∙ c.in_default.is)) ∙ c.loop-frame.invariant.same
