use Rattle.std.proofs.Common.{◌<◌, length, length-set, ◌∙◌, arith}
use Rattle.zone_core.proofs.Picking.{picks_more}
use Rattle.zone_core.proofs.bare.BareZone.pick.Goals as goal

pub loop-place-preserved : goal.loop-place-preserved
loop-place-preserved g c =
    let ranked = c.in-Some.ensures.ranked ∙ c.loop-place.invariant.ranked in
    let within : c.loop-place.place < length c.loop-place.firsts = omega (arith, c.loop-place-test.true, c.loop-place.invariant.count) in
    record {
      last_open = c.in-Some.ensures.next;
      ranked = omega (arith, ranked);
      picked = picks_more c.args.self.now c.args.order c.loop-place.firsts c.loop-place.place c.loop-place.invariant.picked within c.in-Some.run' c.in-Some.ensures.next c.run_start.result c.run_start.ensures ranked;
      count = length-set c.loop-place.firsts c.loop-place.place c.run_start.result ∙ c.loop-place.invariant.count;
    }
