use Rattle.std.proofs.Common.{Some, sym, ap, ◌∙◌, arith}
use Rattle.state_core.proofs.Packing.{packed_quiet}
use Rattle.zone_core.proofs.InTurn.{one_further, stays}
use Rattle.zone_core.proofs.bare.BareZone.move_pages.Goals as goal

pub loop-moved-preserved : goal.loop-moved-preserved
loop-moved-preserved g c =
    let before = c.loop-moved.invariant in
    let same = c.in_default.ensures.identity in
    record {
      further = one_further c.args.most c.loop-moved.moved c.loop-moved.self c.move_next.new.self c.loop-moved-test.true c.in_default.ensures.moved ∙ before.further;
      count = omega (arith, before.count, c.in_default.ensures.count);
      identity = (same.0 ∙ before.identity.0, same.1 ∙ before.identity.1);
    }

pub returns-in-Some-clause-zone : goal.returns-in-Some-clause-zone
returns-in-Some-clause-zone g c =
    let z = c.loop-moved.self in
    c.in-Some.ensures.stays ∙ sym (stays _ z c.in-Some.ensures.none) ∙ c.loop-moved.invariant.further

pub returns-in-Some-clause-packed : goal.returns-in-Some-clause-packed
returns-in-Some-clause-packed g c met quiet none = packed_quiet c.move_next.new.self c.in-Some.ensures.valid quiet none (c.in-Some.ensures.met (ap Some met))
