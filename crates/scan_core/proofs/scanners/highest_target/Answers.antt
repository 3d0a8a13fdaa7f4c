use Rattle.std.proofs.Common.{◌∙◌, sym, arith}
use Rattle.std.specs.FinSet as set
use Rattle.scan_core.proofs.Found.{some_is}
use Rattle.scan_core.proofs.Scanning.{target_none, target_met, target_past, target_here, target_marked}
use Rattle.scan_core.proofs.scanners.highest_target.Goals as goal

pub returns-in_err-frame : goal.returns-in_err-frame
returns-in_err-frame c =
    c.from_residual.ensures
    ∙ sym (target_none c.args.marks.now (set.contains c.args.free.now.members) c.args.low c.args.end c.loop-above.above c.loop-above.invariant.stops c.in_err-frame.ensures)

pub returns-then-frame-low : goal.returns-then-frame-low
returns-then-frame-low c =
    sym (target_past c.args.marks.now (set.contains c.args.free.now.members) c.args.low c.args.end c.loop-above.above c.loop-above.invariant.stops c.in_ok-frame.frame c.in_ok-frame.ensures c.if-frame-low.true)

pub returns-then-not-is_marked : goal.returns-then-not-is_marked
returns-then-not-is_marked c =
    some_is _ c.in_ok-frame.frame (c.in_any_zone.ensures.valid.1 (omega (arith, c.in_ok-frame.ensures.below, c.loop-above.invariant.high, c.requires.few))) c.in_any_zone.ensures.value
    ∙ sym (target_here c.args.marks.now (set.contains c.args.free.now.members) c.args.low c.args.end c.loop-above.above c.loop-above.invariant.stops c.in_ok-frame.frame c.in_ok-frame.ensures (omega (arith, c.if-frame-low.false)) c.loop-above.invariant.high (sym c.is_marked.ensures ∙ c.if-not-is_marked.true))

pub loop-above-preserved : goal.loop-above-preserved
loop-above-preserved c = record {
  stops = target_marked c.args.marks.now (set.contains c.args.free.now.members) c.args.low c.args.end c.loop-above.above c.loop-above.invariant.stops c.in_ok-frame.frame c.in_ok-frame.ensures (sym c.is_marked.ensures ∙ c.if-not-is_marked.false);
  high = omega (arith, c.in_ok-frame.ensures.below, c.loop-above.invariant.high);
}

pub loop-above-smaller : goal.loop-above-smaller
loop-above-smaller c = omega (arith, c.in_ok-frame.ensures.below)

pub returns : goal.returns
returns c =
    sym (target_met c.args.marks.now (set.contains c.args.free.now.members) c.args.low c.args.end c.loop-above.above c.loop-above.invariant.stops (omega (arith, c.loop-above-test.false)))
