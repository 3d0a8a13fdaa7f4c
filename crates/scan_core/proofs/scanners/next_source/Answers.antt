use Rattle.std.proofs.Common.{ℕ, ◌<◌, ◌∙◌, sym, arith}
use Rattle.std.specs.FinSet as set
use Rattle.frame_core.proofs.Searches.{lowest_none}
use Rattle.scan_core.proofs.Found.{some_is}
use Rattle.scan_core.proofs.Scanning.{source_none, source_past, source_here, source_marked}
use Rattle.scan_core.proofs.scanners.next_source.Goals as goal

pub returns-in_err-frame : goal.returns-in_err-frame
returns-in_err-frame c =
    c.from_residual.ensures
    ∙ sym (source_none c.args.marks.now (set.contains c.args.sources.now.members) c.args.fingers.migrate c.args.fingers.free c.loop-next.next c.loop-next.invariant.before c.in_err-frame.ensures.next)

pub returns-then-frame-fingers : goal.returns-then-frame-fingers
returns-then-frame-fingers c =
    sym (source_past c.args.marks.now (set.contains c.args.sources.now.members) c.args.fingers.migrate c.args.fingers.free c.loop-next.next c.loop-next.invariant.before c.in_ok-frame.frame c.in_ok-frame.ensures.next c.if-frame-fingers.true)

pub returns-then-not-is_marked : goal.returns-then-not-is_marked
returns-then-not-is_marked c =
    some_is _ c.in_ok-frame.frame (c.in_any_zone.ensures.valid.1 (omega (arith, c.if-frame-fingers.false, c.requires.few))) c.in_any_zone.ensures.value
    ∙ sym (source_here c.args.marks.now (set.contains c.args.sources.now.members) c.args.fingers.migrate c.args.fingers.free c.loop-next.next c.loop-next.invariant.before c.in_ok-frame.frame c.in_ok-frame.ensures.next (omega (arith, c.if-frame-fingers.false)) c.loop-next.invariant.low (sym c.is_marked.ensures ∙ c.if-not-is_marked.true))

pub loop-next-preserved : goal.loop-next-preserved
loop-next-preserved c = record {
  low = omega (arith, c.loop-next.invariant.low, c.in_ok-frame.ensures.next.least);
  before = source_marked c.args.marks.now (set.contains c.args.sources.now.members) c.args.fingers.migrate c.args.fingers.free c.loop-next.next c.loop-next.invariant.before c.in_ok-frame.frame c.in_ok-frame.ensures.next (sym c.is_marked.ensures ∙ c.if-not-is_marked.false);
}

pub loop-next-smaller : goal.loop-next-smaller
loop-next-smaller c = omega (arith, c.in_ok-frame.ensures.next.least, c.loop-next-test.true)

pub returns : goal.returns
returns c =
    sym (lowest_none _ c.args.fingers.free (λ (k : ℕ) (h : k < c.args.fingers.free). c.loop-next.invariant.before k (omega (arith, h, c.loop-next-test.false))))
