use Rattle.std.proofs.Common.{ℕ, ◌<◌, ◌≤◌, sym, ◌∙◌, below_more, arith}
use Rattle.std.specs.Prelude.{◌&&◌}
use Rattle.std.proofs.lemmas.Bool.{le-leb}
use Rattle.frame_core.proofs.Searches.{lowest_is, lowest_none}
use Rattle.scan_core.proofs.Found.{some_is, skipped_and}
use Rattle.scan_core.proofs.pair.next_source.Goals as goal

pub returns-then-is_source : goal.returns-then-is_source
returns-then-is_source c =
    let frame = c.loop-frame.frame in
    let high : frame < c.args.fingers.free = omega arith in
    let low : c.args.fingers.migrate ≤ frame = omega arith in
    some_is _ frame (c.new.ensures.valid.1 (omega (arith, high, c.requires.high, c.requires.few))) c.new.ensures.value
    ∙ sym (lowest_is _ _ frame high (λ i. le-leb c.args.fingers.migrate frame low i && sym c.if-is_source.ensures i) c.loop-frame.invariant)

pub loop-frame-preserved : goal.loop-frame-preserved
loop-frame-preserved c = below_more _ _ c.loop-frame.invariant (skipped_and _ _ (sym c.if-is_source.ensures))

pub returns : goal.returns
returns c = sym (lowest_none _ _ (λ (k : ℕ) (h : k < c.args.fingers.free). c.loop-frame.invariant k (omega arith)))
