use Rattle.std.proofs.Common.{ℕ, ◌<◌, not, sym, length, slice_index, below_more, arith}
use Rattle.std.specs.Prelude.{◌&&◌, nat_lt}
use Rattle.frame_core.proofs.Searches.{some_at, none_some}
use Rattle.scan_core.specs.Frames.{true_at}
use Rattle.scan_core.proofs.frame_counts.FrameCounts.finds_some_unmarked.Goals as goal

pub returns-then-is_counted_unmarked : goal.returns-then-is_counted_unmarked
returns-then-is_counted_unmarked c =
    sym (some_at (λ block. not (true_at c.args.marks.now block) && nat_lt 0 (slice_index c.args.self.now block)) (length c.args.self.now) c.loop-block.block (omega (arith, c.loop-block-test.true, c.len-block-end.ensures.len)) (sym c.if-is_counted_unmarked.ensures))

pub loop-block-preserved : goal.loop-block-preserved
loop-block-preserved c = below_more _ _ c.loop-block.invariant (sym c.if-is_counted_unmarked.ensures)

pub returns : goal.returns
returns c =
    sym (none_some (λ block. not (true_at c.args.marks.now block) && nat_lt 0 (slice_index c.args.self.now block)) (length c.args.self.now) (λ (k : ℕ) (h : k < length c.args.self.now). c.loop-block.invariant k (omega (arith, h, c.loop-block-test.false, c.len-block-end.ensures.len))))
