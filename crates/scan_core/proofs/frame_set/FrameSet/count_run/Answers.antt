use Rattle.std.proofs.Common.{◌/◌, ◌^◌, ◌%◌, ◌<◌, ◌∙◌, ℕ, length, slice_index, ap, sym, arith}
use Rattle.std.specs.FinSet as set
use Rattle.scan_core.specs.FrameSet.{FrameNumbers}
use Rattle.frame_core.specs.Below.{count_from}
use Rattle.scan_core.proofs.OpenRuns.{block_counted}
use Rattle.scan_core.proofs.Orders.{no_rest, some_frames}
use Rattle.scan_core.proofs.RunCounts.{pageblock_counted}
use Rattle.scan_core.proofs.frame_set.FrameSet.count_run.Goals as goal

pub get-requires-then-get-eq9-2 : goal.get-requires-then-get-eq9-2
get-requires-then-get-eq9-2 c = omega (arith, c.get-then-get-eq9.ensures.value, c.requires.within, some_frames c.args.order (omega (arith, c.get.ensures.low, c.get.ensures.value)) (omega (arith, c.get.ensures.high, c.get.ensures.value)), ap (λ (s : FrameNumbers). s.bound) c.self.view_is)

pub returns-then-get-eq9 : goal.returns-then-get-eq9
returns-then-get-eq9 c =
    let within : c.args.first / 512 < length c.self.inside.blocks = omega (arith, c.requires.within, some_frames c.args.order (omega (arith, c.get.ensures.low, c.get.ensures.value)) (omega (arith, c.get.ensures.high, c.get.ensures.value)), ap (λ (s : FrameNumbers). s.bound) c.self.view_is) in
    c.get-then-get-eq9-2.ensures.count
    ∙ ap (λ (n : ℕ). slice_index c.self.inside.blocks (n / 512)) c.get-then-get-eq9.ensures.value
    ∙ pageblock_counted c.self.inside.blocks (set.contains c.self.inside.numbers.members) c.args.first c.args.order c.self.invariant.counts.each (sym c.get.ensures.value ∙ c.if-get-eq9.true) c.requires.aligned within
    ∙ ap (λ (s : FrameNumbers). count_from (set.contains s.members) c.args.first (2 ^ c.args.order)) c.self.view_is

pub count_run-requires : goal.count_run-requires
count_run-requires c =
    let count = ap (λ o. 2 ^ o) c.get-3.ensures.value in
    record {
      order = c.get-3.ensures.high;
      aligned = (λ i. c.get-2.ensures.value i % count i) ∙ no_rest c.args.order (omega (arith, c.get-3.ensures.low, c.get-3.ensures.value)) (omega (arith, c.get-3.ensures.high, c.get-3.ensures.value)) c.args.first c.requires.aligned;
      within = omega (arith, count, c.get-2.ensures.value, c.requires.within, ap (λ (s : FrameNumbers). s.bound) c.self.view_is, c.self.invariant.room);
    }

pub returns : goal.returns
returns c =
    block_counted (set.contains c.self.inside.numbers.members) c.get-2.result c.args.first c.get-3.result c.args.order c.count_run.result c.count_run.ensures c.get-2.ensures.value c.get-3.ensures.value
    ∙ ap (λ (s : FrameNumbers). count_from (set.contains s.members) c.args.first (2 ^ c.args.order)) c.self.view_is
