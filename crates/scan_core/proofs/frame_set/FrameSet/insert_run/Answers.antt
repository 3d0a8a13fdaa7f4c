use Rattle.std.proofs.Common.{◌/◌, ℕ, subst, ◌<◌, ◌≤◌, ◌+◌, ◌*◌, ◌%◌, ◌^◌, length, ap, sym, ◌∙◌, arith}
use Rattle.std.specs.Prelude.{◌||◌}
use Rattle.std.specs.FinSet as set
use Rattle.scan_core.specs.FrameSet.{FrameNumbers}
use Rattle.frame_core.specs.Order.{is_aligned}
use Rattle.scan_core.specs.NumberSet.{in_run}
use Rattle.scan_core.specs.WholeRuns.{Fills}
use Rattle.scan_core.proofs.HeapSteps.{run_came}
use Rattle.scan_core.proofs.Orders.{no_rest, one_block, some_frames}
use Rattle.scan_core.proofs.FrameSets.{inserts_run}
use Rattle.scan_core.proofs.SetSteps.{more_fits, more_room, set_more}
use Rattle.scan_core.proofs.frame_set.FrameSet.insert_run.Goals as goal

pub insert_run-requires : goal.insert_run-requires
insert_run-requires c =
    let count = ap (λ o. 2 ^ o) c.get-2.ensures.value in
    record {
      order = c.get-2.ensures.high;
      aligned = (λ i. c.get.ensures.value i % count i) ∙ no_rest c.args.order c.frames-frames.ensures.low c.frames-frames.ensures.high c.args.first c.requires.aligned;
      within = omega (arith, count, c.get.ensures.value, c.requires.within, ap (λ (s : FrameNumbers). s.bound) c.self.view_is, c.self.invariant.room);
    }

pub overflow_add-self : goal.overflow_add-self
overflow_add-self c =
    let low : c.args.first < 512 * length c.self.inside.blocks = omega (arith, ap (λ (s : FrameNumbers). s.bound) c.self.view_is, c.requires.within, some_frames c.args.order c.frames-frames.ensures.low c.frames-frames.ensures.high) in
    let within : c.args.first % 512 + c.frames-frames.result ≤ 512 = omega (arith, c.frames-frames.ensures.value, one_block c.args.order c.frames-frames.ensures.low c.frames-frames.ensures.high c.args.first c.requires.aligned) in
    let count = ap (λ o. 2 ^ o) c.get-2.ensures.value ∙ sym c.frames-frames.ensures.value in
    let adds = inserts_run c.self.inside.numbers.members c.insert_run.new.self.members c.args.first c.get.result c.frames-frames.result c.get.ensures.value
    (λ k e. ap (λ (s : FrameNumbers). set.contains s.members k) c.self.view_is ∙ c.requires.none k (ap (λ m. in_run c.args.first m k) (sym c.frames-frames.ensures.value) ∙ e))
    (λ k. c.insert_run.ensures.run k ∙ ap (λ m. in_run c.get.result m k || set.contains c.self.inside.numbers.members k) count) in
    omega (arith, more_fits c.self.inside c.self.invariant c.insert_run.new.self c.args.first c.get.result c.frames-frames.result low within c.get.ensures.value adds)

pub more-requires-clause-most : goal.more-requires-clause-most
more-requires-clause-most c =
    let low : c.args.first < 512 * length c.self.inside.blocks = omega (arith, ap (λ (s : FrameNumbers). s.bound) c.self.view_is, c.requires.within, some_frames c.args.order c.frames-frames.ensures.low c.frames-frames.ensures.high) in
    let within : c.args.first % 512 + c.frames-frames.result ≤ 512 = omega (arith, c.frames-frames.ensures.value, one_block c.args.order c.frames-frames.ensures.low c.frames-frames.ensures.high c.args.first c.requires.aligned) in
    let count = ap (λ o. 2 ^ o) c.get-2.ensures.value ∙ sym c.frames-frames.ensures.value in
    let adds = inserts_run c.self.inside.numbers.members c.insert_run.new.self.members c.args.first c.get.result c.frames-frames.result c.get.ensures.value
    (λ k e. ap (λ (s : FrameNumbers). set.contains s.members k) c.self.view_is ∙ c.requires.none k (ap (λ m. in_run c.args.first m k) (sym c.frames-frames.ensures.value) ∙ e))
    (λ k. c.insert_run.ensures.run k ∙ ap (λ m. in_run c.get.result m k || set.contains c.self.inside.numbers.members k) count) in
    more_room c.self.inside c.self.invariant c.insert_run.new.self c.args.first c.get-3.result c.frames-frames.result low within c.get-3.ensures.value adds

pub insert-requires : goal.insert-requires
insert-requires c =
    record {
      «open» = c.self.invariant.runs_open;
      order = (omega (arith, c.get-5.ensures.low), c.get-5.ensures.high);
      aligned = (λ i. is_aligned (c.get-5.ensures.value i) (c.get-4.ensures.value i)) ∙ c.requires.aligned;
      within = omega (arith, c.get-4.ensures.value, c.requires.within, some_frames c.args.order c.frames-frames.ensures.low c.frames-frames.ensures.high, ap (λ (s : FrameNumbers). s.bound) c.self.view_is, c.self.invariant.runs_blocks);
    }

pub invariant_of-self : goal.invariant_of-self
invariant_of-self c =
    let low : c.args.first < 512 * length c.self.inside.blocks = omega (arith, ap (λ (s : FrameNumbers). s.bound) c.self.view_is, c.requires.within, some_frames c.args.order c.frames-frames.ensures.low c.frames-frames.ensures.high) in
    let within : c.args.first % 512 + c.frames-frames.result ≤ 512 = omega (arith, c.frames-frames.ensures.value, one_block c.args.order c.frames-frames.ensures.low c.frames-frames.ensures.high c.args.first c.requires.aligned) in
    let count = ap (λ o. 2 ^ o) c.get-2.ensures.value ∙ sym c.frames-frames.ensures.value in
    let adds = inserts_run c.self.inside.numbers.members c.insert_run.new.self.members c.args.first c.get.result c.frames-frames.result c.get.ensures.value
    (λ k e. ap (λ (s : FrameNumbers). set.contains s.members k) c.self.view_is ∙ c.requires.none k (ap (λ m. in_run c.args.first m k) (sym c.frames-frames.ensures.value) ∙ e))
    (λ k. c.insert_run.ensures.run k ∙ ap (λ m. in_run c.get.result m k || set.contains c.self.inside.numbers.members k) count) in
    set_more c.self.inside c.self.invariant c.insert_run.new.self c.args.first c.get-3.result c.frames-frames.result low within c.get-3.ensures.value adds c.more.new.self c.insert_run.ensures.bound c.more.ensures c.insert.new.self c.insert.ensures.open c.insert.ensures.blocks
    (c.insert.ensures.whole (set.contains c.self.inside.numbers.members) (set.contains c.insert_run.new.self.members) c.self.invariant.runs
    (subst (λ (f : ℕ). Fills (set.contains c.self.inside.numbers.members) (set.contains c.insert_run.new.self.members) f (2 ^ c.get-5.result)) (sym c.get-4.ensures.value) (subst (λ (o : ℕ). Fills (set.contains c.self.inside.numbers.members) (set.contains c.insert_run.new.self.members) c.args.first (2 ^ o)) (sym c.get-5.ensures.value)
    (run_came (set.contains c.self.inside.numbers.members) (set.contains c.insert_run.new.self.members) c.args.first c.args.order (λ k. c.insert_run.ensures.run k ∙ (λ i. in_run (c.get.ensures.value i) (2 ^ c.get-2.ensures.value i) k || set.contains c.self.inside.numbers.members k))))))
    c.regroup.new.self (c.get-block.result / 512) c.get-before.result (ap (λ n. n / 512) c.get-block.ensures.value) c.get-before.ensures.count c.regroup.ensures.unmovable c.regroup.ensures.regrouped
