use Rattle.std.proofs.Common.{◌≡◌, ◌/◌, ℕ, subst, ◌<◌, ◌≤◌, ◌+◌, ◌*◌, ◌%◌, ◌^◌, length, ap, sym, ◌∙◌, arith}
use Rattle.std.specs.Prelude.{slice_index, not, ◌&&◌}
use Rattle.std.specs.FinSet as set
use Rattle.scan_core.specs.FrameSet.{FrameNumbers}
use Rattle.frame_core.specs.Order.{is_aligned}
use Rattle.scan_core.specs.NumberSet.{in_run}
use Rattle.scan_core.specs.WholeRuns.{Empties}
use Rattle.scan_core.proofs.HeapSteps.{run_went}
use Rattle.scan_core.proofs.Orders.{no_rest, one_block, some_frames}
use Rattle.scan_core.proofs.FrameSets.{removes_run}
use Rattle.scan_core.proofs.SetSteps.{fewer_has, fewer_room, set_fewer}
use Rattle.scan_core.proofs.frame_set.FrameSet.remove_run.Goals as goal

pub remove_run-requires : goal.remove_run-requires
remove_run-requires c =
    let count = ap (λ o. 2 ^ o) c.get-2.ensures.value in
    record {
      order = c.get-2.ensures.high;
      aligned = (λ i. c.get.ensures.value i % count i) ∙ no_rest c.args.order c.frames-frames.ensures.low c.frames-frames.ensures.high c.args.first c.requires.aligned;
      within = omega (arith, count, c.get.ensures.value, c.requires.within, ap (λ (s : FrameNumbers). s.bound) c.self.view_is, c.self.invariant.room);
    }

pub overflow_sub-self : goal.overflow_sub-self
overflow_sub-self c =
    let low : c.args.first < 512 * length c.self.inside.blocks = omega (arith, ap (λ (s : FrameNumbers). s.bound) c.self.view_is, c.requires.within, some_frames c.args.order c.frames-frames.ensures.low c.frames-frames.ensures.high) in
    let within : c.args.first % 512 + c.frames-frames.result ≤ 512 = omega (arith, c.frames-frames.ensures.value, one_block c.args.order c.frames-frames.ensures.low c.frames-frames.ensures.high c.args.first c.requires.aligned) in
    let count = ap (λ o. 2 ^ o) c.get-2.ensures.value ∙ sym c.frames-frames.ensures.value in
    let adds = removes_run c.self.inside.numbers.members c.remove_run.new.self.members c.args.first c.get.result c.frames-frames.result c.get.ensures.value
    (λ k e. ap (λ (s : FrameNumbers). set.contains s.members k) c.self.view_is ∙ c.requires.all k (ap (λ m. in_run c.args.first m k) (sym c.frames-frames.ensures.value) ∙ e))
    (λ k. c.remove_run.ensures.run k ∙ ap (λ m. not (in_run c.get.result m k) && set.contains c.self.inside.numbers.members k) count) in
    fewer_has c.self.inside c.self.invariant c.remove_run.new.self c.args.first c.get.result c.frames-frames.result low within c.get.ensures.value adds

pub fewer-requires-clause-counted : goal.fewer-requires-clause-counted
fewer-requires-clause-counted c =
    let low : c.args.first < 512 * length c.self.inside.blocks = omega (arith, ap (λ (s : FrameNumbers). s.bound) c.self.view_is, c.requires.within, some_frames c.args.order c.frames-frames.ensures.low c.frames-frames.ensures.high) in
    let within : c.args.first % 512 + c.frames-frames.result ≤ 512 = omega (arith, c.frames-frames.ensures.value, one_block c.args.order c.frames-frames.ensures.low c.frames-frames.ensures.high c.args.first c.requires.aligned) in
    let count = ap (λ o. 2 ^ o) c.get-2.ensures.value ∙ sym c.frames-frames.ensures.value in
    let adds = removes_run c.self.inside.numbers.members c.remove_run.new.self.members c.args.first c.get.result c.frames-frames.result c.get.ensures.value
    (λ k e. ap (λ (s : FrameNumbers). set.contains s.members k) c.self.view_is ∙ c.requires.all k (ap (λ m. in_run c.args.first m k) (sym c.frames-frames.ensures.value) ∙ e))
    (λ k. c.remove_run.ensures.run k ∙ ap (λ m. not (in_run c.get.result m k) && set.contains c.self.inside.numbers.members k) count) in
    fewer_room c.self.inside c.self.invariant c.remove_run.new.self c.args.first c.get-3.result c.frames-frames.result low within c.get-3.ensures.value adds

pub overflow_sub-before : goal.overflow_sub-before
overflow_sub-before c =
    let low : c.args.first < 512 * length c.self.inside.blocks = omega (arith, ap (λ (s : FrameNumbers). s.bound) c.self.view_is, c.requires.within, some_frames c.args.order c.frames-frames.ensures.low c.frames-frames.ensures.high) in
    let within : c.args.first % 512 + c.frames-frames.result ≤ 512 = omega (arith, c.frames-frames.ensures.value, one_block c.args.order c.frames-frames.ensures.low c.frames-frames.ensures.high c.args.first c.requires.aligned) in
    let count = ap (λ o. 2 ^ o) c.get-2.ensures.value ∙ sym c.frames-frames.ensures.value in
    let adds = removes_run c.self.inside.numbers.members c.remove_run.new.self.members c.args.first c.get.result c.frames-frames.result c.get.ensures.value
    (λ k e. ap (λ (s : FrameNumbers). set.contains s.members k) c.self.view_is ∙ c.requires.all k (ap (λ m. in_run c.args.first m k) (sym c.frames-frames.ensures.value) ∙ e))
    (λ k. c.remove_run.ensures.run k ∙ ap (λ m. not (in_run c.get.result m k) && set.contains c.self.inside.numbers.members k) count) in
    let room = fewer_room c.self.inside c.self.invariant c.remove_run.new.self c.args.first c.get-3.result c.frames-frames.result low within c.get-3.ensures.value adds in
    let at : c.get-before.result ≡ slice_index c.self.inside.blocks (c.get-3.result / 512) = c.get-before.ensures.count ∙ ap (λ n. slice_index c.self.inside.blocks (n / 512)) (c.get-block.ensures.value ∙ sym c.get-3.ensures.value) in
    omega (arith, room, at)

pub remove-requires : goal.remove-requires
remove-requires c =
    record {
      «open» = c.self.invariant.runs_open;
      order = (omega (arith, c.get-5.ensures.low), c.get-5.ensures.high);
      aligned = (λ i. is_aligned (c.get-5.ensures.value i) (c.get-4.ensures.value i)) ∙ c.requires.aligned;
      within = omega (arith, c.get-4.ensures.value, c.requires.within, some_frames c.args.order c.frames-frames.ensures.low c.frames-frames.ensures.high, ap (λ (s : FrameNumbers). s.bound) c.self.view_is, c.self.invariant.runs_blocks);
    }

pub invariant_of-self : goal.invariant_of-self
invariant_of-self c =
    let low : c.args.first < 512 * length c.self.inside.blocks = omega (arith, ap (λ (s : FrameNumbers). s.bound) c.self.view_is, c.requires.within, some_frames c.args.order c.frames-frames.ensures.low c.frames-frames.ensures.high) in
    let within : c.args.first % 512 + c.frames-frames.result ≤ 512 = omega (arith, c.frames-frames.ensures.value, one_block c.args.order c.frames-frames.ensures.low c.frames-frames.ensures.high c.args.first c.requires.aligned) in
    let count = ap (λ o. 2 ^ o) c.get-2.ensures.value ∙ sym c.frames-frames.ensures.value in
    let adds = removes_run c.self.inside.numbers.members c.remove_run.new.self.members c.args.first c.get.result c.frames-frames.result c.get.ensures.value
    (λ k e. ap (λ (s : FrameNumbers). set.contains s.members k) c.self.view_is ∙ c.requires.all k (ap (λ m. in_run c.args.first m k) (sym c.frames-frames.ensures.value) ∙ e))
    (λ k. c.remove_run.ensures.run k ∙ ap (λ m. not (in_run c.get.result m k) && set.contains c.self.inside.numbers.members k) count) in
    set_fewer c.self.inside c.self.invariant c.remove_run.new.self c.args.first c.get-3.result c.frames-frames.result low within c.get-3.ensures.value adds c.fewer.new.self c.remove_run.ensures.bound c.fewer.ensures c.remove.new.self c.remove.ensures.open c.remove.ensures.blocks
    (c.remove.ensures.whole (set.contains c.self.inside.numbers.members) (set.contains c.remove_run.new.self.members) c.self.invariant.runs
    (subst (λ (f : ℕ). Empties (set.contains c.self.inside.numbers.members) (set.contains c.remove_run.new.self.members) f (2 ^ c.get-5.result)) (sym c.get-4.ensures.value) (subst (λ (o : ℕ). Empties (set.contains c.self.inside.numbers.members) (set.contains c.remove_run.new.self.members) c.args.first (2 ^ o)) (sym c.get-5.ensures.value)
    (run_went (set.contains c.self.inside.numbers.members) (set.contains c.remove_run.new.self.members) c.args.first c.args.order (λ k inside. ap (λ (s : FrameNumbers). set.contains s.members k) c.self.view_is ∙ c.requires.all k inside) (λ k. c.remove_run.ensures.run k ∙ (λ i. not (in_run (c.get.ensures.value i) (2 ^ c.get-2.ensures.value i) k) && set.contains c.self.inside.numbers.members k))))))
    c.regroup.new.self (c.get-block.result / 512) c.get-before.result (ap (λ n. n / 512) c.get-block.ensures.value) c.get-before.ensures.count c.regroup.ensures.unmovable c.regroup.ensures.regrouped
