use Rattle.std.proofs.Common.{◌^◌, ◌%◌, ◌/◌, ap, ◌∙◌, slice_index, arith}
use Rattle.std.specs.Prelude.{not, ◌&&◌}
use Rattle.std.specs.FinSet as set
use Rattle.scan_core.specs.FrameCounts.{with_fewer}
use Rattle.scan_core.specs.Frames.{Frames, huge_at}
use Rattle.scan_core.specs.NumberSet.{in_run}
use Rattle.scan_core.proofs.FrameSets.{all_pass}
use Rattle.scan_core.proofs.Orders.{no_rest}
use Rattle.scan_core.proofs.Steps as step
use Rattle.scan_core.proofs.frames.Frames.release.Goals as goal

pub remove_run-requires : goal.remove_run-requires
remove_run-requires c =
    let count = ap (λ o. 2 ^ o) c.get-2.ensures.value in
    record {
      order = c.get-2.ensures.high;
      aligned = (λ i. c.get.ensures.value i % count i) ∙ no_rest c.args.order (omega (arith, c.get-2.ensures.low, c.get-2.ensures.value)) (omega (arith, c.get-2.ensures.high, c.get-2.ensures.value)) c.args.first (step.block_aligned c.self.inside c.self.invariant c.self.view_is c.args.first c.args.order c.requires.block);
      within = omega (arith, count, c.get.ensures.value, step.block_within c.self.inside c.self.invariant c.self.view_is c.args.first c.args.order c.requires.block, c.self.invariant.held_room);
    }

pub fewer-requires-clause-within : goal.fewer-requires-clause-within
fewer-requires-clause-within c = omega (arith, step.run_counted c.self.inside c.self.invariant c.self.view_is c.args.first c.args.order c.frames.ensures.low c.frames.ensures.high c.requires.block, c.get-3.ensures.value)

pub fewer-requires-clause-counted : goal.fewer-requires-clause-counted
fewer-requires-clause-counted c =
    omega (arith, step.run_stuck c.self.inside c.self.invariant c.self.view_is c.args.first c.args.order c.frames.ensures.low c.frames.ensures.high c.requires.block c.requires.huge, c.frames.ensures.value, ap (λ n. slice_index c.self.inside.candidates.stuck (n / 512)) c.get-3.ensures.value)

pub insert_run-requires : goal.insert_run-requires
insert_run-requires c =
    record {
      aligned = step.block_aligned c.self.inside c.self.invariant c.self.view_is c.args.first c.args.order c.requires.block;
      within = omega (arith, step.block_within c.self.inside c.self.invariant c.self.view_is c.args.first c.args.order c.requires.block, c.self.invariant.free_room);
      none = λ n inside. step.huge_isnt_free c.self.inside c.self.invariant c.self.view_is n (all_pass (huge_at c.args.self.now.states) c.args.first (2 ^ c.args.order) c.requires.huge n inside);
    }

pub invariant_of-self : goal.invariant_of-self
invariant_of-self c =
    (step.block_released c.self.inside c.self.invariant c.self.view_is c.args.first c.args.order c.frames.ensures.low c.frames.ensures.high c.remove_run.new.self c.insert_run.new.self c.fewer.new.self c.requires.block c.requires.huge
    (λ n. c.remove_run.ensures.run n ∙ (λ i. not (in_run (c.get.ensures.value i) (2 ^ c.get-2.ensures.value i) n) && set.contains c.self.inside.held.members n)) c.remove_run.ensures.bound c.insert_run.ensures.members c.insert_run.ensures.bound
    (c.fewer.ensures ∙ (λ i. with_fewer c.self.inside.candidates.stuck (c.get-3.ensures.value i / 512) (c.frames.ensures.value i)))).0

pub returns : goal.returns
returns c =
    let states = (step.block_released c.self.inside c.self.invariant c.self.view_is c.args.first c.args.order c.frames.ensures.low c.frames.ensures.high c.remove_run.new.self c.insert_run.new.self c.fewer.new.self c.requires.block c.requires.huge
    (λ n. c.remove_run.ensures.run n ∙ (λ i. not (in_run (c.get.ensures.value i) (2 ^ c.get-2.ensures.value i) n) && set.contains c.self.inside.held.members n)) c.remove_run.ensures.bound c.insert_run.ensures.members c.insert_run.ensures.bound
    (c.fewer.ensures ∙ (λ i. with_fewer c.self.inside.candidates.stuck (c.get-3.ensures.value i / 512) (c.frames.ensures.value i)))).1 in
    λ i. record { states = states i; movable = (c.self.view_is i).movable; unmovable = (c.insert_run.ensures.unmovable ∙ ap (λ (frames : Frames). frames.unmovable) c.self.view_is) i }
