use Rattle.std.proofs.Common.{◌^◌, ◌%◌, ◌/◌, ap, ◌∙◌, slice_index, arith}
use Rattle.std.specs.Prelude.{◌||◌}
use Rattle.std.specs.FinSet as set
use Rattle.scan_core.specs.Frames.{Frames}
use Rattle.scan_core.specs.FrameCounts.{with_more}
use Rattle.scan_core.specs.NumberSet.{in_run}
use Rattle.scan_core.proofs.Orders.{no_rest}
use Rattle.scan_core.proofs.Steps as step
use Rattle.scan_core.proofs.frames.Frames.hold.Goals as goal

pub remove_run-requires : goal.remove_run-requires
remove_run-requires c =
    record {
      aligned = step.block_aligned c.self.inside c.self.invariant c.self.view_is c.args.first c.args.order (step.run_block c.self.inside c.self.invariant c.self.view_is c.args.first c.args.order c.requires);
      within = omega (arith, step.block_within c.self.inside c.self.invariant c.self.view_is c.args.first c.args.order (step.run_block c.self.inside c.self.invariant c.self.view_is c.args.first c.args.order c.requires), c.self.invariant.free_room);
      all = λ n inside. step.free_is_free c.self.inside c.self.invariant c.self.view_is n (step.run_free c.self.inside c.self.invariant c.self.view_is c.args.first c.args.order c.requires n inside);
    }

pub more-requires-clause-within : goal.more-requires-clause-within
more-requires-clause-within c = omega (arith, step.run_counted c.self.inside c.self.invariant c.self.view_is c.args.first c.args.order c.frames.ensures.low c.frames.ensures.high (step.run_block c.self.inside c.self.invariant c.self.view_is c.args.first c.args.order c.requires), c.get.ensures.value)

pub more-requires-clause-most : goal.more-requires-clause-most
more-requires-clause-most c =
    omega (arith, step.run_room c.self.inside c.self.invariant c.self.view_is c.args.first c.args.order c.frames.ensures.low c.frames.ensures.high c.requires, c.frames.ensures.value, ap (λ n. slice_index c.self.inside.candidates.stuck (n / 512)) c.get.ensures.value)

pub insert_run-requires : goal.insert_run-requires
insert_run-requires c =
    let count = ap (λ o. 2 ^ o) c.get-3.ensures.value in
    record {
      order = c.get-3.ensures.high;
      aligned = (λ i. c.get-2.ensures.value i % count i) ∙ no_rest c.args.order c.frames.ensures.low c.frames.ensures.high c.args.first (step.block_aligned c.self.inside c.self.invariant c.self.view_is c.args.first c.args.order (step.run_block c.self.inside c.self.invariant c.self.view_is c.args.first c.args.order c.requires));
      within = omega (arith, count, c.get-2.ensures.value, step.block_within c.self.inside c.self.invariant c.self.view_is c.args.first c.args.order (step.run_block c.self.inside c.self.invariant c.self.view_is c.args.first c.args.order c.requires), c.self.invariant.held_room);
    }

pub invariant_of-self : goal.invariant_of-self
invariant_of-self c =
    (step.block_held c.self.inside c.self.invariant c.self.view_is c.args.first c.args.order c.frames.ensures.low c.frames.ensures.high c.insert_run.new.self c.remove_run.new.self c.more.new.self c.requires
    (λ n. c.insert_run.ensures.run n ∙ (λ i. in_run (c.get-2.ensures.value i) (2 ^ c.get-3.ensures.value i) n || set.contains c.self.inside.held.members n)) c.insert_run.ensures.bound c.remove_run.ensures.members c.remove_run.ensures.bound
    (c.more.ensures ∙ (λ i. with_more c.self.inside.candidates.stuck (c.get.ensures.value i / 512) (c.frames.ensures.value i)))).0

pub returns : goal.returns
returns c =
    let states = (step.block_held c.self.inside c.self.invariant c.self.view_is c.args.first c.args.order c.frames.ensures.low c.frames.ensures.high c.insert_run.new.self c.remove_run.new.self c.more.new.self c.requires
    (λ n. c.insert_run.ensures.run n ∙ (λ i. in_run (c.get-2.ensures.value i) (2 ^ c.get-3.ensures.value i) n || set.contains c.self.inside.held.members n)) c.insert_run.ensures.bound c.remove_run.ensures.members c.remove_run.ensures.bound
    (c.more.ensures ∙ (λ i. with_more c.self.inside.candidates.stuck (c.get.ensures.value i / 512) (c.frames.ensures.value i)))).1 in
    λ i. record { states = states i; movable = (c.self.view_is i).movable; unmovable = (c.remove_run.ensures.unmovable ∙ ap (λ (frames : Frames). frames.unmovable) c.self.view_is) i }
