use Rattle.std.proofs.Common.{refl, ap, ◌∙◌, ◌/◌, length, length-set, slice_index, arith}
use Rattle.std.specs.FinSet as set
use Rattle.frame_core.specs.declared.state.FrameState.TheVariants.{Free}
use Rattle.scan_core.specs.FrameSet.{FrameNumbers}
use Rattle.scan_core.specs.FrameCounts.{with_fewer}
use Rattle.scan_core.specs.Frames.{Frames, is_huge_state}
use Rattle.scan_core.proofs.Steps as step
use Rattle.scan_core.proofs.frames.Frames.release_frame.Goals as goal

pub remove-requires : goal.remove-requires
remove-requires c =
    omega (arith, step.is_within c.self.inside c.self.invariant c.self.view_is c.args.frame is_huge_state refl c.requires, c.self.invariant.held_room, c.get.ensures.value)

pub fewer-requires-clause-within : goal.fewer-requires-clause-within
fewer-requires-clause-within c =
    omega (arith, step.in_block c.self.inside c.self.invariant c.self.view_is c.args.frame (step.is_within c.self.inside c.self.invariant c.self.view_is c.args.frame is_huge_state refl c.requires), c.get-2.ensures.value)

pub fewer-requires-clause-counted : goal.fewer-requires-clause-counted
fewer-requires-clause-counted c =
    let within = step.is_within c.self.inside c.self.invariant c.self.view_is c.args.frame is_huge_state refl c.requires in
    let some = step.stuck_some c.self.inside c.self.invariant c.self.view_is c.args.frame within (step.huge_is_stuck c.self.inside c.self.invariant c.self.view_is c.args.frame c.requires) in
    omega (arith, some, ap (λ n. slice_index c.self.inside.candidates.stuck (n / 512)) c.get-2.ensures.value)

pub insert-requires : goal.insert-requires
insert-requires c =
    record {
      within = step.in_free c.self.inside c.self.invariant c.self.view_is c.args.frame (step.is_within c.self.inside c.self.invariant c.self.view_is c.args.frame is_huge_state refl c.requires);
      none = step.huge_isnt_free c.self.inside c.self.invariant c.self.view_is c.args.frame c.requires;
    }

pub invariant_of-self : goal.invariant_of-self
invariant_of-self c =
    (step.frame_released c.self.inside c.self.invariant c.self.view_is c.args.frame c.remove.new.self c.insert.new.self c.fewer.new.self c.requires
    (c.remove.ensures ∙ ap (λ k. record c.self.inside.held { members = set.remove c.self.inside.held.members k }) c.get.ensures.value) c.insert.ensures
    (c.fewer.ensures ∙ ap (λ n. with_fewer c.self.inside.candidates.stuck (n / 512) 1) c.get-2.ensures.value)).0

pub returns : goal.returns
returns c =
    let states = (step.frame_released c.self.inside c.self.invariant c.self.view_is c.args.frame c.remove.new.self c.insert.new.self c.fewer.new.self c.requires
    (c.remove.ensures ∙ ap (λ k. record c.self.inside.held { members = set.remove c.self.inside.held.members k }) c.get.ensures.value) c.insert.ensures
    (c.fewer.ensures ∙ ap (λ n. with_fewer c.self.inside.candidates.stuck (n / 512) 1) c.get-2.ensures.value)).1 in
    record {
      state = λ i. record { states = states i; movable = (c.self.view_is i).movable; unmovable = (ap (λ (s : FrameNumbers). s.unmovable) c.insert.ensures ∙ ap (λ (frames : Frames). frames.unmovable) c.self.view_is) i };
      frames = ap length states ∙ length-set c.args.self.now.states c.args.frame Free;
    }
