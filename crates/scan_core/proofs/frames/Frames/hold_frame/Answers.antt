use Rattle.std.proofs.Common.{refl, ap, ◌∙◌, ◌/◌, length, length-set, slice_index, arith}
use Rattle.std.specs.FinSet as set
use Rattle.frame_core.specs.declared.state.FrameState.TheVariants.{Huge}
use Rattle.scan_core.specs.FrameSet.{FrameNumbers}
use Rattle.scan_core.specs.FrameCounts.{with_more}
use Rattle.scan_core.specs.Frames.{Frames, is_free_state}
use Rattle.scan_core.proofs.Steps as step
use Rattle.scan_core.proofs.frames.Frames.hold_frame.Goals as goal

pub remove-requires : goal.remove-requires
remove-requires c =
    record {
      within = step.in_free c.self.inside c.self.invariant c.self.view_is c.args.frame (step.is_within c.self.inside c.self.invariant c.self.view_is c.args.frame is_free_state refl c.requires);
      member = step.free_is_free c.self.inside c.self.invariant c.self.view_is c.args.frame c.requires;
    }

pub more-requires-clause-within : goal.more-requires-clause-within
more-requires-clause-within c =
    omega (arith, step.in_block c.self.inside c.self.invariant c.self.view_is c.args.frame (step.is_within c.self.inside c.self.invariant c.self.view_is c.args.frame is_free_state refl c.requires), c.get.ensures.value)

pub more-requires-clause-most : goal.more-requires-clause-most
more-requires-clause-most c =
    let within = step.is_within c.self.inside c.self.invariant c.self.view_is c.args.frame is_free_state refl c.requires in
    let less = step.stuck_less c.self.inside c.self.invariant c.self.view_is c.args.frame within (step.free_isnt_stuck c.self.inside c.self.invariant c.self.view_is c.args.frame c.requires) in
    omega (arith, less, ap (λ n. slice_index c.self.inside.candidates.stuck (n / 512)) c.get.ensures.value)

pub insert-requires : goal.insert-requires
insert-requires c =
    omega (arith, step.is_within c.self.inside c.self.invariant c.self.view_is c.args.frame is_free_state refl c.requires, c.self.invariant.held_room, c.get-2.ensures.value)

pub invariant_of-self : goal.invariant_of-self
invariant_of-self c =
    (step.frame_held c.self.inside c.self.invariant c.self.view_is c.args.frame c.insert.new.self c.remove.new.self c.more.new.self c.requires
    (c.insert.ensures ∙ ap (λ k. record c.self.inside.held { members = set.insert c.self.inside.held.members k }) c.get-2.ensures.value) c.remove.ensures
    (c.more.ensures ∙ ap (λ n. with_more c.self.inside.candidates.stuck (n / 512) 1) c.get.ensures.value)).0

pub returns : goal.returns
returns c =
    let states = (step.frame_held c.self.inside c.self.invariant c.self.view_is c.args.frame c.insert.new.self c.remove.new.self c.more.new.self c.requires
    (c.insert.ensures ∙ ap (λ k. record c.self.inside.held { members = set.insert c.self.inside.held.members k }) c.get-2.ensures.value) c.remove.ensures
    (c.more.ensures ∙ ap (λ n. with_more c.self.inside.candidates.stuck (n / 512) 1) c.get.ensures.value)).1 in
    record {
      state = λ i. record { states = states i; movable = (c.self.view_is i).movable; unmovable = (ap (λ (s : FrameNumbers). s.unmovable) c.remove.ensures ∙ ap (λ (frames : Frames). frames.unmovable) c.self.view_is) i };
      frames = ap length states ∙ length-set c.args.self.now.states c.args.frame Huge;
    }
