use Rattle.std.proofs.Common.{refl, ◌∙◌, length, length-set, ap, arith}
use Rattle.std.specs.Prelude.{slice_set}
use Rattle.frame_core.specs.FixedVec.{with_item}
use Rattle.frame_core.specs.declared.state.FrameState.TheVariants.{Target}
use Rattle.scan_core.specs.FrameSet.{FrameNumbers}
use Rattle.scan_core.specs.Frames.{Frames, is_free_state}
use Rattle.scan_core.proofs.Steps as step
use Rattle.scan_core.proofs.frames.Frames.to_target.Goals as goal

pub remove-requires : goal.remove-requires
remove-requires c =
    record {
      within = step.in_free c.self.inside c.self.invariant c.self.view_is c.args.frame (step.is_within c.self.inside c.self.invariant c.self.view_is c.args.frame is_free_state refl c.requires);
      member = step.free_is_free c.self.inside c.self.invariant c.self.view_is c.args.frame c.requires;
    }

pub index_mut-requires : goal.index_mut-requires
index_mut-requires c =
    omega (arith, step.is_within c.self.inside c.self.invariant c.self.view_is c.args.frame is_free_state refl c.requires, c.get.ensures.value)

pub invariant_of-self : goal.invariant_of-self
invariant_of-self c =
    (step.sound_to_target c.self.inside c.self.invariant c.self.view_is c.args.frame c.get.result c.get.ensures.value (with_item c.self.inside.kept c.get.result c.of.result) c.remove.new.self c.args.page c.requires (ap (slice_set c.self.inside.kept.items c.get.result) c.of.ensures) c.remove.ensures).0

pub returns : goal.returns
returns c =
    let states = (step.sound_to_target c.self.inside c.self.invariant c.self.view_is c.args.frame c.get.result c.get.ensures.value (with_item c.self.inside.kept c.get.result c.of.result) c.remove.new.self c.args.page c.requires (ap (slice_set c.self.inside.kept.items c.get.result) c.of.ensures) c.remove.ensures).1 in
    record {
      state = λ i. record { states = states i; movable = (c.self.view_is i).movable; unmovable = (ap (λ (s : FrameNumbers). s.unmovable) c.remove.ensures ∙ ap (λ (frames : Frames). frames.unmovable) c.self.view_is) i };
      frames = ap length states ∙ length-set c.args.self.now.states c.args.frame (Target c.args.page);
    }
