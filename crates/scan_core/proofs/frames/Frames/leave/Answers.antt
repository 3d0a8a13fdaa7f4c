use Rattle.std.proofs.Common.{refl, ◌∙◌, length, length-set, ap, arith}
use Rattle.std.specs.Prelude.{slice_set}
use Rattle.frame_core.specs.FixedVec.{with_item}
use Rattle.frame_core.specs.declared.state.FrameState.TheVariants.{Free}
use Rattle.scan_core.specs.FrameSet.{FrameNumbers}
use Rattle.scan_core.specs.Frames.{Frames, is_way_state}
use Rattle.scan_core.proofs.Steps as step
use Rattle.scan_core.proofs.frames.Frames.leave.Goals as goal

pub insert-requires : goal.insert-requires
insert-requires c =
    record {
      within = step.in_free c.self.inside c.self.invariant c.self.view_is c.args.other (step.is_within c.self.inside c.self.invariant c.self.view_is c.args.other is_way_state refl c.requires);
      none = step.way_isnt_free c.self.inside c.self.invariant c.self.view_is c.args.other c.requires;
    }

pub index_mut-requires : goal.index_mut-requires
index_mut-requires c =
    omega (arith, step.is_within c.self.inside c.self.invariant c.self.view_is c.args.other is_way_state refl c.requires, c.get.ensures.value)

pub invariant_of-self : goal.invariant_of-self
invariant_of-self c =
    (step.sound_left c.self.inside c.self.invariant c.self.view_is c.args.other c.get.result c.get.ensures.value (with_item c.self.inside.kept c.get.result c.of.result) c.insert.new.self c.requires (ap (slice_set c.self.inside.kept.items c.get.result) c.of.ensures) c.insert.ensures).0

pub returns : goal.returns
returns c =
    let states = (step.sound_left c.self.inside c.self.invariant c.self.view_is c.args.other c.get.result c.get.ensures.value (with_item c.self.inside.kept c.get.result c.of.result) c.insert.new.self c.requires (ap (slice_set c.self.inside.kept.items c.get.result) c.of.ensures) c.insert.ensures).1 in
    record {
      state = λ i. record { states = states i; movable = (c.self.view_is i).movable; unmovable = (ap (λ (s : FrameNumbers). s.unmovable) c.insert.ensures ∙ ap (λ (frames : Frames). frames.unmovable) c.self.view_is) i };
      frames = ap length states ∙ length-set c.args.self.now.states c.args.other Free;
    }
