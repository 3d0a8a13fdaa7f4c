use Rattle.std.proofs.Common.{refl, ◌∙◌, length, length-set, ap, arith}
use Rattle.std.specs.Prelude.{slice_set}
use Rattle.frame_core.specs.FixedVec.{with_item}
use Rattle.frame_core.specs.declared.state.FrameState.TheVariants.{Holds}
use Rattle.scan_core.specs.Frames.{is_way_state}
use Rattle.scan_core.proofs.Steps as step
use Rattle.scan_core.proofs.frames.Frames.settle.Goals as goal

pub add-requires : goal.add-requires
add-requires c =
    let within = step.is_within c.self.inside c.self.invariant c.self.view_is c.args.frame is_way_state refl c.requires in
    record {
      room = step.in_sources c.self.inside c.self.invariant c.self.view_is c.args.frame within;
      block = step.in_block c.self.inside c.self.invariant c.self.view_is c.args.frame within;
      most = step.stuck_less c.self.inside c.self.invariant c.self.view_is c.args.frame within (step.way_isnt_stuck c.self.inside c.self.invariant c.self.view_is c.args.frame c.requires);
      none = step.way_isnt_source c.self.inside c.self.invariant c.self.view_is c.args.frame c.requires;
    }

pub index_mut-requires : goal.index_mut-requires
index_mut-requires c =
    omega (arith, step.is_within c.self.inside c.self.invariant c.self.view_is c.args.frame is_way_state refl c.requires, c.self.invariant.movable, c.get-index.ensures.value)

pub index_mut-requires-2 : goal.index_mut-requires-2
index_mut-requires-2 c =
    omega (arith, step.is_within c.self.inside c.self.invariant c.self.view_is c.args.frame is_way_state refl c.requires, c.get-index.ensures.value)

pub invariant_of-self : goal.invariant_of-self
invariant_of-self c =
    (step.sound_settled c.self.inside c.self.invariant c.self.view_is c.args.frame c.get-index.result c.get-index.ensures.value (with_item c.self.inside.kept c.get-index.result c.of.result) (with_item c.self.inside.movable c.get-index.result c.args.can_move) c.add.new.self.sources c.add.new.self.stuck c.args.page c.args.can_move c.requires (ap (slice_set c.self.inside.kept.items c.get-index.result) c.of.ensures) refl c.add.ensures.sources c.add.ensures.room c.add.ensures.stuck).0

pub returns : goal.returns
returns c =
    let states = (step.sound_settled c.self.inside c.self.invariant c.self.view_is c.args.frame c.get-index.result c.get-index.ensures.value (with_item c.self.inside.kept c.get-index.result c.of.result) (with_item c.self.inside.movable c.get-index.result c.args.can_move) c.add.new.self.sources c.add.new.self.stuck c.args.page c.args.can_move c.requires (ap (slice_set c.self.inside.kept.items c.get-index.result) c.of.ensures) refl c.add.ensures.sources c.add.ensures.room c.add.ensures.stuck).1 in
    record {
      page = λ i. record { states = states i; movable = slice_set (c.self.view_is i).movable (c.get-index.ensures.value i) c.args.can_move; unmovable = (c.self.view_is i).unmovable };
      frames = ap length states ∙ length-set c.args.self.now.states c.args.frame (Holds c.args.page);
    }
