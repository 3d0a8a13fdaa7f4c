use Rattle.std.proofs.Common.{refl, ◌∙◌, length, length-set, ap, arith}
use Rattle.std.specs.FinSet as set
use Rattle.std.specs.Prelude.{slice_set}
use Rattle.frame_core.specs.FixedVec.{with_item}
use Rattle.frame_core.specs.declared.state.FrameState.TheVariants.{Source}
use Rattle.scan_core.specs.Frames.{is_holding_state}
use Rattle.scan_core.proofs.Steps as step
use Rattle.scan_core.proofs.frames.Frames.to_source.Goals as goal

pub remove-requires : goal.remove-requires
remove-requires c =
    omega (arith, step.in_sources c.self.inside c.self.invariant c.self.view_is c.args.frame (step.is_within c.self.inside c.self.invariant c.self.view_is c.args.frame is_holding_state refl c.requires.page), c.get.ensures.value)

pub index_mut-requires : goal.index_mut-requires
index_mut-requires c =
    omega (arith, step.is_within c.self.inside c.self.invariant c.self.view_is c.args.frame is_holding_state refl c.requires.page, c.get-2.ensures.value)

pub invariant_of-self : goal.invariant_of-self
invariant_of-self c =
    (step.sound_to_source c.self.inside c.self.invariant c.self.view_is c.args.frame c.get-2.result c.get-2.ensures.value (with_item c.self.inside.kept c.get-2.result c.of.result) c.remove.new.self c.args.page c.requires.page c.requires.movable (ap (slice_set c.self.inside.kept.items c.get-2.result) c.of.ensures) (c.remove.ensures ∙ ap (λ k. record c.self.inside.candidates.sources { members = set.remove c.self.inside.candidates.sources.members k }) c.get.ensures.value)).0

pub returns : goal.returns
returns c =
    let states = (step.sound_to_source c.self.inside c.self.invariant c.self.view_is c.args.frame c.get-2.result c.get-2.ensures.value (with_item c.self.inside.kept c.get-2.result c.of.result) c.remove.new.self c.args.page c.requires.page c.requires.movable (ap (slice_set c.self.inside.kept.items c.get-2.result) c.of.ensures) (c.remove.ensures ∙ ap (λ k. record c.self.inside.candidates.sources { members = set.remove c.self.inside.candidates.sources.members k }) c.get.ensures.value)).1 in
    record {
      state = λ i. record { states = states i; movable = (c.self.view_is i).movable; unmovable = (c.self.view_is i).unmovable };
      frames = ap length states ∙ length-set c.args.self.now.states c.args.frame (Source c.args.page);
    }
