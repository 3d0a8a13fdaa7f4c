use Rattle.std.proofs.Common.{ℕ, List, ◌/◌, false, refl, ◌∙◌, length, length-set, ap, arith}
use Rattle.std.specs.Prelude.{slice_set}
use Rattle.frame_core.specs.FixedVec.{with_item}
use Rattle.frame_core.specs.declared.state.FrameState.TheVariants.{Holds}
use Rattle.scan_core.specs.FrameCounts.{recounted}
use Rattle.scan_core.specs.FrameSet.{FrameNumbers}
use Rattle.scan_core.specs.Frames.{Frames, is_free_state}
use Rattle.scan_core.proofs.Steps as step
use Rattle.scan_core.proofs.frames.Frames.fill.Goals as goal

pub remove-requires : goal.remove-requires
remove-requires c =
    record {
      within = step.in_free c.self.inside c.self.invariant c.self.view_is c.args.frame (step.is_within c.self.inside c.self.invariant c.self.view_is c.args.frame is_free_state refl c.requires.free);
      member = step.free_is_free c.self.inside c.self.invariant c.self.view_is c.args.frame c.requires.free;
    }

pub add_page-requires-clause-within : goal.add_page-requires-clause-within
add_page-requires-clause-within c =
    omega (arith, step.in_free c.self.inside c.self.invariant c.self.view_is c.args.frame (step.is_within c.self.inside c.self.invariant c.self.view_is c.args.frame is_free_state refl c.requires.free), ap (λ (s : FrameNumbers). s.bound) c.remove.ensures)

pub add-requires : goal.add-requires
add-requires c =
    let within = step.is_within c.self.inside c.self.invariant c.self.view_is c.args.frame is_free_state refl c.requires.free in
    record {
      room = step.in_sources c.self.inside c.self.invariant c.self.view_is c.args.frame within;
      block = step.in_block c.self.inside c.self.invariant c.self.view_is c.args.frame within;
      most = step.stuck_less c.self.inside c.self.invariant c.self.view_is c.args.frame within (step.free_isnt_stuck c.self.inside c.self.invariant c.self.view_is c.args.frame c.requires.free);
      none = step.free_isnt_source c.self.inside c.self.invariant c.self.view_is c.args.frame c.requires.free;
    }

pub index_mut-requires : goal.index_mut-requires
index_mut-requires c =
    omega (arith, step.is_within c.self.inside c.self.invariant c.self.view_is c.args.frame is_free_state refl c.requires.free, c.self.invariant.movable, c.get-index.ensures.value)

pub index_mut-requires-2 : goal.index_mut-requires-2
index_mut-requires-2 c =
    omega (arith, step.is_within c.self.inside c.self.invariant c.self.view_is c.args.frame is_free_state refl c.requires.free, c.get-index.ensures.value)

pub invariant_of-self : goal.invariant_of-self
invariant_of-self c =
    (step.sound_filled c.self.inside c.self.invariant c.self.view_is c.args.frame c.get-index.result c.get-index.ensures.value (with_item c.self.inside.kept c.get-index.result c.of.result) (with_item c.self.inside.movable c.get-index.result c.args.movable) c.add_page.new.self c.add.new.self.sources c.add.new.self.stuck c.args.page c.args.movable c.requires.free (ap (slice_set c.self.inside.kept.items c.get-index.result) c.of.ensures) refl (ap (λ (s : FrameNumbers). s.members) c.add_page.ensures ∙ ap (λ (s : FrameNumbers). s.members) c.remove.ensures) (ap (λ (s : FrameNumbers). s.bound) c.add_page.ensures ∙ ap (λ (s : FrameNumbers). s.bound) c.remove.ensures) c.add.ensures.sources c.add.ensures.room c.add.ensures.stuck).0

pub returns : goal.returns
returns c =
    let states = (step.sound_filled c.self.inside c.self.invariant c.self.view_is c.args.frame c.get-index.result c.get-index.ensures.value (with_item c.self.inside.kept c.get-index.result c.of.result) (with_item c.self.inside.movable c.get-index.result c.args.movable) c.add_page.new.self c.add.new.self.sources c.add.new.self.stuck c.args.page c.args.movable c.requires.free (ap (slice_set c.self.inside.kept.items c.get-index.result) c.of.ensures) refl (ap (λ (s : FrameNumbers). s.members) c.add_page.ensures ∙ ap (λ (s : FrameNumbers). s.members) c.remove.ensures) (ap (λ (s : FrameNumbers). s.bound) c.add_page.ensures ∙ ap (λ (s : FrameNumbers). s.bound) c.remove.ensures) c.add.ensures.sources c.add.ensures.room c.add.ensures.stuck).1 in
    let unmovable = ap (λ (s : FrameNumbers). s.unmovable) c.add_page.ensures ∙ ap (λ (xs : List ℕ). recounted false c.args.unmovable xs (c.args.frame / 512)) (ap (λ (s : FrameNumbers). s.unmovable) c.remove.ensures ∙ ap (λ (frames : Frames). frames.unmovable) c.self.view_is) in
    record {
      page = λ i. record { states = states i; movable = slice_set (c.self.view_is i).movable (c.get-index.ensures.value i) c.args.movable; unmovable = unmovable i };
      frames = ap length states ∙ length-set c.args.self.now.states c.args.frame (Holds c.args.page);
    }
