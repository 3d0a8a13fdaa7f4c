use Rattle.std.proofs.Common.{ℕ, List, ◌/◌, false, refl, sym, ◌∙◌, not, length, length-set, ap, arith}
use Rattle.std.specs.Prelude.{slice_set}
use Rattle.frame_core.specs.FixedVec.{with_item}
use Rattle.frame_core.specs.declared.state.FrameState.TheVariants.{Free}
use Rattle.scan_core.specs.FrameCounts.{recounted}
use Rattle.scan_core.specs.FrameSet.{FrameNumbers}
use Rattle.scan_core.specs.Frames.{Frames, is_holding_state}
use Rattle.scan_core.proofs.Steps as step
use Rattle.scan_core.proofs.frames.Frames.empty.Goals as goal

pub insert-requires : goal.insert-requires
insert-requires c =
    record {
      within = step.in_free c.self.inside c.self.invariant c.self.view_is c.args.frame (step.is_within c.self.inside c.self.invariant c.self.view_is c.args.frame is_holding_state refl c.requires.page);
      none = step.page_isnt_free c.self.inside c.self.invariant c.self.view_is c.args.frame c.requires.page;
    }

pub remove_page-requires-clause-within : goal.remove_page-requires-clause-within
remove_page-requires-clause-within c =
    omega (arith, step.in_free c.self.inside c.self.invariant c.self.view_is c.args.frame (step.is_within c.self.inside c.self.invariant c.self.view_is c.args.frame is_holding_state refl c.requires.page), ap (λ (s : FrameNumbers). s.bound) c.insert.ensures)

pub index-requires : goal.index-requires
index-requires c =
    omega (arith, step.is_within c.self.inside c.self.invariant c.self.view_is c.args.frame is_holding_state refl c.requires.page, c.self.invariant.movable, c.get-index.ensures.value)

pub remove-requires : goal.remove-requires
remove-requires c =
    let within = step.is_within c.self.inside c.self.invariant c.self.view_is c.args.frame is_holding_state refl c.requires.page in
    let read = step.flag_is c.self.inside c.self.invariant c.self.view_is c.args.frame c.get-index.result c.index.result.now c.get-index.ensures.value (step.is_within c.self.inside c.self.invariant c.self.view_is c.args.frame is_holding_state refl c.requires.page) c.index.ensures in
    record {
      room = step.in_sources c.self.inside c.self.invariant c.self.view_is c.args.frame within;
      block = step.in_block c.self.inside c.self.invariant c.self.view_is c.args.frame within;
      some = λ e. step.stuck_some c.self.inside c.self.invariant c.self.view_is c.args.frame within (step.page_is_stuck c.self.inside c.self.invariant c.self.view_is c.args.frame c.requires.page ∙ ap not (sym read ∙ e));
      is = step.page_is_source c.self.inside c.self.invariant c.self.view_is c.args.frame c.requires.page ∙ sym read;
    }

pub index_mut-requires : goal.index_mut-requires
index_mut-requires c =
    omega (arith, step.is_within c.self.inside c.self.invariant c.self.view_is c.args.frame is_holding_state refl c.requires.page, c.get-index.ensures.value)

pub invariant_of-self : goal.invariant_of-self
invariant_of-self c =
    (step.sound_emptied c.self.inside c.self.invariant c.self.view_is c.args.frame c.get-index.result c.get-index.ensures.value (with_item c.self.inside.kept c.get-index.result c.of.result) c.remove_page.new.self c.remove.new.self.sources c.remove.new.self.stuck c.index.result.now c.requires.page (ap (slice_set c.self.inside.kept.items c.get-index.result) c.of.ensures) (ap (λ (s : FrameNumbers). s.members) c.remove_page.ensures ∙ ap (λ (s : FrameNumbers). s.members) c.insert.ensures) (ap (λ (s : FrameNumbers). s.bound) c.remove_page.ensures ∙ ap (λ (s : FrameNumbers). s.bound) c.insert.ensures) (step.flag_is c.self.inside c.self.invariant c.self.view_is c.args.frame c.get-index.result c.index.result.now c.get-index.ensures.value (step.is_within c.self.inside c.self.invariant c.self.view_is c.args.frame is_holding_state refl c.requires.page) c.index.ensures) c.remove.ensures.sources c.remove.ensures.room c.remove.ensures.stuck).0

pub returns : goal.returns
returns c =
    let states = (step.sound_emptied c.self.inside c.self.invariant c.self.view_is c.args.frame c.get-index.result c.get-index.ensures.value (with_item c.self.inside.kept c.get-index.result c.of.result) c.remove_page.new.self c.remove.new.self.sources c.remove.new.self.stuck c.index.result.now c.requires.page (ap (slice_set c.self.inside.kept.items c.get-index.result) c.of.ensures) (ap (λ (s : FrameNumbers). s.members) c.remove_page.ensures ∙ ap (λ (s : FrameNumbers). s.members) c.insert.ensures) (ap (λ (s : FrameNumbers). s.bound) c.remove_page.ensures ∙ ap (λ (s : FrameNumbers). s.bound) c.insert.ensures) (step.flag_is c.self.inside c.self.invariant c.self.view_is c.args.frame c.get-index.result c.index.result.now c.get-index.ensures.value (step.is_within c.self.inside c.self.invariant c.self.view_is c.args.frame is_holding_state refl c.requires.page) c.index.ensures) c.remove.ensures.sources c.remove.ensures.room c.remove.ensures.stuck).1 in
    let unmovable = ap (λ (s : FrameNumbers). s.unmovable) c.remove_page.ensures ∙ ap (λ (xs : List ℕ). recounted c.args.unmovable false xs (c.args.frame / 512)) (ap (λ (s : FrameNumbers). s.unmovable) c.insert.ensures ∙ ap (λ (frames : Frames). frames.unmovable) c.self.view_is) in
    record {
      state = λ i. record { states = states i; movable = (c.self.view_is i).movable; unmovable = unmovable i };
      frames = ap length states ∙ length-set c.args.self.now.states c.args.frame Free;
    }
