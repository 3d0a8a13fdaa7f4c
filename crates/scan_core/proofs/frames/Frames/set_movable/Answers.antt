use Rattle.std.proofs.Common.{refl, sym, ◌∙◌, ◌/◌, not, ap, arith}
use Rattle.frame_core.specs.FixedVec.{with_item}
use Rattle.scan_core.specs.FrameCounts.{recounted}
use Rattle.scan_core.specs.Frames.{is_holding_state}
use Rattle.scan_core.proofs.Masking.{other, twice}
use Rattle.scan_core.proofs.Steps as step
use Rattle.scan_core.proofs.frames.Frames.set_movable.Goals as goal

pub index-could_move-requires : goal.index-could_move-requires
index-could_move-requires c = omega (arith, step.is_within c.self.inside c.self.invariant c.self.view_is c.args.frame is_holding_state refl c.requires, c.self.invariant.movable, c.get-index.ensures.value)

pub index_mut-requires : goal.index_mut-requires
index_mut-requires c = omega (arith, step.is_within c.self.inside c.self.invariant c.self.view_is c.args.frame is_holding_state refl c.requires, c.self.invariant.movable, c.get-index.ensures.value)

pub turn-requires : goal.turn-requires
turn-requires c =
    let within = step.is_within c.self.inside c.self.invariant c.self.view_is c.args.frame is_holding_state refl c.requires in
    let flag = sym (step.flag_is c.self.inside c.self.invariant c.self.view_is c.args.frame c.get-index.result c.index-could_move.result.now c.get-index.ensures.value (step.is_within c.self.inside c.self.invariant c.self.view_is c.args.frame is_holding_state refl c.requires) c.index-could_move.ensures) ∙ other c.index-could_move.result.now c.args.movable c.if-could_move-movable.true in record {
      room = step.in_sources c.self.inside c.self.invariant c.self.view_is c.args.frame within;
      block = step.in_block c.self.inside c.self.invariant c.self.view_is c.args.frame within;
      some = λ e. step.stuck_some c.self.inside c.self.invariant c.self.view_is c.args.frame within (step.page_is_stuck c.self.inside c.self.invariant c.self.view_is c.args.frame c.requires ∙ ap not flag ∙ ap (λ b. not (not b)) e);
      less = λ e. step.stuck_less c.self.inside c.self.invariant c.self.view_is c.args.frame within (step.page_is_stuck c.self.inside c.self.invariant c.self.view_is c.args.frame c.requires ∙ ap not flag ∙ ap (λ b. not (not b)) e);
      is = step.page_is_source c.self.inside c.self.invariant c.self.view_is c.args.frame c.requires ∙ flag;
    }

pub invariant_of-self : goal.invariant_of-self
invariant_of-self c =
    let flag = sym (step.flag_is c.self.inside c.self.invariant c.self.view_is c.args.frame c.get-index.result c.index-could_move.result.now c.get-index.ensures.value (step.is_within c.self.inside c.self.invariant c.self.view_is c.args.frame is_holding_state refl c.requires) c.index-could_move.ensures) ∙ other c.index-could_move.result.now c.args.movable c.if-could_move-movable.true in
    step.sound_said c.self.inside c.self.invariant c.self.view_is c.args.frame c.get-index.result c.get-index.ensures.value (with_item c.self.inside.movable c.get-index.result c.args.movable) c.turn.new.self.sources c.turn.new.self.stuck c.args.movable c.requires refl c.turn.ensures.sources c.turn.ensures.room
    (c.turn.ensures.stuck ∙ ap (λ b. recounted b (not c.args.movable) c.self.inside.candidates.stuck (c.args.frame / 512)) (sym (ap not flag ∙ twice c.args.movable)))
