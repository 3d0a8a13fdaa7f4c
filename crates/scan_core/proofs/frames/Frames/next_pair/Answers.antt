use Rattle.std.proofs.Common.{◌∙◌, sym, ap, arith, subst}
use Rattle.scan_core.specs.Frames.{Frames, free_at}
use Rattle.scan_core.specs.Pairs.{Finds, next_step, step_from, step_to}
use Rattle.scan_core.specs.Seen.{seen}
use Rattle.scan_core.specs.declared.fingers.Fingers.{Fingers}
use Rattle.scan_core.specs.declared.fingers.Step.{Step}
use Rattle.scan_core.specs.declared.fingers.Step.TheVariants.{Pair, Met}
use Rattle.scan_core.proofs.Pairing.{no_source, no_target, pair_found, target_between}
use Rattle.scan_core.proofs.Sounding.{frames_kept, source_found_in, target_found_in}
use Rattle.scan_core.proofs.frames.Frames.next_pair.Goals as goal

pub next_source-requires : goal.next_source-requires
next_source-requires c =
    let same = frames_kept c.self.inside c.self.invariant c.self.view_is in
    record {
      few = omega (arith, c.requires.high, same, c.self.invariant.few);
      room = omega (arith, c.requires.high, same, c.self.invariant.sources_room);
      marks = omega (arith, c.requires.high, c.requires.marks);
    }

pub highest_target-requires : goal.highest_target-requires
highest_target-requires c =
    let same = frames_kept c.self.inside c.self.invariant c.self.view_is in
    record {
      few = omega (arith, c.requires.high, same, c.self.invariant.few);
      room = omega (arith, c.requires.high, same, c.self.invariant.free_room, c.numbers-free.ensures.bound);
      marks = omega (arith, c.requires.high, c.requires.marks);
    }

pub returns-in_default-clause-pair : goal.returns-in_default-clause-pair
returns-in_default-clause-pair c =
    subst (λ (frames : Frames). Finds frames.states frames.movable c.args.marks.now c.args.fingers.now Met) c.self.view_is
    (no_source (seen c.self.inside.held.members c.self.inside.kept.items) c.self.inside.movable.items c.args.marks.now c.args.fingers.now (sym (c.in_default.ensures ∙ source_found_in c.self.inside c.self.invariant c.args.marks.now c.args.fingers.now)))

pub returns-in_default-clause-step : goal.returns-in_default-clause-step
returns-in_default-clause-step c =
    ap (step_from (seen c.self.inside.held.members c.self.inside.kept.items) c.args.marks.now c.args.fingers.now) (c.in_default.ensures ∙ source_found_in c.self.inside c.self.invariant c.args.marks.now c.args.fingers.now)
    ∙ ap (λ (frames : Frames). next_step frames.states frames.movable c.args.marks.now c.args.fingers.now) c.self.view_is

pub returns-in_default-highest_target-clause-pair : goal.returns-in_default-highest_target-clause-pair
returns-in_default-highest_target-clause-pair c =
    subst (λ (frames : Frames). Finds frames.states frames.movable c.args.marks.now c.args.fingers.now Met) c.self.view_is
    (no_target (seen c.self.inside.held.members c.self.inside.kept.items) c.self.inside.movable.items c.args.marks.now c.args.fingers.now c.in-Some.source (sym (c.in-Some.ensures ∙ source_found_in c.self.inside c.self.invariant c.args.marks.now c.args.fingers.now)) (sym (c.in_default-highest_target.ensures ∙ target_found_in c.self.inside c.self.invariant c.numbers-free.result.now.members c.numbers-free.ensures.members c.args.marks.now c.args.fingers.now c.in-Some.source c.get-low.result c.get-low.ensures.value)))

pub returns-in_default-highest_target-clause-step : goal.returns-in_default-highest_target-clause-step
returns-in_default-highest_target-clause-step c =
    ap (step_to c.in-Some.source) (c.in_default-highest_target.ensures ∙ target_found_in c.self.inside c.self.invariant c.numbers-free.result.now.members c.numbers-free.ensures.members c.args.marks.now c.args.fingers.now c.in-Some.source c.get-low.result c.get-low.ensures.value)
    ∙ ap (step_from (seen c.self.inside.held.members c.self.inside.kept.items) c.args.marks.now c.args.fingers.now) (c.in-Some.ensures ∙ source_found_in c.self.inside c.self.invariant c.args.marks.now c.args.fingers.now)
    ∙ ap (λ (frames : Frames). next_step frames.states frames.movable c.args.marks.now c.args.fingers.now) c.self.view_is

pub returns-clause-pair : goal.returns-clause-pair
returns-clause-pair c =
    subst (λ (step : Step). Finds c.args.self.now.states c.args.self.now.movable c.args.marks.now c.args.fingers.now step) (sym c.pass.ensures.step)
    (subst (λ (frames : Frames). Finds frames.states frames.movable c.args.marks.now c.args.fingers.now (Pair c.in-Some.source c.in-Some-highest_target.target)) c.self.view_is
    (pair_found (seen c.self.inside.held.members c.self.inside.kept.items) c.self.inside.movable.items c.args.marks.now c.args.fingers.now c.in-Some.source c.in-Some-highest_target.target (sym (c.in-Some.ensures ∙ source_found_in c.self.inside c.self.invariant c.args.marks.now c.args.fingers.now)) (sym (c.in-Some-highest_target.ensures ∙ target_found_in c.self.inside c.self.invariant c.numbers-free.result.now.members c.numbers-free.ensures.members c.args.marks.now c.args.fingers.now c.in-Some.source c.get-low.result c.get-low.ensures.value))))

pub returns-clause-step : goal.returns-clause-step
returns-clause-step c =
    c.pass.ensures.step
    ∙ ap (step_to c.in-Some.source) (c.in-Some-highest_target.ensures ∙ target_found_in c.self.inside c.self.invariant c.numbers-free.result.now.members c.numbers-free.ensures.members c.args.marks.now c.args.fingers.now c.in-Some.source c.get-low.result c.get-low.ensures.value)
    ∙ ap (step_from (seen c.self.inside.held.members c.self.inside.kept.items) c.args.marks.now c.args.fingers.now) (c.in-Some.ensures ∙ source_found_in c.self.inside c.self.invariant c.args.marks.now c.args.fingers.now)
    ∙ ap (λ (frames : Frames). next_step frames.states frames.movable c.args.marks.now c.args.fingers.now) c.self.view_is

pub returns-clause-low : goal.returns-clause-low
returns-clause-low c =
    let between = target_between (free_at (seen c.self.inside.held.members c.self.inside.kept.items)) c.args.marks.now c.args.fingers.now c.in-Some.source c.in-Some-highest_target.target (sym (c.in-Some-highest_target.ensures ∙ target_found_in c.self.inside c.self.invariant c.numbers-free.result.now.members c.numbers-free.ensures.members c.args.marks.now c.args.fingers.now c.in-Some.source c.get-low.result c.get-low.ensures.value)) in
    omega (arith, between.0, ap (λ (f : Fingers). f.migrate) c.pass.ensures.fingers, ap (λ (f : Fingers). f.free) c.pass.ensures.fingers)

pub returns-clause-high : goal.returns-clause-high
returns-clause-high c =
    let between = target_between (free_at (seen c.self.inside.held.members c.self.inside.kept.items)) c.args.marks.now c.args.fingers.now c.in-Some.source c.in-Some-highest_target.target (sym (c.in-Some-highest_target.ensures ∙ target_found_in c.self.inside c.self.invariant c.numbers-free.result.now.members c.numbers-free.ensures.members c.args.marks.now c.args.fingers.now c.in-Some.source c.get-low.result c.get-low.ensures.value)) in
    omega (arith, between.1, c.requires.high, ap (λ (f : Fingers). f.free) c.pass.ensures.fingers)
