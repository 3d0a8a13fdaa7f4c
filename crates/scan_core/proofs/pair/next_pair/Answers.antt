use Rattle.std.proofs.Common.{sym, subst, ap, arith}
use Rattle.scan_core.specs.Frames.{free_at}
use Rattle.scan_core.specs.Pairs.{Finds}
use Rattle.scan_core.specs.declared.fingers.Fingers.{Fingers}
use Rattle.scan_core.specs.declared.fingers.Step.{Step}
use Rattle.scan_core.proofs.Pairing.{no_source, no_target, pair_found, target_between}
use Rattle.scan_core.proofs.pair.next_pair.Goals as goal

pub returns-in_default-clause-pair : goal.returns-in_default-clause-pair
returns-in_default-clause-pair c = no_source c.args.frames.now c.args.movable.now c.args.marked.now c.args.fingers.now (sym c.in_default.ensures)

pub returns-in_default-next_target-clause-pair : goal.returns-in_default-next_target-clause-pair
returns-in_default-next_target-clause-pair c = no_target c.args.frames.now c.args.movable.now c.args.marked.now c.args.fingers.now c.in-Some.source (sym c.in-Some.ensures) (sym c.in_default-next_target.ensures)

pub returns-clause-pair : goal.returns-clause-pair
returns-clause-pair c =
    subst (λ (step : Step). Finds c.args.frames.now c.args.movable.now c.args.marked.now c.args.fingers.now step) (sym c.pass.ensures.step)
    (pair_found c.args.frames.now c.args.movable.now c.args.marked.now c.args.fingers.now c.in-Some.source c.in-Some-next_target.target (sym c.in-Some.ensures) (sym c.in-Some-next_target.ensures))

pub returns-clause-low : goal.returns-clause-low
returns-clause-low c =
    let between = target_between (free_at c.args.frames.now) c.args.marked.now c.args.fingers.now c.in-Some.source c.in-Some-next_target.target (sym (c.in-Some-next_target.ensures)) in
    omega (arith, between.0, ap (λ (f : Fingers). f.migrate) c.pass.ensures.fingers, ap (λ (f : Fingers). f.free) c.pass.ensures.fingers)

pub returns-clause-high : goal.returns-clause-high
returns-clause-high c =
    let between = target_between (free_at c.args.frames.now) c.args.marked.now c.args.fingers.now c.in-Some.source c.in-Some-next_target.target (sym (c.in-Some-next_target.ensures)) in
    omega (arith, between.1, c.requires.high, ap (λ (f : Fingers). f.free) c.pass.ensures.fingers)
