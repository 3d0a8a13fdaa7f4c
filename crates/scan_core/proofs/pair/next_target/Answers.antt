use Rattle.std.proofs.Common.{ℕ, ◌∙◌, ◌-◌, ◌<◌, ◌≤◌, inl, inr, ap, sym, arith}
use Rattle.std.specs.Prelude.{◌&&◌}
use Rattle.std.proofs.lemmas.Bool.{lt-ltb, le-ltb}
use Rattle.std.proofs.lemmas.Bool.Decides.{leb_tells}
use Rattle.scan_core.specs.Pairs.{is_target}
use Rattle.frame_core.proofs.Bounds.{highest_is, highest_none}
use Rattle.scan_core.proofs.Found.{some_is}
use Rattle.scan_core.proofs.pair.next_target.Goals as goal

pub returns-then-is_target : goal.returns-then-is_target
returns-then-is_target c =
    let most = c.loop-number.invariant.high in
    let high : c.loop-number.number - 1 < c.args.fingers.free = omega arith in
    let low : c.args.source < c.loop-number.number - 1 = omega (arith, c.get.ensures.value, c.loop-number-test.true) in
    some_is _ (c.loop-number.number - 1) (c.new.ensures.valid.1 (omega (arith, high, c.requires.high, c.requires.few))) c.new.ensures.value
    ∙ sym (highest_is _ _ (c.loop-number.number - 1) high
    (λ i. lt-ltb c.args.source (c.loop-number.number - 1) low i && sym c.if-is_target.ensures i)
    (λ j over within. c.loop-number.invariant.above j (omega arith) within))

pub returns : goal.returns
returns c =
    sym (highest_none _ _ (λ (k : ℕ) (h : k < c.args.fingers.free). elim (leb_tells c.loop-number.number k) [
      | inl over ↦ c.loop-number.invariant.above k over.1 h
      | inr less ↦ (let low : k ≤ c.args.source = omega (arith, less.1, c.get.ensures.value, c.loop-number-test.false) in
          ap (λ b. b && is_target c.args.frames.now c.args.marked.now k) (le-ltb c.args.source k low))
    ]))
