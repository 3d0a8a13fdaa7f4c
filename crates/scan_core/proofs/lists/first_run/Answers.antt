use Rattle.std.proofs.Common.{ℕ, ◌<◌, ◌∙◌, sym, length, arith}
use Rattle.frame_core.proofs.Searches.{lowest_is, lowest_none}
use Rattle.scan_core.proofs.Found.{some_is}
use Rattle.scan_core.proofs.lists.first_run.Goals as goal

pub returns-then-is_run : goal.returns-then-is_run
returns-then-is_run c =
    let high : c.loop-first.first < length c.args.frames.now = omega arith in
    some_is _ c.loop-first.first (c.new.ensures.valid.1 (omega (arith, high, c.requires))) c.new.ensures.value
    ∙ sym (lowest_is _ _ c.loop-first.first high (sym c.if-is_run.ensures) c.loop-first.invariant)

pub returns : goal.returns
returns c = sym (lowest_none _ _ (λ (k : ℕ) (h : k < length c.args.frames.now). c.loop-first.invariant k (omega arith)))
