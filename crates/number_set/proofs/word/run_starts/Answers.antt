use Rattle.std.proofs.Common.{◌≡◌, ℕ, sym, ap, ◌∙◌, arith}
use Rattle.number_set.specs.Bits.{has_bit}
use Rattle.number_set.specs.Runs.{begins_run}
use Rattle.number_set.proofs.RunStarts.{four_starts, pair_starts}
use Rattle.number_set.proofs.word.run_starts.Goals as goal

pub returns-in-1 : goal.returns-in-1
returns-in-1 c = λ bit low. pair_starts c.args.word bit low ∙ ap (λ (order : ℕ). begins_run (has_bit c.args.word) order bit) (sym c.in-1.is)

pub returns-in_default : goal.returns-in_default
returns-in_default c = λ bit low.
    let two : 2 ≡ c.args.order = omega (arith, c.in_default, c.requires) in
    four_starts c.args.word bit low ∙ ap (λ (order : ℕ). begins_run (has_bit c.args.word) order bit) two
