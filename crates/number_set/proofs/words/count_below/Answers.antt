use Rattle.std.proofs.Common.{◌≡◌, ℕ, ◌*◌, ◌/◌, ◌%◌, ap, sym, ◌∙◌, slice_index, arith}
use Rattle.std.specs.Prelude.{bit_and}
use Rattle.std.specs.Int.Count.{ones}
use Rattle.number_set.specs.Runs.{in_run}
use Rattle.number_set.proofs.Counting.{masked_ones}
use Rattle.number_set.proofs.Running.{from_zero}
use Rattle.number_set.proofs.words.count_below.Goals as goal

pub returns : goal.returns
returns c =
    let start = 64 * (c.args.number / 64) in
    let here : start / 64 ≡ c.args.number / 64 = omega arith in
    let none : start % 64 ≡ 0 = omega arith in
    let fits = (c.type_inv.words (start / 64)).fits in
    let bits = λ (i : ℕ). c.low_bits.ensures i ∙ sym (from_zero (c.args.number % 64) i) ∙ ap (λ (n : ℕ). in_run n (c.args.number % 64) i) (sym none) in
    ap (λ (n : ℕ). ones (bit_and (slice_index c.args.words.now n) c.low_bits.result)) (sym here)
    ∙ masked_ones c.args.words.now start (c.args.number % 64) c.low_bits.result fits (omega (arith, none)) bits
