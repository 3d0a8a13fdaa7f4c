use Rattle.std.proofs.Common.{◌-◌, ◌*◌, ◌/◌, ◌^◌, ap, ◌∙◌, arith}
use Rattle.number_set.specs.Bits.{has_number}
use Rattle.number_set.specs.Runs.{count_in_run}
use Rattle.number_set.proofs.Counting.{masked_ones, whole_count}
use Rattle.number_set.proofs.Running.{count_fits, parts, shifted_within}
use Rattle.number_set.proofs.words.count_run.Goals as goal

pub count_words-requires-clause-within : goal.count_words-requires-clause-within
count_words-requires-clause-within c = shifted_within c.args.first c.args.order c.requires.order c.requires.aligned _ c.requires.within

pub returns-then-order-gt6 : goal.returns-then-order-gt6
returns-then-order-gt6 c =
    c.count_words.ensures
    ∙ ap (λ k. count_in_run (has_number c.args.words.now) (64 * (c.args.first / 64)) (64 * k)) (count_fits (c.args.order - 6) (omega (arith, c.requires.order)))
    ∙ whole_count c.args.words.now c.args.first c.args.order (parts c.args.first c.args.order c.requires.order c.requires.aligned) c.if-order-gt6.true

pub run_bits-bits-requires-clause-within : goal.run_bits-bits-requires-clause-within
run_bits-bits-requires-clause-within c = (parts c.args.first c.args.order c.requires.order c.requires.aligned).low (omega (arith, c.if-order-gt6.false))

pub returns : goal.returns
returns c =
    let low = (parts c.args.first c.args.order c.requires.order c.requires.aligned).low (omega (arith, c.if-order-gt6.false)) in
    masked_ones c.args.words.now c.args.first (2 ^ c.args.order) c.run_bits-bits.result (c.type_inv.words (c.args.first / 64)).fits low c.run_bits-bits.ensures
