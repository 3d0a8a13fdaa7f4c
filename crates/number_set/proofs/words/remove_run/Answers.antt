use Rattle.std.proofs.Common.{◌-◌, ◌/◌, ◌≤◌, refl, ap, ◌∙◌, slice_index, arith}
use Rattle.std.specs.Prelude.{if◌then◌else◌}
use Rattle.number_set.specs.Runs.{in_run}
use Rattle.std.proofs.lemmas.Nat.{pow_pos}
use Rattle.number_set.proofs.Running.{count_fits, part_cut, parts, shifted_within, whole_cut}
use Rattle.number_set.proofs.words.remove_run.Goals as goal

pub write_run-requires : goal.write_run-requires
write_run-requires c = shifted_within c.args.first c.args.order c.requires.order c.requires.aligned _ c.requires.within

pub returns-then-order-gt6-clause-numbers : goal.returns-then-order-gt6-clause-numbers
returns-then-order-gt6-clause-numbers c =
    let words = c.args.words.now in
    let count = count_fits (c.args.order - 6) (omega (arith, c.requires.order)) in
    whole_cut words c.write_run.new.words c.args.first c.args.order 0 (parts c.args.first c.args.order c.requires.order c.requires.aligned) c.if-order-gt6.true (λ word. c.write_run.ensures.words word
    ∙ ap (λ k. if in_run (c.args.first / 64) k word then 0 else slice_index words word) count) refl

pub run_bits-requires-clause-within : goal.run_bits-requires-clause-within
run_bits-requires-clause-within c = (parts c.args.first c.args.order c.requires.order c.requires.aligned).low (omega (arith, c.if-order-gt6.false))

pub returns-clause-numbers : goal.returns-clause-numbers
returns-clause-numbers c =
    let less : c.args.order ≤ 6 = omega (arith, c.if-order-gt6.false) in
    part_cut c.args.words.now c.args.first c.args.order c.run_bits.result (parts c.args.first c.args.order c.requires.order c.requires.aligned) less (omega (arith, c.requires.within, pow_pos c.args.order)) c.run_bits.ensures c.run_bits.type_inv
