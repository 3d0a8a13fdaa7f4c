use Rattle.std.proofs.Common.{◌≡◌, ℕ, ◌+◌, ◌-◌, ◌/◌, ◌%◌, ◌^◌, ◌<◌, ◌≤◌, length, sym, ap, ◌∙◌, eq-eqb, slice_index, arith}
use Rattle.std.specs.List.{list_all, slice_range}
use Rattle.std.specs.Prelude.{nat_eq, bit_and}
use Rattle.std.proofs.lemmas.Bool.{eqb-true}
use Rattle.std.proofs.lemmas.Nat.{pow_pos}
use Rattle.number_set.specs.Bits.{has_bit}
use Rattle.number_set.specs.Runs.{in_run}
use Rattle.number_set.proofs.Running.{count_fits, part_found, part_has, parts, shifted_within, whole_found, whole_has, words_within}
use Rattle.number_set.proofs.words.has_run.Goals as goal

pub are_full-requires : goal.are_full-requires
are_full-requires c = shifted_within c.args.first c.args.order c.requires.order c.requires.aligned _ c.requires.within

pub returns-then-order-gt6 : goal.returns-then-order-gt6
returns-then-order-gt6 c =
    let words = c.args.words.now in
    let run_parts = parts c.args.first c.args.order c.requires.order c.requires.aligned in
    let within = words_within c.args.first c.args.order _ c.requires.order c.requires.aligned c.requires.within in
    let told = c.are_full.ensures ∙ ap (λ k. list_all (λ bits. nat_eq bits 18446744073709551615) (slice_range words (c.args.first / 64) (c.args.first / 64 + k))) (count_fits (c.args.order - 6) (omega (arith, c.requires.order))) in (
      λ full. whole_found words c.args.first c.args.order run_parts c.if-order-gt6.true within (sym told ∙ full),
      λ all. told ∙ whole_has words c.args.first c.args.order run_parts c.if-order-gt6.true within (λ k low. (c.type_inv.words k).fits) all,
    )

pub run_bits-bits-requires-clause-within : goal.run_bits-bits-requires-clause-within
run_bits-bits-requires-clause-within c = (parts c.args.first c.args.order c.requires.order c.requires.aligned).low (omega (arith, c.if-order-gt6.false))

pub returns : goal.returns
returns c =
    let words = c.args.words.now in
    let bits = c.run_bits-bits.result in
    let less : c.args.order ≤ 6 = omega (arith, c.if-order-gt6.false) in
    let run_parts = parts c.args.first c.args.order c.requires.order c.requires.aligned in
    let within = words_within c.args.first c.args.order _ c.requires.order c.requires.aligned c.requires.within in
    let inside : c.args.first / 64 < length words = omega (arith, within, pow_pos (c.args.order - 6)) in
    let ones : (i : ℕ) → has_bit bits i ≡ in_run (c.args.first % 64) (2 ^ c.args.order) i = c.run_bits-bits.ensures in (
      λ same. part_found words c.args.first c.args.order bits run_parts less inside ones (eqb-true (bit_and (slice_index words (c.args.first / 64)) bits) bits same),
      λ all. eq-eqb (bit_and (slice_index words (c.args.first / 64)) bits) bits (part_has words c.args.first c.args.order bits run_parts less inside ones c.run_bits-bits.type_inv all),
    )
