use Rattle.std.proofs.Common.{ℕ, ◌+◌, ◌*◌, ◌/◌, length, sym, ap, ◌∙◌, slice_index, arith}
use Rattle.std.specs.Prelude.{nat_lt}
use Rattle.std.specs.FinSet as set
use Rattle.std.proofs.lemmas.List.{length-replicate}
use Rattle.number_set.specs.Numbers.{numbers_of}
use Rattle.number_set.proofs.OneAbove.{empty_summarized, empty_words}
use Rattle.number_set.proofs.upper_levels.UpperLevels.open.Goals as goal

pub invariant_of-result : goal.invariant_of-result
invariant_of-result c =
    let count = (c.args.bound + 63) / 64 in (
      omega (arith, ap length c.in_ok-open.ensures, length-replicate {A = ℕ} count 0, c.requires),
      λ i. ap (λ s. set.contains s i) c.new.ensures ∙ empty_summarized count i ∙ ap (λ ws. nat_lt 0 (slice_index ws i)) (sym c.in_ok-open.ensures),
    )

pub returns-clause-empty : goal.returns-clause-empty
returns-clause-empty c = ap numbers_of c.in_ok-open.ensures ∙ empty_words ((c.args.bound + 63) / 64)

pub returns-clause-bound : goal.returns-clause-bound
returns-clause-bound c = ap (λ ws. 64 * length ws) c.in_ok-open.ensures ∙ ap (λ k. 64 * k) (length-replicate {A = ℕ} ((c.args.bound + 63) / 64) 0)
