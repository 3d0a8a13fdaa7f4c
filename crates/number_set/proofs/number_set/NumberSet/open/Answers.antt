use Rattle.std.proofs.Common.{◌≡◌, ℕ, ◌+◌, ◌*◌, ◌/◌, length, sym, ap, ◌∙◌, slice_index, arith}
use Rattle.std.specs.Prelude.{nat_lt}
use Rattle.std.specs.FinSet as set
use Rattle.std.proofs.lemmas.List.{length-replicate}
use Rattle.number_set.specs.Numbers.{numbers_of}
use Rattle.number_set.proofs.OneAbove.{empty_summarized, empty_words, zeros}
use Rattle.number_set.proofs.number_set.NumberSet.open.Goals as goal

pub invariant_of-result : goal.invariant_of-result
invariant_of-result c =
    let count = (c.args.bound + 63) / 64 in
    let long : length c.in_ok-open.field-0.items ≡ count = ap length c.in_ok-open.ensures ∙ length-replicate {A = ℕ} count 0 in (
      omega (arith, long, c.in_ok-open-2.ensures.enough),
      c.in_ok-open-2.ensures.most,
      λ i. ap (λ s. set.contains s i) c.in_ok-open-2.ensures.empty ∙ empty_summarized count i ∙ ap (λ ws. nat_lt 0 (slice_index ws i)) (sym c.in_ok-open.ensures),
      record {
        before = λ word less. ap (λ ws. nat_lt 0 (slice_index ws word)) c.in_ok-open.ensures ∙ ap (nat_lt 0) (zeros count word);
        passes = λ within. absurd (omega (arith, long, within));
      },
    )

pub returns-clause-empty : goal.returns-clause-empty
returns-clause-empty c = ap numbers_of c.in_ok-open.ensures ∙ empty_words ((c.args.bound + 63) / 64)

pub returns-clause-bound : goal.returns-clause-bound
returns-clause-bound c = ap (λ ws. 64 * length ws) c.in_ok-open.ensures ∙ ap (λ k. 64 * k) (length-replicate {A = ℕ} ((c.args.bound + 63) / 64) 0)
