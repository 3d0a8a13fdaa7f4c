use Rattle.std.proofs.Common.{refl, ap, ◌∙◌}
use Rattle.std.specs.FinSet as set
use Rattle.number_set.proofs.OneAbove.{empty_summarized, empty_words}
use Rattle.number_set.proofs.two_levels.TwoLevels.new.Goals as goal

pub invariant_of-result : goal.invariant_of-result
invariant_of-result c = (refl, λ i. ap (λ s. set.contains s i) c.new.ensures ∙ empty_summarized 64 i)

pub returns : goal.returns
returns c = empty_words 64
