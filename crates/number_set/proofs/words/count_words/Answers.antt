use Rattle.std.proofs.Common.{ap, ◌∙◌, ◌+◌, slice_index, arith}
use Rattle.std.specs.Int.Count.{ones}
use Rattle.number_set.proofs.Counting.{one_word_more, sum_fits}
use Rattle.number_set.proofs.words.count_words.Goals as goal

pub overflow_add-sum-in-loop-word : goal.overflow_add-sum-in-loop-word
overflow_add-sum-in-loop-word c =
    omega (arith, sum_fits c.args.words.now c.args.first c.loop-word.word c.args.count c.loop-word.sum c.loop-word-test.true c.requires.few (c.type_inv.words (c.args.first + c.loop-word.word)).fits c.loop-word.invariant.so_far)

pub loop-word-preserved : goal.loop-word-preserved
loop-word-preserved c = record {
  so_far = ap (λ k. k + ones (slice_index c.args.words.now (c.args.first + c.loop-word.word))) c.loop-word.invariant.so_far ∙ one_word_more c.args.words.now c.args.first c.loop-word.word (c.type_inv.words (c.args.first + c.loop-word.word)).fits;
}
