use Rattle.std.proofs.Common.{◌≡◌, ℕ, ◌*◌, length, refl, ap, ◌∙◌, arith}
use Rattle.number_set.specs.Bits.{has_number}
use Rattle.number_set.specs.Runs.{begins_run, count_in_run}
use Rattle.number_set.proofs.RunStarts.{more_starts, starts_fit}
use Rattle.number_set.proofs.words.count_runs.Goals as goal

pub loop-word-init : goal.loop-word-init
loop-word-init c = record { so_far = refl }

pub overflow_add-sum : goal.overflow_add-sum
overflow_add-sum c = omega (arith, starts_fit c.args.words.now c.args.order c.loop-word.word c.run_starts.result c.requires.order c.run_starts.type_inv c.run_starts.ensures c.loop-word.sum _ c.loop-word.invariant.so_far c.loop-word-test.true c.requires.few)

pub loop-word-preserved : goal.loop-word-preserved
loop-word-preserved c = record {
  so_far = more_starts c.args.words.now c.args.order c.loop-word.word c.run_starts.result c.requires.order c.run_starts.type_inv c.run_starts.ensures c.loop-word.sum c.loop-word.invariant.so_far;
}

pub returns : goal.returns
returns c =
    let all : c.loop-word.word ≡ length c.args.words.now = omega (arith, c.loop-word.auto.word-end, c.loop-word-test.false) in
    c.loop-word.invariant.so_far ∙ ap (λ (n : ℕ). count_in_run (begins_run (has_number c.args.words.now) c.args.order) 0 (64 * n)) all
