use Rattle.std.proofs.Common.{◌≡◌, ℕ, ◌+◌, ◌-◌, ◌*◌, ◌/◌, ◌%◌, List, refl, ap, arith}
use Rattle.number_set.specs.Bits.{has_number}
use Rattle.number_set.specs.Runs.{count_in_run}
use Rattle.number_set.proofs.Counting.{count_by_words, count_most}
use Rattle.number_set.proofs.words.count_from.Goals as goal

-- the words and the parts at both ends, as the code counts them
counted : (words : List ℕ) (first count whole last before : ℕ) → whole ≡ count_in_run (has_number words) (64 * (first / 64)) (64 * ((first + count) / 64 - first / 64)) → last ≡ count_in_run (has_number words) (64 * ((first + count) / 64)) ((first + count) % 64) → before ≡ count_in_run (has_number words) (64 * (first / 64)) (first % 64) → whole + last ≡ before + count_in_run (has_number words) first count
counted words first count whole last before whole_is last_is before_is =
    let p = has_number words in
    let rest : first + count - first ≡ count = omega arith in
    let parts = count_by_words p first (first + count) (omega arith) in
    omega (arith, parts, whole_is, last_is, before_is, ap (count_in_run p first) rest)

pub overflow_add-result : goal.overflow_add-result
overflow_add-result c =
    let p = has_number c.args.words.now in
    omega (arith, counted c.args.words.now c.args.first c.args.count c.count_words-in_words.result c.count_below.result _ c.count_words-in_words.ensures c.count_below.ensures refl, count_most p (64 * (c.args.first / 64)) (c.args.first % 64), count_most p c.args.first c.args.count, c.requires.within, c.requires.few)

pub overflow_sub-result : goal.overflow_sub-result
overflow_sub-result c =
    omega (arith, counted c.args.words.now c.args.first c.args.count c.count_words-in_words.result c.count_below.result c.count_below-2.result c.count_words-in_words.ensures c.count_below.ensures c.count_below-2.ensures)

pub returns : goal.returns
returns c =
    omega (arith, counted c.args.words.now c.args.first c.args.count c.count_words-in_words.result c.count_below.result c.count_below-2.result c.count_words-in_words.ensures c.count_below.ensures c.count_below-2.ensures)
