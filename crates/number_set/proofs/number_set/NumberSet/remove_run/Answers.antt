use Rattle.std.proofs.Common.{◌≡◌, ℕ, ◌-◌, ◌/◌, ◌^◌, not, length, pow_pos, ap, ◌∙◌, arith}
use Rattle.std.specs.Prelude.{◌&&◌}
use Rattle.std.specs.FinSet as set
use Rattle.std.specs.Vec.{with_items}
use Rattle.number_set.specs.Bits.{has_number, is_filled}
use Rattle.number_set.specs.Runs.{in_run}
use Rattle.number_set.proofs.OneAbove.{many_cut, many_cut_above, many_left_above, written}
use Rattle.number_set.proofs.Levels.{bound_of, members_of}
use Rattle.number_set.proofs.Running.{told_aligned, told_within}
use Rattle.number_set.proofs.Starting.{first_of_run, starts_above, starts_cut, starts_kept}
use Rattle.number_set.proofs.number_set.NumberSet.remove_run.Goals as goal

pub remove_run-requires-then-remove_run : goal.remove_run-requires-then-remove_run
remove_run-requires-then-remove_run c = record {
  order = omega (arith, c.requires.order, c.saturating_sub.ensures);
  aligned = told_aligned c.args.first c.args.order c.saturating_sub.result c.requires.order c.requires.aligned c.saturating_sub.ensures;
  within = omega (arith, told_within c.args.first c.args.order (length c.self.inside.words.items) c.saturating_sub.result c.requires.order c.requires.aligned c.saturating_sub.ensures (omega (arith, c.requires.within, bound_of c.self.view_is)), c.self.invariant.0);
}

pub invariant_of-self : goal.invariant_of-self
invariant_of-self c =
    let words = c.self.inside.words.items in
    let new = (with_items c.self.inside.words c.remove_run.new.words).items in
    let run = in_run (c.args.first / 64) (2 ^ (c.args.order - 6)) in
    let long = written c.self.inside.words c.deref_mut.result.now c.remove_run.new.words c.deref_mut.ensures.value c.remove_run.ensures.as_long (λ old new. length new ≡ length old) c.remove_run.ensures.as_long in
    let filled = written c.self.inside.words c.deref_mut.result.now c.remove_run.new.words c.deref_mut.ensures.value c.remove_run.ensures.as_long (λ old new. (word : ℕ) → is_filled new word ≡ (not (c.remove_run.result && in_run (c.args.first / 64) (2 ^ (c.args.order - 6)) word) && is_filled old word)) c.remove_run.ensures.filled in
    let cut = many_cut_above words new run c.self.inside.above.members c.self.invariant.2 c.remove_run.result filled c.if-remove_run.true c.remove_run-then-remove_run.new.self.members (λ word. c.remove_run-then-remove_run.ensures.run word ∙ ap (λ k. not (in_run (c.args.first / 64) (2 ^ k) word) && set.contains c.self.inside.above.members word) c.saturating_sub.ensures) in
    (omega (arith, long, c.self.invariant.0, c.remove_run-then-remove_run.ensures.bound), omega (arith, c.self.invariant.1, c.remove_run-then-remove_run.ensures.bound), cut, starts_above new c.remove_run-then-remove_run.new.self.members cut c.first_or-self-inside.result c.len.result (omega (arith, c.len.ensures)) c.first_or-self-inside.ensures)

pub invariant_of-self-else-first-self : goal.invariant_of-self-else-first-self
invariant_of-self-else-first-self c =
    let words = c.self.inside.words.items in
    let new = (with_items c.self.inside.words c.remove_run.new.words).items in
    let run = in_run (c.args.first / 64) (2 ^ (c.args.order - 6)) in
    let long = written c.self.inside.words c.deref_mut.result.now c.remove_run.new.words c.deref_mut.ensures.value c.remove_run.ensures.as_long (λ old new. length new ≡ length old) c.remove_run.ensures.as_long in
    let filled = written c.self.inside.words c.deref_mut.result.now c.remove_run.new.words c.deref_mut.ensures.value c.remove_run.ensures.as_long (λ old new. (word : ℕ) → is_filled new word ≡ (not (c.remove_run.result && in_run (c.args.first / 64) (2 ^ (c.args.order - 6)) word) && is_filled old word)) c.remove_run.ensures.filled in
    let cut = many_cut_above words new run c.self.inside.above.members c.self.invariant.2 c.remove_run.result filled c.if-remove_run.true c.remove_run-then-remove_run.new.self.members (λ word. c.remove_run-then-remove_run.ensures.run word ∙ ap (λ k. not (in_run (c.args.first / 64) (2 ^ k) word) && set.contains c.self.inside.above.members word) c.saturating_sub.ensures) in
    (omega (arith, long, c.self.invariant.0, c.remove_run-then-remove_run.ensures.bound), omega (arith, c.self.invariant.1, c.remove_run-then-remove_run.ensures.bound), cut, starts_cut words new long run c.self.inside.lowest c.self.invariant.3 (λ word. filled word ∙ ap (λ b. not (b && run word) && is_filled words word) c.if-remove_run.true) ((first_of_run (c.args.first / 64) (2 ^ (c.args.order - 6)) (pow_pos (c.args.order - 6))).before c.self.inside.lowest (omega (arith, c.if-first-self.false))))

pub invariant_of-self-else-remove_run : goal.invariant_of-self-else-remove_run
invariant_of-self-else-remove_run c =
    let words = c.self.inside.words.items in
    let new = (with_items c.self.inside.words c.remove_run.new.words).items in
    let run = in_run (c.args.first / 64) (2 ^ (c.args.order - 6)) in
    let long = written c.self.inside.words c.deref_mut.result.now c.remove_run.new.words c.deref_mut.ensures.value c.remove_run.ensures.as_long (λ old new. length new ≡ length old) c.remove_run.ensures.as_long in
    let filled = written c.self.inside.words c.deref_mut.result.now c.remove_run.new.words c.deref_mut.ensures.value c.remove_run.ensures.as_long (λ old new. (word : ℕ) → is_filled new word ≡ (not (c.remove_run.result && in_run (c.args.first / 64) (2 ^ (c.args.order - 6)) word) && is_filled old word)) c.remove_run.ensures.filled in
    let left = many_left_above words new run c.self.inside.above.members c.self.invariant.2 c.remove_run.result filled c.if-remove_run.false in
    (omega (arith, long, c.self.invariant.0), c.self.invariant.1, left, starts_kept words c.self.inside.above.members c.self.invariant.2 c.self.inside.lowest c.self.invariant.3 new long left)

pub returns-then-first-self-clause-run : goal.returns-then-first-self-clause-run
returns-then-first-self-clause-run c = many_cut c.self.inside.words.items (with_items c.self.inside.words c.remove_run.new.words).items (in_run c.args.first (2 ^ c.args.order)) (written c.self.inside.words c.deref_mut.result.now c.remove_run.new.words c.deref_mut.ensures.value c.remove_run.ensures.as_long (λ old new. (n : ℕ) → has_number new n ≡ (not (in_run c.args.first (2 ^ c.args.order) n) && has_number old n)) c.remove_run.ensures.numbers) c.args.self.now.members (members_of c.self.view_is)

pub returns-else-first-self-clause-run : goal.returns-else-first-self-clause-run
returns-else-first-self-clause-run c = many_cut c.self.inside.words.items (with_items c.self.inside.words c.remove_run.new.words).items (in_run c.args.first (2 ^ c.args.order)) (written c.self.inside.words c.deref_mut.result.now c.remove_run.new.words c.deref_mut.ensures.value c.remove_run.ensures.as_long (λ old new. (n : ℕ) → has_number new n ≡ (not (in_run c.args.first (2 ^ c.args.order) n) && has_number old n)) c.remove_run.ensures.numbers) c.args.self.now.members (members_of c.self.view_is)

pub returns-else-remove_run-clause-run : goal.returns-else-remove_run-clause-run
returns-else-remove_run-clause-run c = many_cut c.self.inside.words.items (with_items c.self.inside.words c.remove_run.new.words).items (in_run c.args.first (2 ^ c.args.order)) (written c.self.inside.words c.deref_mut.result.now c.remove_run.new.words c.deref_mut.ensures.value c.remove_run.ensures.as_long (λ old new. (n : ℕ) → has_number new n ≡ (not (in_run c.args.first (2 ^ c.args.order) n) && has_number old n)) c.remove_run.ensures.numbers) c.args.self.now.members (members_of c.self.view_is)
