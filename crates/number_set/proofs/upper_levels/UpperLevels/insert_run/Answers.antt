use Rattle.std.proofs.Common.{◌≡◌, ℕ, ◌-◌, ◌/◌, ◌^◌, length, ap, ◌∙◌, arith}
use Rattle.std.specs.Prelude.{◌&&◌, ◌||◌}
use Rattle.std.specs.FinSet as set
use Rattle.std.specs.Vec.{with_items}
use Rattle.number_set.specs.Bits.{has_number, is_filled}
use Rattle.number_set.specs.Runs.{in_run}
use Rattle.number_set.proofs.OneAbove.{many_put, many_put_above, written}
use Rattle.number_set.proofs.Levels.{bound_of, members_of}
use Rattle.number_set.proofs.Running.{told_aligned, told_within}
use Rattle.number_set.proofs.upper_levels.UpperLevels.insert_run.Goals as goal

pub insert_run-requires-then-insert_run-clause-aligned : goal.insert_run-requires-then-insert_run-clause-aligned
insert_run-requires-then-insert_run-clause-aligned c = told_aligned c.args.first c.args.order c.saturating_sub.result c.requires.order c.requires.aligned c.saturating_sub.ensures

pub insert_run-requires-then-insert_run-clause-within : goal.insert_run-requires-then-insert_run-clause-within
insert_run-requires-then-insert_run-clause-within c = told_within c.args.first c.args.order 4096 c.saturating_sub.result c.requires.order c.requires.aligned c.saturating_sub.ensures (omega (arith, c.requires.within, bound_of c.self.view_is, c.self.invariant.0))

pub invariant_of-self : goal.invariant_of-self
invariant_of-self c =
    let long = (written c.self.inside.words c.deref_mut.result.now c.insert_run.new.words c.deref_mut.ensures.value c.insert_run.ensures.as_long (λ old new. length new ≡ length old) c.insert_run.ensures.as_long) in
    (omega (arith, long, c.self.invariant.0), many_put_above c.self.inside.words.items (with_items c.self.inside.words c.insert_run.new.words).items (in_run (c.args.first / 64) (2 ^ (c.args.order - 6))) c.self.inside.above c.self.invariant.1 c.insert_run.result (written c.self.inside.words c.deref_mut.result.now c.insert_run.new.words c.deref_mut.ensures.value c.insert_run.ensures.as_long (λ old new. (word : ℕ) → is_filled new word ≡ ((c.insert_run.result && in_run (c.args.first / 64) (2 ^ (c.args.order - 6)) word) || is_filled old word)) c.insert_run.ensures.filled) c.if-insert_run.true c.insert_run-then-insert_run.new.self (λ word. c.insert_run-then-insert_run.ensures word ∙ ap (λ k. in_run (c.args.first / 64) (2 ^ k) word || set.contains c.self.inside.above word) c.saturating_sub.ensures))

pub returns-then-insert_run-clause-run : goal.returns-then-insert_run-clause-run
returns-then-insert_run-clause-run c = many_put c.self.inside.words.items (with_items c.self.inside.words c.insert_run.new.words).items (in_run c.args.first (2 ^ c.args.order)) (written c.self.inside.words c.deref_mut.result.now c.insert_run.new.words c.deref_mut.ensures.value c.insert_run.ensures.as_long (λ old new. (n : ℕ) → has_number new n ≡ (in_run c.args.first (2 ^ c.args.order) n || has_number old n)) c.insert_run.ensures.numbers) c.args.self.now.members (members_of c.self.view_is)

pub returns-else-insert_run-clause-run : goal.returns-else-insert_run-clause-run
returns-else-insert_run-clause-run c = many_put c.self.inside.words.items (with_items c.self.inside.words c.insert_run.new.words).items (in_run c.args.first (2 ^ c.args.order)) (written c.self.inside.words c.deref_mut.result.now c.insert_run.new.words c.deref_mut.ensures.value c.insert_run.ensures.as_long (λ old new. (n : ℕ) → has_number new n ≡ (in_run c.args.first (2 ^ c.args.order) n || has_number old n)) c.insert_run.ensures.numbers) c.args.self.now.members (members_of c.self.view_is)
