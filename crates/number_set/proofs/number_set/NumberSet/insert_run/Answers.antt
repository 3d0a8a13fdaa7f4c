use Rattle.std.proofs.Common.{◌≡◌, ℕ, ◌-◌, ◌/◌, ◌^◌, length, pow_pos, ap, ◌∙◌, arith}
use Rattle.std.specs.Prelude.{◌&&◌, ◌||◌}
use Rattle.std.specs.FinSet as set
use Rattle.std.specs.Vec.{with_items}
use Rattle.number_set.specs.Bits.{has_number, is_filled}
use Rattle.number_set.specs.Runs.{in_run}
use Rattle.number_set.proofs.OneAbove.{many_put, many_kept_above, many_put_above, written}
use Rattle.number_set.proofs.Levels.{bound_of, members_of}
use Rattle.number_set.proofs.Running.{told_aligned, told_within}
use Rattle.number_set.proofs.Starting.{first_of_run, starts_kept, starts_put}
use Rattle.number_set.proofs.number_set.NumberSet.insert_run.Goals as goal

pub insert_run-requires-then-insert_run : goal.insert_run-requires-then-insert_run
insert_run-requires-then-insert_run c = record {
  order = omega (arith, c.requires.order, c.saturating_sub.ensures);
  aligned = told_aligned c.args.first c.args.order c.saturating_sub.result c.requires.order c.requires.aligned c.saturating_sub.ensures;
  within = omega (arith, told_within c.args.first c.args.order (length c.self.inside.words.items) c.saturating_sub.result c.requires.order c.requires.aligned c.saturating_sub.ensures (omega (arith, c.requires.within, bound_of c.self.view_is)), c.self.invariant.0);
}

pub invariant_of-self : goal.invariant_of-self
invariant_of-self c =
    let words = c.self.inside.words.items in
    let new = (with_items c.self.inside.words c.insert_run.new.words).items in
    let run = in_run (c.args.first / 64) (2 ^ (c.args.order - 6)) in
    let long = written c.self.inside.words c.deref_mut.result.now c.insert_run.new.words c.deref_mut.ensures.value c.insert_run.ensures.as_long (λ old new. length new ≡ length old) c.insert_run.ensures.as_long in
    let filled = written c.self.inside.words c.deref_mut.result.now c.insert_run.new.words c.deref_mut.ensures.value c.insert_run.ensures.as_long (λ old new. (word : ℕ) → is_filled new word ≡ ((c.insert_run.result && in_run (c.args.first / 64) (2 ^ (c.args.order - 6)) word) || is_filled old word)) c.insert_run.ensures.filled in
    (omega (arith, long, c.self.invariant.0, c.insert_run-then-insert_run.ensures.bound), omega (arith, c.self.invariant.1, c.insert_run-then-insert_run.ensures.bound), many_put_above words new run c.self.inside.above.members c.self.invariant.2 c.insert_run.result filled c.if-insert_run.true c.insert_run-then-insert_run.new.self.members (λ word. c.insert_run-then-insert_run.ensures.run word ∙ ap (λ k. in_run (c.args.first / 64) (2 ^ k) word || set.contains c.self.inside.above.members word) c.saturating_sub.ensures), starts_put words new long run c.self.inside.lowest c.self.invariant.3 (λ word. filled word ∙ ap (λ b. (b && run word) || is_filled words word) c.if-insert_run.true) (c.args.first / 64) c.min-self-inside.result (first_of_run (c.args.first / 64) (2 ^ (c.args.order - 6)) (pow_pos (c.args.order - 6))) c.min-self-inside.ensures)

pub invariant_of-self-else-insert_run : goal.invariant_of-self-else-insert_run
invariant_of-self-else-insert_run c =
    let words = c.self.inside.words.items in
    let new = (with_items c.self.inside.words c.insert_run.new.words).items in
    let long = written c.self.inside.words c.deref_mut.result.now c.insert_run.new.words c.deref_mut.ensures.value c.insert_run.ensures.as_long (λ old new. length new ≡ length old) c.insert_run.ensures.as_long in
    let filled = written c.self.inside.words c.deref_mut.result.now c.insert_run.new.words c.deref_mut.ensures.value c.insert_run.ensures.as_long (λ old new. (word : ℕ) → is_filled new word ≡ ((c.insert_run.result && in_run (c.args.first / 64) (2 ^ (c.args.order - 6)) word) || is_filled old word)) c.insert_run.ensures.filled in
    let kept = many_kept_above words new (in_run (c.args.first / 64) (2 ^ (c.args.order - 6))) c.self.inside.above.members c.self.invariant.2 c.insert_run.result filled c.if-insert_run.false in
    (omega (arith, long, c.self.invariant.0), c.self.invariant.1, kept, starts_kept words c.self.inside.above.members c.self.invariant.2 c.self.inside.lowest c.self.invariant.3 new long kept)

pub returns-then-insert_run-clause-run : goal.returns-then-insert_run-clause-run
returns-then-insert_run-clause-run c = many_put c.self.inside.words.items (with_items c.self.inside.words c.insert_run.new.words).items (in_run c.args.first (2 ^ c.args.order)) (written c.self.inside.words c.deref_mut.result.now c.insert_run.new.words c.deref_mut.ensures.value c.insert_run.ensures.as_long (λ old new. (n : ℕ) → has_number new n ≡ (in_run c.args.first (2 ^ c.args.order) n || has_number old n)) c.insert_run.ensures.numbers) c.args.self.now.members (members_of c.self.view_is)

pub returns-else-insert_run-clause-run : goal.returns-else-insert_run-clause-run
returns-else-insert_run-clause-run c = many_put c.self.inside.words.items (with_items c.self.inside.words c.insert_run.new.words).items (in_run c.args.first (2 ^ c.args.order)) (written c.self.inside.words c.deref_mut.result.now c.insert_run.new.words c.deref_mut.ensures.value c.insert_run.ensures.as_long (λ old new. (n : ℕ) → has_number new n ≡ (in_run c.args.first (2 ^ c.args.order) n || has_number old n)) c.insert_run.ensures.numbers) c.args.self.now.members (members_of c.self.view_is)
