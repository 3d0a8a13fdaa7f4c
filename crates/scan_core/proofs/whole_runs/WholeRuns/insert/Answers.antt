use Rattle.std.proofs.Common.{ℕ, ◌/◌, ◌^◌, true, refl, sym, ap, ◌∙◌, subst, arith}
use Rattle.std.specs.FinSet as set
use Rattle.std.proofs.lemmas.Nat.{pow_pos}
use Rattle.scan_core.specs.NumberSet.{in_run}
use Rattle.scan_core.proofs.FrameSets.{insert_if}
use Rattle.scan_core.proofs.HeapSteps.{IsAt, IsHalved, at_first, at_next, at_top, begins_filled, fill_on, fill_stop, halved}
use Rattle.scan_core.proofs.WholeRuns.{of_orders, to_orders}
use Rattle.scan_core.proofs.whole_runs.WholeRuns.insert.Goals as goal

pub loop-self-init : goal.loop-self-init
loop-self-init c =
    let blocks = c.args.self.now.blocks in
    let has = set.contains c.args.self.now.numbers.members in
    record {
      sound = c.requires.open;
      blocks = refl;
      at = at_first blocks c.args.first c.args.order c.requires.order.0 c.requires.order.1 c.requires.aligned c.requires.within;
      stale = λ p r whole change.
          begins_filled blocks c.args.first c.args.order c.requires.order.0 c.requires.order.1 c.requires.aligned p r has (of_orders blocks p has whole) change.outside change.all;
    }

pub returns-then-not-has_halves-clause-whole : goal.returns-then-not-has_halves-clause-whole
returns-then-not-has_halves-clause-whole c =
    let blocks = c.loop-self.self.blocks in
    let has = set.contains c.loop-self.self.numbers.members in
    let now = set.contains c.insert_run.new.self.members in
    let number = c.loop-self.number in
    let size = 2 ^ c.loop-self.halvings in
    let next = 2 ^ c.saturating_sub-halvings.result in
    let half = subst (λ (n : ℕ). IsHalved blocks number size n) (sym (ap (λ k. 2 ^ k) c.saturating_sub-halvings.ensures)) (halved blocks number c.loop-self.invariant.sound.some c.loop-self.halvings c.loop-self.invariant.at) in
    let put = λ (n : ℕ). c.insert_run.ensures.run n ∙ insert_if (in_run number size n) (has n) true refl in
    λ p r whole change. to_orders blocks r now
    (fill_stop blocks r has now number size next true c.loop-self-test.true c.loop-self.invariant.at.within half put c.loop-self.invariant.sound.some (pow_pos c.saturating_sub-halvings.result) refl (c.loop-self.invariant.stale p r whole change) (sym c.has_halves.ensures ∙ c.if-not-has_halves.true))

pub loop-self-preserved : goal.loop-self-preserved
loop-self-preserved c =
    let blocks = c.loop-self.self.blocks in
    let has = set.contains c.loop-self.self.numbers.members in
    let now = set.contains c.insert_run.new.self.members in
    let number = c.loop-self.number in
    let size = 2 ^ c.loop-self.halvings in
    let next = 2 ^ c.saturating_sub-halvings.result in
    let half = subst (λ (n : ℕ). IsHalved blocks number size n) (sym (ap (λ k. 2 ^ k) c.saturating_sub-halvings.ensures)) (halved blocks number c.loop-self.invariant.sound.some c.loop-self.halvings c.loop-self.invariant.at) in
    let put = λ (n : ℕ). c.insert_run.ensures.run n ∙ insert_if (in_run number size n) (has n) true refl in
    record {
      sound = record { some = c.loop-self.invariant.sound.some; few = c.loop-self.invariant.sound.few; room = omega (arith, c.loop-self.invariant.sound.room, c.insert_run.ensures.bound) };
      blocks = c.loop-self.invariant.blocks;
      at = subst (λ (k : ℕ). IsAt blocks (number / 2) k) (sym c.saturating_sub-halvings.ensures) (at_next blocks number c.loop-self.invariant.sound.some c.loop-self.halvings c.loop-self.invariant.at);
      stale = λ p r whole change. fill_on blocks r has now number size next true c.loop-self-test.true c.loop-self.invariant.at.within half put refl (c.loop-self.invariant.stale p r whole change) (sym c.has_halves.ensures ∙ c.if-not-has_halves.false);
    }

pub returns-clause-whole : goal.returns-clause-whole
returns-clause-whole c = λ p r whole change.
    let blocks = c.loop-self.self.blocks in
    let has = set.contains c.loop-self.self.numbers.members in
    to_orders blocks r has (at_top blocks c.loop-self.number c.loop-self.invariant.sound.some r has c.loop-self.halvings true c.loop-self.invariant.at c.loop-self-test.false (c.loop-self.invariant.stale p r whole change))
