use Rattle.std.proofs.Common.{ℕ, ◌/◌, ◌^◌, false, refl, sym, ap, ◌∙◌, subst, arith}
use Rattle.std.specs.FinSet as set
use Rattle.std.proofs.lemmas.Nat.{pow_pos}
use Rattle.scan_core.specs.NumberSet.{in_run}
use Rattle.scan_core.proofs.FrameSets.{remove_if}
use Rattle.scan_core.proofs.HeapSteps.{IsAt, IsHalved, at_first, at_next, at_top, begins_emptied, begins_members, empty_on, empty_stop, halved}
use Rattle.scan_core.proofs.WholeRuns.{of_orders, to_orders}
use Rattle.scan_core.proofs.whole_runs.WholeRuns.remove.Goals as goal

pub loop-self-init : goal.loop-self-init
loop-self-init c =
    let blocks = c.args.self.now.blocks in
    let has = set.contains c.args.self.now.numbers.members in
    record {
      sound = c.requires.open;
      blocks = refl;
      at = at_first blocks c.args.first c.args.order c.requires.order.0 c.requires.order.1 c.requires.aligned c.requires.within;
      stale = λ p r whole change. (
        begins_emptied blocks c.args.first c.args.order c.requires.order.0 c.requires.order.1 c.requires.aligned p r has (of_orders blocks p has whole) change.outside change.none,
        begins_members blocks c.args.first c.args.order c.requires.order.0 c.requires.order.1 c.requires.aligned p r has (of_orders blocks p has whole) change.outside change.all c.requires.within,
      );
    }

pub returns-then-not-contains-clause-whole : goal.returns-then-not-contains-clause-whole
returns-then-not-contains-clause-whole c =
    let blocks = c.loop-self.self.blocks in
    let has = set.contains c.loop-self.self.numbers.members in
    let now = set.contains c.remove_run.new.self.members in
    let number = c.loop-self.number in
    let size = 2 ^ c.loop-self.halvings in
    let next = 2 ^ c.saturating_sub-halvings.result in
    let half = subst (λ (n : ℕ). IsHalved blocks number size n) (sym (ap (λ k. 2 ^ k) c.saturating_sub-halvings.ensures)) (halved blocks number c.loop-self.invariant.sound.some c.loop-self.halvings c.loop-self.invariant.at) in
    let put = λ (n : ℕ). c.remove_run.ensures.run n ∙ remove_if (in_run number size n) (has n) false refl in
    λ p r whole change. to_orders blocks r now
    (empty_stop blocks r has now number size next false c.loop-self-test.true c.loop-self.invariant.at.within half put c.loop-self.invariant.sound.some (pow_pos c.saturating_sub-halvings.result) refl (c.loop-self.invariant.stale p r whole change).0 (c.loop-self.invariant.stale p r whole change).1 (sym c.contains.ensures ∙ c.if-not-contains.true))

pub loop-self-preserved : goal.loop-self-preserved
loop-self-preserved c =
    let blocks = c.loop-self.self.blocks in
    let has = set.contains c.loop-self.self.numbers.members in
    let now = set.contains c.remove_run.new.self.members in
    let number = c.loop-self.number in
    let size = 2 ^ c.loop-self.halvings in
    let next = 2 ^ c.saturating_sub-halvings.result in
    let half = subst (λ (n : ℕ). IsHalved blocks number size n) (sym (ap (λ k. 2 ^ k) c.saturating_sub-halvings.ensures)) (halved blocks number c.loop-self.invariant.sound.some c.loop-self.halvings c.loop-self.invariant.at) in
    let put = λ (n : ℕ). c.remove_run.ensures.run n ∙ remove_if (in_run number size n) (has n) false refl in
    record {
      sound = record { some = c.loop-self.invariant.sound.some; few = c.loop-self.invariant.sound.few; room = omega (arith, c.loop-self.invariant.sound.room, c.remove_run.ensures.bound) };
      blocks = c.loop-self.invariant.blocks;
      at = subst (λ (k : ℕ). IsAt blocks (number / 2) k) (sym c.saturating_sub-halvings.ensures) (at_next blocks number c.loop-self.invariant.sound.some c.loop-self.halvings c.loop-self.invariant.at);
      stale = λ p r whole change. empty_on blocks r has now number size next false c.loop-self-test.true c.loop-self.invariant.at.within half put c.loop-self.invariant.sound.some refl (c.loop-self.invariant.stale p r whole change).0 (c.loop-self.invariant.stale p r whole change).1 (sym c.contains.ensures ∙ c.if-not-contains.false);
    }

pub returns-clause-whole : goal.returns-clause-whole
returns-clause-whole c = λ p r whole change.
    let blocks = c.loop-self.self.blocks in
    let has = set.contains c.loop-self.self.numbers.members in
    to_orders blocks r has (at_top blocks c.loop-self.number c.loop-self.invariant.sound.some r has c.loop-self.halvings false c.loop-self.invariant.at c.loop-self-test.false (c.loop-self.invariant.stale p r whole change).0)
