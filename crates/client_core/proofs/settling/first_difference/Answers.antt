-- The record at an index is of another client, or is the next of the receipts, or is where they differ.
use Rattle.std.proofs.Common.{◌≡◌, ◌≢◌, ◌<◌, ◌≤◌, true, length, take, sym, true≢false, ap, subst, ◌∙◌, arith}
use Rattle.std.specs.Prelude.{Some, slice_get}
use Rattle.std.specs.List.{filter}
use Rattle.std.proofs.lemmas.List.{take_all}
use Rattle.std.proofs.lemmas.Option.{slice_get_within}
use Rattle.round_core.specs.Calls.{is_of}
use Rattle.client_core.specs.Settling.{IsFirstDifference}
use Rattle.client_core.proofs.Differences.{filter-take_past, filter-take_next, differs_at, ends_early, item_at}
use Rattle.client_core.proofs.settling.first_difference.Goals as goal
use Rattle.client_core.proofs.settling.first_difference.Goals.{then-is_of+else-not-has_at, else-is_of}

pub returns-then-not-has_at-clause-some : goal.returns-then-not-has_at-clause-some
returns-then-not-has_at-clause-some c =
    let number = c.args.client.now.number in
    let records = c.args.records.now in
    let entry = c.entry-item.result in
    let at : slice_get records c.loop-entry.entry-index ≡ Some entry = item_at records c.loop-entry.entry-index entry c.loop-entry-test.true c.entry-item.is in
    let passes : is_of number entry ≡ true = ap (λ n. is_of n entry) (sym c.number.ensures) ∙ sym c.is_of.ensures ∙ c.if-is_of.true in
    let other : slice_get c.receipts-receipts.result.now c.loop-entry.next ≢ Some entry = λ same. true≢false (sym (c.has_at.ensures.1 same) ∙ c.if-not-has_at.true) in
    subst (λ receipts. IsFirstDifference (filter (is_of number) records) receipts c.loop-entry.next) c.receipts-receipts.ensures
    (differs_at (is_of number) records _ c.loop-entry.entry-index c.loop-entry.next entry at passes c.loop-entry.invariant.same c.loop-entry.invariant.within other)

pub loop-entry-preserved : goal.loop-entry-preserved
loop-entry-preserved c =
    let number = c.args.client.now.number in
    let records = c.args.records.now in
    let entry = c.entry-item.result in
    let at : slice_get records c.loop-entry.entry-index ≡ Some entry = item_at records c.loop-entry.entry-index entry c.loop-entry-test.true c.entry-item.is in
    let is : is_of number entry ≡ c.is_of.result = ap (λ n. is_of n entry) (sym c.number.ensures) ∙ sym c.is_of.ensures in
    elim c.if-is_of.branch [
      | then-is_of+else-not-has_at w ↦
          let there : slice_get c.receipts-receipts.result.now c.loop-entry.next ≡ Some entry = w.has_at.ensures.0 w.if-not-has_at.false in
          let within : c.loop-entry.next < length c.receipts-receipts.result.now = slice_get_within c.receipts-receipts.result.now c.loop-entry.next entry there in
          rw w.next-is record {
            same = filter-take_next (is_of number) records _ c.loop-entry.entry-index c.loop-entry.next entry at (is ∙ w.if-is_of.true) c.loop-entry.invariant.same there;
            within = omega arith;
          }
      | else-is_of w ↦ rw w.next-is record {
        same = filter-take_past (is_of number) records c.loop-entry.entry-index entry at (is ∙ w.if-is_of.false) ∙ c.loop-entry.invariant.same;
        within = c.loop-entry.invariant.within;
      }
    ]

pub returns-then-next-receipts-clause-some : goal.returns-then-next-receipts-clause-some
returns-then-next-receipts-clause-some c =
    let number = c.args.client.now.number in
    let records = c.args.records.now in
    let over : length records ≤ c.loop-entry.entry-index = omega (arith, c.loop-entry-test.false) in
    let is : filter (is_of number) records ≡ take c.loop-entry.next c.receipts-receipts.result.now =
    ap (filter (is_of number)) (sym (take_all c.loop-entry.entry-index records over)) ∙ c.loop-entry.invariant.same in
    subst (λ receipts. IsFirstDifference (filter (is_of number) records) receipts c.loop-entry.next) c.receipts-receipts.ensures
    (ends_early _ _ c.loop-entry.next is c.if-next-receipts.true)
