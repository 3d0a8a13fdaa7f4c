-- The clients before an index agree with the journal, and the one at it agrees or is the first that doesn't.
use Rattle.std.proofs.Common.{rules, ◌≡◌, List, length, reverse, sym, ap, subst, ◌∙◌, refl, arith}
use Rattle.std.specs.Prelude.{All, Some, slice_get}
use Rattle.std.specs.List.{filter}
use Rattle.std.proofs.lemmas.List.{take_all}
use Rattle.std.proofs.lemmas.List.Elements.{All-more}
use Rattle.frame_core.specs.declared.record.Record.{Record}
use Rattle.round_core.specs.Calls.{is_of}
use Rattle.state_core.specs.ZoneState.{ZoneState}
use Rattle.client_core.specs.Receipts.{Agrees, records_of}
use Rattle.client_core.specs.Settling.{HasKeptJournal, IsFirstDifference}
use Rattle.client_core.proofs.Differences.{item_at, not_same}
use Rattle.client_core.proofs.settling.settle_clients.Goals as goal

pub returns-in-Some-first_difference-clause-ok : goal.returns-in-Some-first_difference-clause-ok
returns-in-Some-first_difference-clause-ok g c =
    let client = c.client-item.result in
    let zone = c.args.zone.now in
    let records : c.in-Some.records.now ≡ reverse zone.records = c.in-Some.ensures.records ∙ ap reverse (c.journal.ensures.records ∙ ap (λ (z : ZoneState). z.records) c.deref.ensures) in
    let differ : IsFirstDifference (records_of client.number zone.records) client.receipts c.in-Some-first_difference.index =
    subst (λ (list : List Record). IsFirstDifference (filter (is_of client.number) list) client.receipts c.in-Some-first_difference.index) records c.in-Some-first_difference.ensures.some in (
      λ ok. cc,
      λ all. absurd (not_same _ _ c.in-Some-first_difference.index differ (subst (Agrees zone.records) (sym c.client-item.is) (all.1 c.loop-client.client-index client c.loop-client-test.true))),
    )

pub returns-in-Some-first_difference-clause-refused : goal.returns-in-Some-first_difference-clause-refused
returns-in-Some-first_difference-clause-refused g c =
    let client = c.client-item.result in
    let zone = c.args.zone.now in
    let at : slice_get c.args.clients.now c.loop-client.client-index ≡ Some client =
    item_at c.args.clients.now c.loop-client.client-index client c.loop-client-test.true c.client-item.is in
    let records : c.in-Some.records.now ≡ reverse zone.records = c.in-Some.ensures.records ∙ ap reverse (c.journal.ensures.records ∙ ap (λ (z : ZoneState). z.records) c.deref.ensures) in
    let differ : IsFirstDifference (records_of client.number zone.records) client.receipts c.in-Some-first_difference.index =
    subst (λ (list : List Record). IsFirstDifference (filter (is_of client.number) list) client.receipts c.in-Some-first_difference.index) records c.in-Some-first_difference.ensures.some in
    let kept : HasKeptJournal c.args.zone.now = omega (arith, ap length c.journal.ensures.records, c.journal.ensures.room, ap (λ (z : ZoneState). length z.records) c.deref.ensures, ap (λ (z : ZoneState). z.room) c.deref.ensures, c.in-Some.ensures.some.0 refl) in (
      kept,
      record {
        place = c.loop-client.client-index;
        before = c.loop-client.invariant;
        there = rw at record { number = sym c.number.ensures; index = differ };
      },
    )

pub loop-client-preserved : goal.loop-client-preserved
loop-client-preserved g c =
    let client = c.client-item.result in
    let zone = c.args.zone.now in
    let records : c.in-Some.records.now ≡ reverse zone.records = c.in-Some.ensures.records ∙ ap reverse (c.journal.ensures.records ∙ ap (λ (z : ZoneState). z.records) c.deref.ensures) in
    let agrees : Agrees zone.records client =
    subst (λ (list : List Record). filter (is_of client.number) list ≡ client.receipts) records c.in_default-first_difference.ensures.none in
    All-more (Agrees zone.records) c.args.clients.now c.loop-client.client-index client c.loop-client-test.true
    c.loop-client.invariant (subst (Agrees zone.records) c.client-item.is agrees)

pub returns-clause-ok : goal.returns-clause-ok
returns-clause-ok g c =
    let kept : HasKeptJournal c.args.zone.now = omega (arith, ap length c.journal.ensures.records, c.journal.ensures.room, ap (λ (z : ZoneState). length z.records) c.deref.ensures, ap (λ (z : ZoneState). z.room) c.deref.ensures, c.in-Some.ensures.some.0 refl) in (
      λ ok. (kept, subst (All (Agrees c.args.zone.now.records)) (take_all c.loop-client.client-index c.args.clients.now c.loop-client-test.false) c.loop-client.invariant),
      λ all. refl,
    )

pub returns-in_default-clause-ok : goal.returns-in_default-clause-ok
returns-in_default-clause-ok g c = search rules
