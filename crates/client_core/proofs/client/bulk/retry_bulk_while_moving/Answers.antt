use Rattle.std.proofs.Common.{ℕ, ◌∙◌, List, length, subst, rules}
use Rattle.std.specs.Prelude.{IfErr, OnOk}
use Rattle.state_core.specs.Bulk.{bulk_refusal}
use Rattle.state_core.specs.ZoneState.{ZoneState}
use Rattle.client_core.specs.Calls.{IsAccepted, IsRefused}
use Rattle.client_core.proofs.Calls.{accepted, refused}
use Rattle.client_core.proofs.client.bulk.retry_bulk_while_moving.Goals as goal

pub returns-in_default-clause-accepted : goal.returns-in_default-clause-accepted
returns-in_default-clause-accepted g c =
    let made = c.make_bulk_kept in
    let call = c.args.call.now in
    let refusal = λ (words : List ℕ) (zone : ZoneState). bulk_refusal zone (g.C.Bulk.access call).address (g.C.Bulk.from call) (length (g.C.Bulk.values call words)) in
    let leaves = g.C.Bulk.leaves c.args.call.now in
    let is = subst (λ (words : List ℕ). OnOk made.result (IsAccepted (refusal words) (leaves words) made.new.words)) c.loop.invariant.words
    (accepted (refusal c.loop.words) (leaves c.loop.words) made.new.words c.deref_mut.result.now made.new.room
    made.ensures.valid made.result made.ensures.refused made.ensures.accepted) in
    search (rules, is)

pub returns-in_default-clause-refused : goal.returns-in_default-clause-refused
returns-in_default-clause-refused g c =
    let made = c.make_bulk_kept in
    let call = c.args.call.now in
    let refusal = λ (words : List ℕ) (zone : ZoneState). bulk_refusal zone (g.C.Bulk.access call).address (g.C.Bulk.from call) (length (g.C.Bulk.values call words)) in
    let is = subst (λ (words : List ℕ). IfErr made.result (IsRefused (refusal words))) c.loop.invariant.words
    (refused (refusal c.loop.words) c.deref_mut.result.now made.ensures.valid made.result made.ensures.refused) in
    search (rules, is)

pub returns-in_default-clause-receipts : goal.returns-in_default-clause-receipts
returns-in_default-clause-receipts g c =
    let made = c.make_bulk_kept in
    let is = rw c.loop.invariant.receipts at made.ensures.receipts in
    search (rules, is)

pub make_bulk_kept-requires : goal.make_bulk_kept-requires
make_bulk_kept-requires g c = record {
  allows = rw c.loop.invariant.slip c.requires.allows;
  places = rw (c.loop.invariant.receipts, c.loop.invariant.words) c.requires.places;
}

pub loop-preserved : goal.loop-preserved
loop-preserved g c =
    let same = c.in-Err-Moving.ensures.err in
    record {
      words = same.0 ∙ c.loop.invariant.words;
      slip = same.1 ∙ c.loop.invariant.slip;
      receipts = same.2 ∙ c.loop.invariant.receipts;
    }
