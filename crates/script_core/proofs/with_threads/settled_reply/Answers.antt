use Rattle.std.proofs.Common.{◌≡◌, refl, sym, subst, true≢false, rules, arith}
use Rattle.std.specs.Prelude.{All, List, [], Result}
use Rattle.std.proofs.lemmas.List.Elements.{All-cons, All-nil}
use Rattle.round_core.specs.declared.error.RoundError.{RoundError}
use Rattle.round_core.specs.declared.round.Round.{Round}
use Rattle.state_core.specs.ZoneState.{ZoneState}
use Rattle.text_core.specs.declared.reply.Reply.{Reply}
use Rattle.text_core.specs.declared.reply.Reply.TheVariants as reply
use Rattle.client_core.specs.Errors.{number_of_unsettled}
use Rattle.client_core.specs.Receipts.{Agrees, Client}
use Rattle.client_core.specs.Settling.{HasKeptJournal, IsUnsettled}
use Rattle.client_core.specs.declared.settling.Unsettled.{Unsettled}
use Rattle.client_core.specs.declared.settling.Unsettled.TheVariants as unsettled
use Rattle.script_core.specs.WithThreads.{IsSettledReply}
use Rattle.script_core.proofs.with_threads.settled_reply.Goals as goal

-- the reply where the client isn't settled with the zone
unsettled_reply : (zone : ZoneState) (client : Client) (result : Result Round RoundError) (answer : Reply) (clients : List Client) (error : Unsettled)
    → IsUnsettled zone clients error → (HasKeptJournal zone → Agrees zone.records client → ⊥) → answer ≡ reply.Refused (number_of_unsettled error)
    → IsSettledReply zone client result answer
unsettled_reply zone client result answer clients unsettled.NotKept is never refused = record {
  not_kept = λ _. refused;
  agrees = λ kept _. absurd (is kept);
  differs = λ kept _. absurd (is kept);
}
unsettled_reply zone client result answer clients (unsettled.Mismatch mismatch) is never refused = record {
  not_kept = λ told. absurd (told is.0);
  agrees = λ kept same. absurd (never kept same);
  differs = λ _ _. refused;
}

pub returns-in-Ok : goal.returns-in-Ok
returns-in-Ok g c =
    let settled = c.in-Ok.ensures.ok.0 refl in
    let agrees : Agrees c.args.zone.now.records c.args.client.now =
    subst (All (Agrees c.args.zone.now.records)) c.from_ref.ensures.value settled.1 0 c.args.client.now (omega arith) in
    record {
      not_kept = λ told. absurd (told settled.0);
      agrees = λ _ _. c.reply_to.ensures;
      differs = λ _ differ. absurd (differ agrees);
    }

pub returns-in-Err : goal.returns-in-Err
returns-in-Err g c =
    let never : HasKeptJournal c.args.zone.now → Agrees c.args.zone.now.records c.args.client.now → ⊥ =
    λ kept same. true≢false (sym (c.in-Err.ensures.ok.1 (kept, rw c.from_ref.ensures.value (All-cons (Agrees c.args.zone.now.records) c.args.client.now [] same (All-nil (Agrees c.args.zone.now.records)))))) in
    unsettled_reply c.args.zone.now c.args.client.now c.args.round _ _ c.in-Err.unsettled c.in-Err.ensures.refused never (search rules)
