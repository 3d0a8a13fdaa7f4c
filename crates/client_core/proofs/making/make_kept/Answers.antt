use Rattle.std.proofs.Common.{ap, ◌∙◌, sym, subst, rules}
use Rattle.std.specs.Prelude.{IsTrue}
use Rattle.hand_core.specs.Told.{pair_of}
use Rattle.state_core.specs.declared.call.ZoneAnswer.{ZoneAnswer}
use Rattle.state_core.specs.declared.call.ZoneCall.{ZoneCall}
use Rattle.state_core.specs.Calls.{after, answer_of, answers, is_of_client, record_of}
use Rattle.state_core.proofs.Calls.{call_answered}
use Rattle.client_core.proofs.Calls.{told_by}
use Rattle.client_core.proofs.Noted.{noted_by}
use Rattle.client_core.proofs.making.make_kept.Goals as goal

pub receipt_of-receipt-requires : goal.receipt_of-receipt-requires
receipt_of-receipt-requires g c =
    let zone = c.room.inside.zone in
    let answer = c.in_ok-answer.ensures.answer ∙ ap (λ (k : ZoneCall 8). answer_of k zone) c.get.ensures.value in
    subst (λ (a : ZoneAnswer). IsTrue (answers c.args.call a)) (sym answer) (call_answered 8 c.args.call zone)

pub invariant_of-room-2 : goal.invariant_of-room-2
invariant_of-room-2 g c =
    let zone = c.room.inside.zone in
    let zone_new = c.make.new.self in
    let client = c.args.client in
    let pair = pair_of c.args.slip.now in
    let is = c.get.ensures.value in
    let own = subst (λ (k : ZoneCall 8). IsTrue (is_of_client k)) is c.get.ensures.of_client in
    let left = c.in_ok-answer.ensures.ok ∙ ap (λ (k : ZoneCall 8). after k client zone) is in
    let call = noted_by c.args.call client zone zone_new own left in
    let answer = c.in_ok-answer.ensures.answer ∙ ap (λ (k : ZoneCall 8). answer_of k zone) is in
    let receipt = c.receipt_of-receipt.ensures ∙ ap (record_of c.args.call client) answer in
    let inv = c.room.invariant in (
      search rules,
      search rules,
      g.K.Keeping.calls zone zone_new client pair c.requires.allows inv.0 call inv.2,
      told_by call g.K.Keeping.told (g.K.Keeping.tells zone zone_new client pair c.requires.allows call inv.2) c.room.inside.stub inv.3 c.receipt_of-receipt.result (sym receipt) ∙ sym c.write_both.ensures.stub,
    )

pub returns-clause-ok : goal.returns-clause-ok
returns-clause-ok g c =
    c.in_ok-answer.ensures.ok
    ∙ ap (λ (k : ZoneCall 8). after k c.args.client c.room.inside.zone) c.get.ensures.value
    ∙ ap (after c.args.call c.args.client) c.room.view_is
