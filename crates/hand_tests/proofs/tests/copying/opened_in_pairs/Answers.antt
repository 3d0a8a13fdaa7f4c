use Rattle.std.proofs.Common.{sym, ap, ◌∙◌, rules}
use Rattle.std.proofs.lemmas.Option.{slice_get-get_or, same_Some}
use Rattle.std.proofs.lemmas.Result.{IfOk-at_ok}
use Rattle.hand_core.specs.CopyEnds.{DoneSender}
use Rattle.hand_tests.proofs.tests.copying.opened_in_pairs.Goals as goal

-- each sender is as it was opened
pub last_sender-requires : goal.last_sender-requires
last_sender-requires g c k d low =
    let count = IfOk-at_ok _ c.expect-senders.ensures c.done_open_in_batches.ensures.senders in
    let fresh = IfOk-at_ok _ c.expect-senders.ensures c.done_open_in_batches.ensures.fresh in
    ap (λ (s : DoneSender). s.closed) (same_Some _ _ (sym (slice_get-get_or _ k d low) ∙ fresh k (search (rules, count, low))))

pub returns-clause-sender : goal.returns-clause-sender
returns-clause-sender g c =
    let count = IfOk-at_ok _ c.expect-senders.ensures c.done_open_in_batches.ensures.senders in
    let fresh = IfOk-at_ok _ c.expect-senders.ensures c.done_open_in_batches.ensures.fresh in (
      c.last_sender.ensures.last,
      c.last_sender.ensures.most 2
          (λ k d low. ap (λ (s : DoneSender). s.most) (same_Some _ _ (sym (slice_get-get_or _ k d low) ∙ fresh k (search (rules, count, low))))),
    )
