use Rattle.std.proofs.Common.{◌≡◌, ℕ, ◌<◌, [], false, length, get_or, sym, ap, ◌∙◌, rules}
use Rattle.std.proofs.lemmas.Option.{slice_get-get_or, same_Some}
use Rattle.std.proofs.lemmas.Result.{IfOk-at_ok}
use Rattle.hand_core.specs.CopyEnds.{DoneSender}
use Rattle.hand_tests.proofs.tests.copying.opened.Given.{Over}
use Rattle.hand_tests.proofs.tests.copying.opened.Goals.{After-expect}
use Rattle.hand_tests.proofs.tests.copying.opened.Goals as goal

-- each sender is as it was opened
sender : (g : Over) (c : After-expect g) (k : ℕ) (d : DoneSender) → k < length c.expect.result.0.items
    → get_or c.expect.result.0.items k d ≡ record { queue = c.expect.result.1.queue; most = 1; number = k; sent = []; marked = false; closed = false }
sender g c k d low =
    let count = IfOk-at_ok _ c.expect.ensures c.done_open.ensures.senders in
    let fresh = IfOk-at_ok _ c.expect.ensures c.done_open.ensures.fresh in
    same_Some _ _ (sym (slice_get-get_or _ k d low) ∙ fresh k (search (rules, count, low)))

pub returns-clause-queue : goal.returns-clause-queue
returns-clause-queue g c k d low = ap (λ (s : DoneSender). s.queue) (sender g c k d low)

pub returns-clause-open : goal.returns-clause-open
returns-clause-open g c k d low = ap (λ (s : DoneSender). s.closed) (sender g c k d low)
