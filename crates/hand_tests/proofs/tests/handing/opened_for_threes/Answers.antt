use Rattle.std.proofs.Common.{ap}
use Rattle.std.proofs.lemmas.Result.{IfOk-at_ok}
use Rattle.hand_core.specs.PageEnds.{Giver, Taker}
use Rattle.hand_tests.proofs.tests.handing.opened_for_threes.Goals as goal

-- the giver and each taker are as they were opened
pub returns-clause-giver : goal.returns-clause-giver
returns-clause-giver g c =
    let giver = IfOk-at_ok _ c.expect-giver.ensures c.open_in_batches.ensures.giver in
    (ap (λ (v : Giver). v.closed) giver, ap (λ (v : Giver). v.given) giver, ap (λ (v : Giver). v.base) giver, ap (λ (v : Giver). v.most) giver)

pub last_taker-requires : goal.last_taker-requires
last_taker-requires g c k d low = ap (λ (t : Taker). t.ended) (IfOk-at_ok _ c.expect-giver.ensures c.open_in_batches.ensures.fresh k d low)

pub returns-clause-taker : goal.returns-clause-taker
returns-clause-taker g c =
    let fresh = IfOk-at_ok _ c.expect-giver.ensures c.open_in_batches.ensures.fresh in
    (c.last_taker.ensures.hand_over _ (λ k d low. ap (λ (t : Taker). t.hand_over) (fresh k d low)), c.last_taker.ensures.going)
