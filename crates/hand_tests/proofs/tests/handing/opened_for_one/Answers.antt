use Rattle.hand_tests.proofs.tests.handing.opened_for_one.Goals as goal

pub returns-clause-taker : goal.returns-clause-taker
returns-clause-taker g c = (c.last_taker.ensures.hand_over _ c.opened-giver.ensures.takers, c.last_taker.ensures.going)
