use Rattle.std.proofs.Common.{◌++◌, ◌∷◌, [], ap, ◌∙◌}
use Rattle.hand_core.specs.CopyEnds.{has_ended}
use Rattle.hand_core.proofs.done_taker.DoneTaker.try_take.Goals as goal

pub returns-in-Some-next_in_hand-clause-copies : goal.returns-in-Some-next_in_hand-clause-copies
returns-in-Some-next_in_hand-clause-copies g c =
    let old = c.loop.invariant in c.in-Some-next_in_hand.ensures.some ∙ ap (λ l. l ++ c.in-Some-next_in_hand.copy ∷ []) old.copies

pub returns-in-Some-next_in_hand-clause-end : goal.returns-in-Some-next_in_hand-clause-end
returns-in-Some-next_in_hand-clause-end g c = let old = c.loop.invariant in ap has_ended c.in-Some-next_in_hand.ensures.same ∙ old.going
