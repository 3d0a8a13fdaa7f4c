use Rattle.std.proofs.Common.{◌∙◌, sym}
use Rattle.hand_tests.proofs.tests.handing.to_takers.Goals as goal

-- the takers come back with the hand-over that they were opened with, and so does the giver
pub assert_settles_with_all-requires : goal.assert_settles_with_all-requires
assert_settles_with_all-requires g c k d below =
    c.join-giver.ensures.second c.opened-giver.result.0.hand_over c.opened-giver.ensures.takers k d below ∙ sym c.join-giver.ensures.first
