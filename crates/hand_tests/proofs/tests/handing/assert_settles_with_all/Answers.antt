use Rattle.std.proofs.Common.{◌≡◌}
use Rattle.std.proofs.lemmas.List.Elements.{All-pop}
use Rattle.hand_core.specs.PageEnds.{Taker}
use Rattle.hand_tests.proofs.tests.handing.assert_settles_with_all.Goals as goal

pub settle-requires : goal.settle-requires
settle-requires g c = (All-pop (λ (t : Taker). t.hand_over ≡ c.args.giver.hand_over) _ _ _ c.pop.ensures.items c.requires).0
