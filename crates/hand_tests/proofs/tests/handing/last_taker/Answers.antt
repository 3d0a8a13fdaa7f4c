use Rattle.std.proofs.Common.{◌≡◌, false, subst}
use Rattle.std.specs.Prelude.{IfSome}
use Rattle.std.proofs.lemmas.List.Elements.{All-pop}
use Rattle.hand_core.specs.PageEnds.{Taker}
use Rattle.hand_tests.proofs.tests.handing.last_taker.Goals as goal

pub returns-clause-going : goal.returns-clause-going
returns-clause-going g c =
    subst (λ r. IfSome r (λ (t : Taker). t.ended ≡ false)) c.expect.ensures (All-pop (λ (t : Taker). t.ended ≡ false) _ _ _ c.pop.ensures.items c.requires).1

pub returns-clause-hand_over : goal.returns-clause-hand_over
returns-clause-hand_over g c h all =
    subst (λ r. IfSome r (λ (t : Taker). t.hand_over ≡ h)) c.expect.ensures (All-pop (λ (t : Taker). t.hand_over ≡ h) _ _ _ c.pop.ensures.items all).1
