use Rattle.std.proofs.Common.{◌≡◌, false, subst}
use Rattle.std.specs.Prelude.{IfSome}
use Rattle.std.proofs.lemmas.List.Elements.{All-pop}
use Rattle.hand_core.specs.CopyEnds.{DoneSender}
use Rattle.hand_tests.proofs.tests.copying.last_sender.Goals as goal

pub returns-clause-last : goal.returns-clause-last
returns-clause-last g c =
    subst (λ r. IfSome r (λ (s : DoneSender). s.closed ≡ false)) c.expect.ensures (All-pop (λ (s : DoneSender). s.closed ≡ false) _ _ _ c.pop.ensures.items c.requires).1

pub returns-clause-most : goal.returns-clause-most
returns-clause-most g c most all =
    subst (λ r. IfSome r (λ (s : DoneSender). s.most ≡ most)) c.expect.ensures (All-pop (λ (s : DoneSender). s.most ≡ most) _ _ _ c.pop.ensures.items all).1

pub returns-clause-others : goal.returns-clause-others
returns-clause-others g c = (All-pop (λ (s : DoneSender). s.closed ≡ false) _ _ _ c.pop.ensures.items c.requires).0
