use Rattle.std.proofs.Common.{refl}
use Rattle.script_core.proofs.RunsAs.{played_carried}
use Rattle.script_core.proofs.watched.RefMutPlayer.play.Goals as goal

pub returns-clause-played : goal.returns-clause-played
returns-clause-played g c =
    played_carried _ g.A.Respond.may (λ w. w.answering) (λ old c answers new step. step) _ g.A.Respond.asks (λ old command asks. asks) _ c.args.answering refl _ _ _ _ _ c.play.ensures.played
