use Rattle.std.proofs.Common.{◌*◌, ◌≤◌, sym, subst}
use Rattle.std.proofs.lemmas.Result.{IfOk-weaker}
use Rattle.hand_core.specs.PageEnds.{Giver}
use Rattle.hand_core.proofs.HandedOver.{room_fits}
use Rattle.hand_core.proofs.opening.open_in_batches.Goals as goal

pub returns-clause-giver : goal.returns-clause-giver
returns-clause-giver g c = c.opened.ensures.giver

pub returns-clause-cap : goal.returns-clause-cap
returns-clause-cap g c =
    IfOk-weaker c.opened.result _ _ (λ ends is. subst (λ (giver : Giver). giver.room * giver.most ≤ c.args.cap) (sym is) (room_fits c.args.cap c.args.most)) c.opened.ensures.giver
