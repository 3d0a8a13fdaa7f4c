use Rattle.std.proofs.Common.{◌∙◌, ap, arith}
use Rattle.std.specs.FinSet as set
use Rattle.state_core.specs.Claiming.{dropped_at}
use Rattle.zone_tables.proofs.Claimed.{claim_huge, dropped_holds}
use Rattle.zone_tables.proofs.Facts.{is_sound, Becomes}
use Rattle.zone_tables.proofs.zone.ZoneTables.drop_claim.Given.{Over}
use Rattle.zone_tables.proofs.zone.ZoneTables.drop_claim.Goals as goal
use Rattle.zone_tables.proofs.zone.ZoneTables.drop_claim.Goals.{After-forget_round}

pub release_frame-requires : goal.release_frame-requires
release_frame-requires g c = claim_huge c.self.inside c.args.self.now (is_sound c.self.view_is c.self.invariant) c.self.view_is c.args.frame c.requires

pub remove-requires : goal.remove-requires
remove-requires g c = let sound = is_sound c.self.view_is c.self.invariant in omega (arith, sound.claimed, sound.valid.blocks.claims c.args.frame c.requires, c.get.ensures.value)

dropped : {g : Over} (c : After-forget_round g) → Becomes (record c.self.inside { frames = c.release_frame.new.self; claimed = c.remove.new.self; history = c.forget_round.new.self }) (dropped_at c.args.self.now c.args.frame)
dropped c = dropped_holds c.self.inside c.args.self.now (is_sound c.self.view_is c.self.invariant) c.self.view_is c.args.frame c.requires c.release_frame.ensures.state (c.remove.ensures ∙ ap (λ k. record c.self.inside.claimed { members = set.remove c.self.inside.claimed.members k }) c.get.ensures.value) c.forget_round.ensures

pub invariant_of-self : goal.invariant_of-self
invariant_of-self g c = (dropped c).0

pub returns-clause-step : goal.returns-clause-step
returns-clause-step g c = (dropped c).1

pub returns-clause-valid : goal.returns-clause-valid
returns-clause-valid g c = (invariant_of-self g c).valid
