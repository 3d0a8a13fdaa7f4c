use Rattle.std.proofs.Common.{◌∙◌, ap, arith}
use Rattle.std.specs.FinSet as set
use Rattle.state_core.specs.Claiming.{claimed_at}
use Rattle.zone_tables.proofs.Claimed.{claimed_holds}
use Rattle.zone_tables.proofs.Facts.{is_sound, Becomes}
use Rattle.zone_tables.proofs.SearchesAndCounts.{free_seen}
use Rattle.zone_tables.proofs.zone.ZoneTables.claim.Given.{Over}
use Rattle.zone_tables.proofs.zone.ZoneTables.claim.Goals as goal
use Rattle.zone_tables.proofs.zone.ZoneTables.claim.Goals.{After-forget_round}

pub hold_frame-requires : goal.hold_frame-requires
hold_frame-requires g c = free_seen c.self.inside.frames.states c.args.self.now (is_sound c.self.view_is c.self.invariant).frames c.args.frame c.requires.within ∙ c.requires.free

pub insert-requires : goal.insert-requires
insert-requires g c = let sound = is_sound c.self.view_is c.self.invariant in omega (arith, sound.claimed, c.requires.within, c.get.ensures.value)

claimed : {g : Over} (c : After-forget_round g) → Becomes (record c.self.inside { frames = c.hold_frame.new.self; claimed = c.insert.new.self; history = c.forget_round.new.self }) (claimed_at c.args.self.now c.args.frame)
claimed c = claimed_holds c.self.inside c.args.self.now (is_sound c.self.view_is c.self.invariant) c.self.view_is c.args.frame c.requires.free c.requires.within c.hold_frame.ensures.state (c.insert.ensures ∙ ap (λ k. record c.self.inside.claimed { members = set.insert c.self.inside.claimed.members k }) c.get.ensures.value) c.forget_round.ensures

pub invariant_of-self : goal.invariant_of-self
invariant_of-self g c = (claimed c).0

pub returns-clause-step : goal.returns-clause-step
returns-clause-step g c = (claimed c).1

pub returns-clause-valid : goal.returns-clause-valid
returns-clause-valid g c = (invariant_of-self g c).valid
