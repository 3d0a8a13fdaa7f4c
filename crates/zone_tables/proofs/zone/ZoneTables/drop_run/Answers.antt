use Rattle.std.proofs.Common.{◌^◌, ◌%◌, ◌∙◌, ap, arith}
use Rattle.std.proofs.lemmas.Bool.{and_parts}
use Rattle.frame_core.specs.Order.{is_aligned}
use Rattle.scan_core.proofs.Orders.{no_rest}
use Rattle.fewest_core.proofs.OpenRuns.{block_within}
use Rattle.std.specs.FinSet as set
use Rattle.std.specs.Prelude.{◌+◌, not, ◌&&◌, nat_le, nat_lt}
use Rattle.state_core.specs.Claiming.{run_dropped}
use Rattle.zone_tables.proofs.BlockFrames.{block_seen}
use Rattle.zone_tables.proofs.Claimed.{run_holds, run_huge}
use Rattle.zone_tables.proofs.Facts.{is_sound, Becomes}
use Rattle.zone_tables.proofs.zone.ZoneTables.drop_run.Given.{Over}
use Rattle.zone_tables.proofs.zone.ZoneTables.drop_run.Goals as goal
use Rattle.zone_tables.proofs.zone.ZoneTables.drop_run.Goals.{After-forget_round}

pub release-requires : goal.release-requires
release-requires g c =
    let sound = is_sound c.self.view_is c.self.invariant in
    record {
      block = block_seen c.self.inside.frames.states c.args.self.now sound.frames c.args.order c.args.first ∙ c.requires.block;
      huge = run_huge c.self.inside c.args.self.now sound c.self.view_is c.args.first c.args.order c.requires.block c.requires.claimed;
    }

pub remove_run-requires : goal.remove_run-requires
remove_run-requires g c =
    let count = ap (λ o. 2 ^ o) c.get-2.ensures.value in
    record {
      order = c.get-2.ensures.high;
      aligned = (λ i. c.get.ensures.value i % count i) ∙ no_rest c.args.order (omega (arith, c.get-2.ensures.low, c.get-2.ensures.value)) (omega (arith, c.get-2.ensures.high, c.get-2.ensures.value)) c.args.first (and_parts (is_aligned c.args.order c.args.first) _ c.requires.block).0;
      within = omega (arith, count, c.get.ensures.value, block_within c.args.self.now c.args.first c.args.order c.requires.block, (is_sound c.self.view_is c.self.invariant).claimed);
    }

dropped : {g : Over} (c : After-forget_round g) → Becomes (record c.self.inside { frames = c.release.new.self; claimed = c.remove_run.new.self; history = c.forget_round.new.self }) (run_dropped c.args.first (2 ^ c.args.order) c.args.self.now)
dropped c = run_holds c.self.inside c.args.self.now (is_sound c.self.view_is c.self.invariant) c.self.view_is c.args.first c.args.order c.requires.block c.requires.claimed c.release.ensures (λ frame. c.remove_run.ensures.run frame ∙ (λ i. not (nat_le (c.get.ensures.value i) frame && nat_lt frame (c.get.ensures.value i + 2 ^ c.get-2.ensures.value i)) && set.contains c.self.inside.claimed.members frame)) c.remove_run.ensures.bound c.forget_round.ensures

pub invariant_of-self : goal.invariant_of-self
invariant_of-self g c = (dropped c).0

pub returns-clause-step : goal.returns-clause-step
returns-clause-step g c = (dropped c).1

pub returns-clause-valid : goal.returns-clause-valid
returns-clause-valid g c = (invariant_of-self g c).valid
