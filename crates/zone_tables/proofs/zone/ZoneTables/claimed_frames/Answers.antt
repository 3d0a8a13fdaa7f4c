use Rattle.std.proofs.Common.{◌^◌, ◌%◌, ◌∙◌, ap, arith}
use Rattle.std.proofs.lemmas.Bool.{and_parts}
use Rattle.frame_core.specs.Order.{is_aligned}
use Rattle.scan_core.proofs.Orders.{no_rest}
use Rattle.fewest_core.proofs.OpenRuns.{block_within}
use Rattle.std.specs.FinSet as set
use Rattle.scan_core.proofs.OpenRuns.{block_counted}
use Rattle.fewest_core.specs.Claims.{claimed_frames}
use Rattle.state_core.specs.ZoneState.{ZoneState}
use Rattle.zone_tables.proofs.Facts.{is_sound}
use Rattle.zone_tables.proofs.zone.ZoneTables.claimed_frames.Goals as goal

pub count_run-requires : goal.count_run-requires
count_run-requires g c =
    let count = ap (λ o. 2 ^ o) c.get-2.ensures.value in
    record {
      order = c.get-2.ensures.high;
      aligned = (λ i. c.get.ensures.value i % count i) ∙ no_rest c.args.order (omega (arith, c.get-2.ensures.low, c.get-2.ensures.value)) (omega (arith, c.get-2.ensures.high, c.get-2.ensures.value)) c.args.first (and_parts (is_aligned c.args.order c.args.first) _ c.requires).0;
      within = omega (arith, count, c.get.ensures.value, block_within c.args.self.now c.args.first c.args.order c.requires, (is_sound c.self.view_is c.self.invariant).claimed);
    }

pub returns : goal.returns
returns g c =
    block_counted (set.contains c.self.inside.claimed.members) c.get.result c.args.first c.get-2.result c.args.order c.count_run.result c.count_run.ensures c.get.ensures.value c.get-2.ensures.value
    ∙ ap (λ (u : ZoneState). claimed_frames c.args.first (2 ^ c.args.order) u) c.self.view_is
