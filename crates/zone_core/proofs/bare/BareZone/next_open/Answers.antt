use Rattle.std.proofs.Common.{◌∙◌, ◌^◌, ap, subst, sym, arith}
use Rattle.std.specs.Prelude.{None, Some}
use Rattle.std.proofs.lemmas.Bool.{both_ways}
use Rattle.fewest_core.specs.FewestMoves.{run_count}
use Rattle.scan_core.specs.FreeRuns.{free_in_run}
use Rattle.state_core.specs.ZoneState.{is_free}
use Rattle.zone_core.specs.Reserving.{least_free}
use Rattle.zone_core.proofs.Picking.{fewer_pages, found_all, found_fits, found_there, misses_early, start_there, told_next, walk_ends, walk_on, walk_over, walk_reaches, walk_takes, Misses}
use Rattle.zone_core.proofs.bare.BareZone.next_open.Goals as goal

pub returns-in-Some-clause-there : goal.returns-in-Some-clause-there
returns-in-Some-clause-there g c = start_there c.args.self.now (2 ^ c.args.order) c.args.last c.if-is_none.ensures c.in-Some.run' c.in-Some.ensures.next c.in-Some.ensures.ranked

pub least_free-requires : goal.least_free-requires
least_free-requires g c = found_fits c.args.self.now (2 ^ c.args.order) c.args.last c.loop-number.next c.loop-number.from c.loop-number.invariant.next

pub loop-number-preserved-in_default-open_run : goal.loop-number-preserved-in_default-open_run
loop-number-preserved-in_default-open_run g c =
    let z = c.args.self.now in
    let size = 2 ^ c.args.order in
    let found = told_next z c.deref.result.now (c.deref.ensures ∙ c.self.view_is) c.args.order c.loop-number.from c.least_free.result (least_free size c.loop-number.next) c.least_free.ensures (Some c.in-Some-next_run_with.number) c.in-Some-next_run_with.ensures in
    let here = walk_reaches z c.args.order c.loop-number.from c.args.last c.loop-number.next c.loop-number.invariant.next c.in-Some-next_run_with.number found in
    record {
      next = walk_on z size c.args.last c.loop-number.next c.in-Some-next_run_with.number here (λ there. absurd (both_ways _ (sym c.in_default-open_run.ensures.«open») there));
      within = omega (arith, found.within);
    }

pub returns-then-is_level-clause-there : goal.returns-then-is_level-clause-there
returns-then-is_level-clause-there g c =
    let z = c.args.self.now in
    let size = 2 ^ c.args.order in
    let found = told_next z c.deref.result.now (c.deref.ensures ∙ c.self.view_is) c.args.order c.loop-number.from c.least_free.result (least_free size c.loop-number.next) c.least_free.ensures (Some c.in-Some-next_run_with.number) c.in-Some-next_run_with.ensures in
    let here = walk_reaches z c.args.order c.loop-number.from c.args.last c.loop-number.next c.loop-number.invariant.next c.in-Some-next_run_with.number found in
    let r = c.in-Some-open_run.run' in
    let run = c.in-Some-open_run.ensures.run in
    let at = c.in-Some-open_run.ensures.number in
    let fewer = fewer_pages z c.args.order c.loop-number.from c.args.last c.loop-number.next c.loop-number.invariant.next r run (omega (arith, found.enough, ap (free_in_run (is_free z) c.args.order) at)) in
    let taken = walk_takes z size c.args.last c.loop-number.next c.in-Some-next_run_with.number r c.requires here run at (sym c.is_after.ensures ∙ c.if-is_after.true) fewer in
    let ended = walk_ends z size c.args.last c.in-Some-next_run_with.number (run_count z size) r c.requires taken (sym c.is_level.ensures ∙ c.if-is_level.true) found.within in
    found_there z size c.args.last c.requires (Some r) ended

pub returns-then-is_level-clause-ranked : goal.returns-then-is_level-clause-ranked
returns-then-is_level-clause-ranked g c =
    let z = c.args.self.now in
    let size = 2 ^ c.args.order in
    let found = told_next z c.deref.result.now (c.deref.ensures ∙ c.self.view_is) c.args.order c.loop-number.from c.least_free.result (least_free size c.loop-number.next) c.least_free.ensures (Some c.in-Some-next_run_with.number) c.in-Some-next_run_with.ensures in
    let here = walk_reaches z c.args.order c.loop-number.from c.args.last c.loop-number.next c.loop-number.invariant.next c.in-Some-next_run_with.number found in
    let r = c.in-Some-open_run.run' in
    let run = c.in-Some-open_run.ensures.run in
    let at = c.in-Some-open_run.ensures.number in
    let fewer = fewer_pages z c.args.order c.loop-number.from c.args.last c.loop-number.next c.loop-number.invariant.next r run (omega (arith, found.enough, ap (free_in_run (is_free z) c.args.order) at)) in
    let taken = walk_takes z size c.args.last c.loop-number.next c.in-Some-next_run_with.number r c.requires here run at (sym c.is_after.ensures ∙ c.if-is_after.true) fewer in
    let ended = walk_ends z size c.args.last c.in-Some-next_run_with.number (run_count z size) r c.requires taken (sym c.is_level.ensures ∙ c.if-is_level.true) found.within in
    found_all z size c.args.last c.requires (Some r) ended

pub loop-number-preserved-then-is_after : goal.loop-number-preserved-then-is_after
loop-number-preserved-then-is_after g c =
    let z = c.args.self.now in
    let size = 2 ^ c.args.order in
    let found = told_next z c.deref.result.now (c.deref.ensures ∙ c.self.view_is) c.args.order c.loop-number.from c.least_free.result (least_free size c.loop-number.next) c.least_free.ensures (Some c.in-Some-next_run_with.number) c.in-Some-next_run_with.ensures in
    let here = walk_reaches z c.args.order c.loop-number.from c.args.last c.loop-number.next c.loop-number.invariant.next c.in-Some-next_run_with.number found in
    let r = c.in-Some-open_run.run' in
    let run = c.in-Some-open_run.ensures.run in
    let at = c.in-Some-open_run.ensures.number in
    let fewer = fewer_pages z c.args.order c.loop-number.from c.args.last c.loop-number.next c.loop-number.invariant.next r run (omega (arith, found.enough, ap (free_in_run (is_free z) c.args.order) at)) in
    let taken = walk_takes z size c.args.last c.loop-number.next c.in-Some-next_run_with.number r c.requires here run at (sym c.is_after.ensures ∙ c.if-is_after.true) fewer in
    record { next = taken; within = omega (arith, found.within) }

pub loop-number-preserved : goal.loop-number-preserved
loop-number-preserved g c =
    let z = c.args.self.now in
    let size = 2 ^ c.args.order in
    let found = told_next z c.deref.result.now (c.deref.ensures ∙ c.self.view_is) c.args.order c.loop-number.from c.least_free.result (least_free size c.loop-number.next) c.least_free.ensures (Some c.in-Some-next_run_with.number) c.in-Some-next_run_with.ensures in
    let here = walk_reaches z c.args.order c.loop-number.from c.args.last c.loop-number.next c.loop-number.invariant.next c.in-Some-next_run_with.number found in
    let early = misses_early z size c.args.last c.loop-number.next c.in-Some-open_run.run' c.requires c.in-Some-open_run.ensures.run (sym c.is_after.ensures ∙ c.if-is_after.false) in
    record {
      next = walk_on z size c.args.last c.loop-number.next c.in-Some-next_run_with.number here (λ there. subst (Misses z size c.args.last c.loop-number.next) c.in-Some-open_run.ensures.number early);
      within = omega (arith, found.within);
    }

pub returns-clause-there : goal.returns-clause-there
returns-clause-there g c =
    let z = c.args.self.now in
    let size = 2 ^ c.args.order in
    let none = told_next z c.deref.result.now (c.deref.ensures ∙ c.self.view_is) c.args.order c.loop-number.from c.least_free.result (least_free size c.loop-number.next) c.least_free.ensures None c.in_default-next_run_with.ensures in
    let ended = walk_over z c.args.order c.loop-number.from c.args.last c.loop-number.next c.loop-number.invariant.next c.loop-number.invariant.within none in
    found_there z size c.args.last c.requires c.loop-number.next ended

pub returns-clause-ranked : goal.returns-clause-ranked
returns-clause-ranked g c =
    let z = c.args.self.now in
    let size = 2 ^ c.args.order in
    let none = told_next z c.deref.result.now (c.deref.ensures ∙ c.self.view_is) c.args.order c.loop-number.from c.least_free.result (least_free size c.loop-number.next) c.least_free.ensures None c.in_default-next_run_with.ensures in
    let ended = walk_over z c.args.order c.loop-number.from c.args.last c.loop-number.next c.loop-number.invariant.next c.loop-number.invariant.within none in
    found_all z size c.args.last c.requires c.loop-number.next ended
