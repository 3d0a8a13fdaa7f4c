use Rattle.std.proofs.Common.{◌∙◌, ap, arith}
use Rattle.std.specs.Prelude.{is_some}
use Rattle.std.specs.FinSet as set
use Rattle.fewest_core.specs.FewestMoves.{move_of}
use Rattle.state_core.specs.ZoneState.{ZoneState}
use Rattle.zone_tables.proofs.LendingMoves.{begun_at, begun_here}
use Rattle.zone_tables.proofs.zone.ZoneTables.lend_move.Goals as goal

pub lend_rows-requires : goal.lend_rows-requires
lend_rows-requires g c =
    let begun = c.begin_move-way.ensures in
    let at = begun_at c.args.self.now c.begin_move-way.new.self (move_of c.args.pair) c.begin_move-way.result begun.way (ap (λ (u : ZoneState). u.placement) begun.step) in
    let here = begun_here c.args.self.now c.begin_move-way.new.self (move_of c.args.pair) c.begin_move-way.result begun.way begun.here in
    (omega arith, (at, (here, ap (λ (u : ZoneState). is_some u.memory) begun.step ∙ c.requires.given)))

pub returns-clause-step : goal.returns-clause-step
returns-clause-step g c =
    let begun = c.begin_move-way.ensures in
    c.lend_rows.ensures.step ∙ (λ i. record (begun.step i) { lent_pages = set.insert (begun.step i).lent_pages (begun.way i).page })
