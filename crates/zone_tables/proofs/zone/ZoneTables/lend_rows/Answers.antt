use Rattle.std.proofs.Common.{◌∙◌, ap, length, subst, sym, arith}
use Rattle.std.specs.FinSet as set
use Rattle.state_core.specs.LentMoves.{IsLentMove}
use Rattle.state_core.specs.ZoneState.{ZoneState}
use Rattle.zone_tables.proofs.Facts.{Becomes, is_sound}
use Rattle.zone_tables.proofs.LendingMoves.{move_lent_holds, rows_lent, still_here}
use Rattle.zone_tables.proofs.LendingPages.{frames_now}
use Rattle.zone_tables.proofs.LentBlocks.{source_here}
use Rattle.zone_tables.proofs.MoveEnds.{source_row, target_row}
use Rattle.zone_tables.proofs.zone.ZoneTables.lend_rows.Given.{Over}
use Rattle.zone_tables.proofs.zone.ZoneTables.lend_rows.Goals as goal
use Rattle.zone_tables.proofs.zone.ZoneTables.lend_rows.Goals.{After-of}

pub lend_block-from-requires : goal.lend_block-from-requires
lend_block-from-requires g c =
    let way = c.args.way in
    let at = c.requires.placed in
    (omega arith, (omega (arith, source_row c.self.view_is c.self.invariant way.page at), source_here c.self.inside c.args.self.now (is_sound c.self.view_is c.self.invariant) way.page way.serial way.source way.target at c.requires.here))

pub lend_block-to-requires : goal.lend_block-to-requires
lend_block-to-requires g c =
    let way = c.args.way in
    let at = c.requires.placed in
    let from = c.lend_block-from.ensures in
    (omega arith, (omega (arith, target_row c.self.view_is c.self.invariant way.page at, ap length from.rows), still_here c.self.view_is c.self.invariant way.page at c.lend_block-from.new.self.lent from.lent c.requires.here))

-- both frames are lent
lent : {g : Over} (c : After-of g) → Becomes (record c.self.inside { words = c.lend_block-to.new.self }) (record c.args.self.now { lent_pages = set.insert c.args.self.now.lent_pages c.args.way.page })
lent c =
    let from = c.lend_block-from.ensures in
    let to = c.lend_block-to.ensures in
    move_lent_holds c.self.view_is c.self.invariant c.args.way.page c.requires.placed c.requires.given
    c.lend_block-to.new.self (to.rows ∙ from.rows) (to.at.0 ∙ from.at.0, to.at.1 ∙ from.at.1) (frames_now from.lent to.lent)

pub invariant_of-self : goal.invariant_of-self
invariant_of-self g c = (lent c).0

pub returns-clause-lent : goal.returns-clause-lent
returns-clause-lent g c =
    let way = c.args.way in
    let from = c.lend_block-from.ensures in
    let to = c.lend_block-to.ensures in
    let rows = rows_lent c.self.view_is c.self.invariant way.page c.requires.placed c.requires.given
    c.lend_block-from.new.self c.lend_block-from.result c.lend_block-to.result from.at.0 from.rows from.row to.row (omega (arith, from.count), omega (arith, to.count)) in
    subst (λ (v : ZoneState). IsLentMove v c.of.result) (sym (lent c).1) (subst (IsLentMove (record c.args.self.now { lent_pages = set.insert c.args.self.now.lent_pages way.page })) (sym c.of.ensures) rows)

pub returns-clause-step : goal.returns-clause-step
returns-clause-step g c = (lent c).1

pub returns-clause-valid : goal.returns-clause-valid
returns-clause-valid g c = (lent c).0.valid
