use Rattle.std.proofs.Common.{◌∙◌, arith}
use Rattle.state_core.specs.Lending.{page_lent}
use Rattle.zone_tables.proofs.Facts.{Becomes}
use Rattle.zone_tables.proofs.LendingPages.{lend_holds, row_words}
use Rattle.zone_tables.proofs.LoadsAndStores.{resident, resident_here}
use Rattle.zone_tables.proofs.zone.ZoneTables.lend_page.Given.{Over}
use Rattle.zone_tables.proofs.zone.ZoneTables.lend_page.Goals as goal
use Rattle.zone_tables.proofs.zone.ZoneTables.lend_page.Goals.{After-lend_block}

pub lend_block-requires : goal.lend_block-requires
lend_block-requires g c =
    let is = (resident c.self.view_is c.self.invariant c.in_ok-frame.ensures.frame).1 in
    (omega arith, (omega (arith, is.row_within), resident_here c.self.view_is c.self.invariant c.args.address c.in_ok-frame.ensures.frame c.in_ok-frame.ensures.here))

lends : {g : Over} (c : After-lend_block g) → Becomes (record c.self.inside { words = c.lend_block.new.self }) (page_lent c.args.self.now c.args.address)
lends c = lend_holds c.self.view_is c.self.invariant c.args.address c.in_ok-frame.ensures.frame c.in_ok-frame.ensures.pinned c.in_ok-frame.ensures.given c.lend_block.new.self c.lend_block.ensures.rows c.lend_block.ensures.at c.lend_block.ensures.lent

pub invariant_of-self : goal.invariant_of-self
invariant_of-self g c = (lends c).0

pub returns-clause-words : goal.returns-clause-words
returns-clause-words g c = c.lend_block.ensures.row.1 ∙ row_words c.self.view_is c.self.invariant c.args.address c.in_ok-frame.ensures.frame

pub returns-clause-ok : goal.returns-clause-ok
returns-clause-ok g c = (lends c).1

pub returns-clause-valid : goal.returns-clause-valid
returns-clause-valid g c = (lends c).0.valid
