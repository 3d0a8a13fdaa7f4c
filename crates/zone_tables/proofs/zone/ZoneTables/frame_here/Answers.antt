use Rattle.std.proofs.Common.{arith}
use Rattle.state_core.specs.declared.placement.Placement.TheVariants.{At}
use Rattle.state_core.proofs.Facts.{page_named}
use Rattle.state_core.proofs.Holding.{at_takes}
use Rattle.zone_tables.proofs.zone.ZoneTables.frame_here.Goals as goal

pub is_lent_in-requires : goal.is_lent_in-requires
is_lent_in-requires g c =
    let page = page_named c.args.self.now c.args.address.now (At c.in_ok-frame.frame) c.in_ok-frame.ensures.frame in
    (omega arith, (page.0, at_takes _ c.in_ok-frame.frame page.2))
