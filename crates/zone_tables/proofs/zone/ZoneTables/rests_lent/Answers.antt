use Rattle.std.proofs.Common.{◌∙◌, sym, arith}
use Rattle.state_core.specs.declared.placement.Placement.TheVariants.{At}
use Rattle.state_core.proofs.Facts.{page_named}
use Rattle.state_core.proofs.Holding.{at_takes}
use Rattle.zone_tables.proofs.Facts.{is_sound}
use Rattle.zone_tables.proofs.LoadsAndStores.{present_is}
use Rattle.zone_tables.proofs.zone.ZoneTables.rests_lent.Goals as goal

pub is_lent_in-requires : goal.is_lent_in-requires
is_lent_in-requires g c =
    let sound = is_sound c.self.view_is c.self.invariant in
    let at = present_is _ c.in-Present.frame (sym (sound.entries.each c.args.address.now c.entry.ensures.range) ∙ sym c.entry.ensures.value ∙ c.in-Present.is) in
    let page = page_named c.args.self.now c.args.address.now (At c.in-Present.frame) at in
    (omega arith, (page.0, at_takes _ c.in-Present.frame page.2))
