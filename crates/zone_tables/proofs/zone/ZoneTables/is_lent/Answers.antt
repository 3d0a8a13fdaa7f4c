use Rattle.std.proofs.Common.{◌∙◌, ap, arith, is_some}
use Rattle.zone_tables.proofs.BlockOrders.{order_within}
use Rattle.zone_tables.proofs.Facts.{is_sound}
use Rattle.zone_tables.proofs.LentBlocks.{first_tells}
use Rattle.zone_tables.proofs.SearchesAndCounts.{orders_seen}
use Rattle.zone_tables.proofs.zone.ZoneTables.is_lent.Goals as goal

pub is_lent-requires : goal.is_lent-requires
is_lent-requires g c =
    let sound = is_sound c.self.view_is c.self.invariant in
    let within = order_within c.self.inside.handed_out c.args.first (ap is_some (λ i. orders_seen c.self.inside c.args.self.now c.self.view_is i c.args.first) ∙ c.requires) in
    (omega arith, omega (arith, within, sound.orders, sound.words.count))

pub returns : goal.returns
returns g c = c.is_lent.ensures ∙ first_tells c.self.inside c.args.self.now (is_sound c.self.view_is c.self.invariant) c.args.first c.requires
