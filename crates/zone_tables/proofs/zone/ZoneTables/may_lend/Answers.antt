use Rattle.std.proofs.Common.{◌∙◌, ap, sym, arith, is_some}
use Rattle.zone_tables.proofs.BlockFrames.{order_held}
use Rattle.zone_tables.proofs.zone.ZoneTables.may_lend.Goals as goal

pub is_lent-requires : goal.is_lent-requires
is_lent-requires g c = (omega arith, ap is_some (order_held _ c.args.order (sym c.is_handed_out.ensures ∙ c.if-not-is_handed_out.false)))
