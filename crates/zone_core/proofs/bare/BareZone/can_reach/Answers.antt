use Rattle.std.proofs.Common.{◌≡◌, ◌∙◌, ap, sym, is_some, arith}
use Rattle.std.specs.FinMap as map
use Rattle.state_core.specs.ZoneState.{ZoneState}
use Rattle.zone_tables.proofs.BlockFrames.{order_held}
use Rattle.zone_core.proofs.bare.BareZone.can_reach.Goals as goal

pub is_lent-requires : goal.is_lent-requires
is_lent-requires g c =
    (omega arith, ap (λ (v : ZoneState). is_some (map.get v.handed_out c.args.first)) (c.deref-3.ensures ∙ sym c.deref.ensures) ∙ ap is_some (order_held _ c.args.order (sym c.is_handed_out.ensures ∙ c.if-not-is_handed_out.false)))
