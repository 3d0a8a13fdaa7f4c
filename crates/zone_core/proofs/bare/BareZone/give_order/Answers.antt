use Rattle.std.proofs.Common.{◌≡◌, ◌∙◌, true, ap, subst, sym, is_some, arith}
use Rattle.std.specs.FinMap as map
use Rattle.state_core.specs.HandingOut.{is_order, is_run}
use Rattle.state_core.specs.Valid.{IsValidZone}
use Rattle.state_core.specs.ZoneState.{ZoneState}
use Rattle.state_core.proofs.HandingOut.{run_given}
use Rattle.zone_tables.proofs.BlockFrames.{order_held}
use Rattle.zone_core.proofs.bare.BareZone.give_order.Goals as goal

pub is_lent-requires : goal.is_lent-requires
is_lent-requires g c =
    (omega arith, ap (λ (v : ZoneState). is_some (map.get v.handed_out c.args.first)) (c.deref-4.ensures ∙ sym c.deref-3.ensures) ∙ ap is_some (order_held _ c.args.order (sym c.is_handed_out.ensures ∙ c.if-not-is_handed_out.false)))

pub returns-clause-run : goal.returns-clause-run
returns-clause-run g c =
    let first = c.args.first in
    let order = c.args.order in
    let held = ap (λ (v : ZoneState). is_order (map.get v.handed_out first) order) (c.deref_mut.ensures.value ∙ sym c.deref-3.ensures) ∙ sym c.is_handed_out.ensures ∙ c.if-not-is_handed_out.false in
    subst (λ (v : ZoneState). is_run v order first ≡ true) (sym c.take_back.ensures.step)
    (run_given c.deref_mut.result.now (subst IsValidZone (sym c.deref_mut.ensures.value) c.self.invariant) first order (order_held _ order held))
