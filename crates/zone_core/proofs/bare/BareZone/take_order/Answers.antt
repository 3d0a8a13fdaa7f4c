use Rattle.std.proofs.Common.{rules, ◌∙◌, refl, ap}
use Rattle.std.specs.FinMap as map
use Rattle.state_core.specs.ZoneState.{ZoneState}
use Rattle.state_core.proofs.Entries.{get_insert_same}
use Rattle.state_core.proofs.HandingOut.{blocks_are_clear}
use Rattle.zone_core.proofs.bare.BareZone.take_order.Goals as goal

pub returns-clause-clear : goal.returns-clause-clear
returns-clause-clear g c =
    blocks_are_clear _ c.hand_out.ensures.valid c.in-Some.first c.args.order
    (ap (λ (v : ZoneState). map.get v.handed_out c.in-Some.first) c.hand_out.ensures.step ∙ get_insert_same _ c.in-Some.first c.in-Some.first c.args.order refl)

pub returns-in_default-clause-made : goal.returns-in_default-clause-made
returns-in_default-clause-made g c = search rules
