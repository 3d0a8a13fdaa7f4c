use Rattle.std.proofs.Common.{◌∙◌, ap, sym}
use Rattle.std.specs.Prelude.{Some}
use Rattle.state_core.specs.declared.information.Look.TheVariants as look
use Rattle.state_core.specs.Looking.{look_by}
use Rattle.state_core.proofs.Placed.{clash}
use Rattle.zone_tables.proofs.Tables.{placement_seen}
use Rattle.zone_tables.proofs.zone.ZoneTables.look_at.Goals as goal

pub returns-in_err-frame : goal.returns-in_err-frame
returns-in_err-frame g c =
    absurd (clash _ (sym (placement_seen c.self.inside c.args.self.now c.self.view_is c.args.page) ∙ sym c.placement.ensures ∙ c.in_err-frame.was) c.requires)

pub returns-in-At : goal.returns-in-At
returns-in-At g c =
    let at = sym (placement_seen c.self.inside c.args.self.now c.self.view_is c.args.page) ∙ sym c.placement.ensures ∙ c.in_ok-frame.was ∙ ap Some c.in-At.is in
    (λ i. Some (look.At c.in-At.frame (c.flags_of.ensures i) (c.uses_of-pins.ensures.pins i) (c.uses_of-pins.ensures.maps i)))
    ∙ sym (ap (look_by c.args.self.now c.args.page) at)

pub returns-in-Moving : goal.returns-in-Moving
returns-in-Moving g c =
    let at = sym (placement_seen c.self.inside c.args.self.now c.self.view_is c.args.page) ∙ sym c.placement.ensures ∙ c.in_ok-frame.was ∙ ap Some c.in-Moving.is in
    (λ i. Some (look.Moving c.in-Moving.serial (c.uses_of-pins.ensures.pins i) (c.uses_of-pins.ensures.maps i)))
    ∙ sym (ap (look_by c.args.self.now c.args.page) at)
