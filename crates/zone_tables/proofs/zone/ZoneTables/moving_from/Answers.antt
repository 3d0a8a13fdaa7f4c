use Rattle.std.proofs.Common.{◌≡◌, ◌∙◌, ap, sym, arith}
use Rattle.std.specs.Prelude.{Some}
use Rattle.state_core.specs.declared.placement.Placement.TheVariants.{Moving}
use Rattle.state_core.proofs.Facts.{not_none}
use Rattle.zone_tables.proofs.Tables.{placement_seen}
use Rattle.zone_tables.proofs.zone.ZoneTables.moving_from.Goals as goal

pub returns-in_err-serial-clause-none : goal.returns-in_err-serial-clause-none
returns-in_err-serial-clause-none g c = λ none page serial target at.
    let leaves = c.in_ok-page.ensures.some in
    let bad = sym c.in_err-serial.was ∙ (c.placement.ensures ∙ placement_seen c.self.inside c.args.self.now c.self.view_is c.in_ok-page.page) ∙ leaves.2 in cc

pub returns-in_default-clause-none : goal.returns-in_default-clause-none
returns-in_default-clause-none g c = λ none page serial target at.
    let leaves = c.in_ok-page.ensures.some in
    let two = sym c.in_ok-serial.was ∙ (c.placement.ensures ∙ placement_seen c.self.inside c.args.self.now c.self.view_is c.in_ok-page.page) ∙ leaves.2 in
    let same : c.in_ok-serial.field-0 ≡ Moving leaves.0 c.args.source leaves.1 = cc in
    c.in_default.not-Moving leaves.0 c.args.source leaves.1 same

pub flags_of-requires : goal.flags_of-requires
flags_of-requires g c = let leaves = c.in_ok-page.ensures.some in (omega arith, not_none _ (Moving leaves.0 c.args.source leaves.1) leaves.2)

pub lowest_address-requires : goal.lowest_address-requires
lowest_address-requires g c = (
  omega arith,
  (c.in-Moving.serial, c.in-Moving.target, sym (c.placement.ensures ∙ placement_seen c.self.inside c.args.self.now c.self.view_is c.in_ok-page.page) ∙ c.in_ok-serial.was ∙ ap Some c.in-Moving.is),
)

pub returns-clause-some : goal.returns-clause-some
returns-clause-some g c = record {
  left =
      let leaves = c.in_ok-page.ensures.some in
      let two = sym (c.in_ok-serial.was ∙ ap Some c.in-Moving.is) ∙ (c.placement.ensures ∙ placement_seen c.self.inside c.args.self.now c.self.view_is c.in_ok-page.page) ∙ leaves.2 in cc;
  placed = sym (c.placement.ensures ∙ placement_seen c.self.inside c.args.self.now c.self.view_is c.in_ok-page.page) ∙ c.in_ok-serial.was ∙ ap Some c.in-Moving.is;
  flags = c.flags_of.ensures;
  address = c.lowest_address.ensures;
}
