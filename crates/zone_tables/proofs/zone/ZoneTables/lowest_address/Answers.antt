use Rattle.std.proofs.Common.{◌∙◌, ap, sym, arith}
use Rattle.std.specs.Prelude.{slice_get}
use Rattle.std.specs.Option.{option_copied}
use Rattle.state_core.specs.declared.placement.Placement.TheVariants.{Moving}
use Rattle.state_core.proofs.Facts.{frame_within}
use Rattle.zone_tables.proofs.Facts.{is_sound}
use Rattle.zone_tables.proofs.MovingPages.{some_found, lowest_found}
use Rattle.zone_tables.proofs.zone.ZoneTables.lowest_address.Goals as goal

pub mappings_moving-names-requires : goal.mappings_moving-names-requires
mappings_moving-names-requires g c =
    let sound = is_sound c.self.view_is c.self.invariant in
    let leaves = c.requires in
    omega (arith, frame_within c.args.self.now sound.valid c.args.page (Moving leaves.0 c.args.source leaves.1) leaves.2, sound.tables)

pub unreachable-requires : goal.unreachable-requires
unreachable-requires g c =
    let sound = is_sound c.self.view_is c.self.invariant in
    some_found c.args.self.now sound.valid c.self.inside.tables.entries sound.entries c.args.page c.args.source c.requires
    c.mappings_moving-names.result.items c.mappings_moving-names.ensures
    (ap (λ l. slice_get l 0) (sym c.deref.ensures.0) ∙ sym c.first.ensures.value ∙ ap option_copied c.in_default.is)

pub returns : goal.returns
returns g c =
    let sound = is_sound c.self.view_is c.self.invariant in
    lowest_found c.args.self.now sound.valid c.self.inside.tables.entries sound.entries c.args.page c.args.source c.requires
    c.mappings_moving-names.result.items c.mappings_moving-names.ensures c.in-Some.lowest.now
    (ap (λ l. slice_get l 0) (sym c.deref.ensures.0) ∙ sym c.first.ensures.value ∙ ap option_copied c.in-Some.is)
