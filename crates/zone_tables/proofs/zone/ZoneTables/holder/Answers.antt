use Rattle.std.proofs.Common.{◌≡◌, ◌∙◌, refl, subst, sym, arith, ℕ}
use Rattle.std.specs.Prelude.{IfSome, Option, Some, slice_get}
use Rattle.std.specs.FinMap as map
use Rattle.state_core.specs.declared.placement.Placement.TheVariants.{At}
use Rattle.zone_tables.proofs.Facts.{is_sound}
use Rattle.zone_tables.proofs.Tables.{held_here, held_seen}
use Rattle.zone_tables.proofs.zone.ZoneTables.holder.Goals as goal

pub held_page-requires : goal.held_page-requires
held_page-requires g c = omega (arith, c.requires, (is_sound c.self.view_is c.self.invariant).frames.count)

pub returns : goal.returns
returns g c =
    let v = c.args.self.now in
    let sound = is_sound c.self.view_is c.self.invariant in
    let states = c.self.inside.frames.states in
    let state = slice_get states c.args.frame in
    record {
      holder = c.held_page.ensures ∙ held_seen states v sound.valid sound.frames c.args.frame c.requires state refl;
      here = subst (λ (o : Option ℕ). IfSome o (λ page. map.get v.placement page ≡ Some (At c.args.frame))) (sym c.held_page.ensures)
          (held_here states v sound.valid sound.frames c.args.frame c.requires state refl);
    }
