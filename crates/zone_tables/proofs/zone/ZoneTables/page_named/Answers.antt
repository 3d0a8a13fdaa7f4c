use Rattle.std.proofs.Common.{◌≡◌, ◌∙◌, ℕ, subst, sym, arith}
use Rattle.std.specs.Prelude.{Option, Some, IfSome}
use Rattle.state_core.specs.declared.placement.Placement.TheVariants.{At, Moving}
use Rattle.state_core.specs.ZoneState.{placement_at}
use Rattle.zone_tables.proofs.Facts.{is_sound}
use Rattle.zone_tables.proofs.LoadsAndStores.{present_is}
use Rattle.state_core.proofs.Facts.{page_named, frame_within, not_none}
use Rattle.state_core.proofs.Holding.{holder_at}
use Rattle.zone_tables.proofs.MovingPages.{only_page}
use Rattle.zone_tables.proofs.Tables.{migration_is}
use Rattle.zone_tables.proofs.zone.ZoneTables.page_named.Goals as goal

named_so : (o : Option ℕ) (P : ℕ → Type 0) (page : ℕ) → o ≡ Some page → P page → IfSome o P
named_so o P page is holds = subst (λ (o : Option ℕ). IfSome o P) (sym is) holds

pub holder-requires : goal.holder-requires
holder-requires g c =
    let sound = is_sound c.self.view_is c.self.invariant in
    let at = present_is (placement_at c.args.self.now c.args.address.now) c.in-Present.frame
    (sym (sound.entries.each c.args.address.now c.entry.ensures.range) ∙ sym c.entry.ensures.value ∙ c.in-Present.is) in
    let page = page_named c.args.self.now c.args.address.now (At c.in-Present.frame) at in
    (omega arith, frame_within c.args.self.now sound.valid page.0 (At c.in-Present.frame) page.2)

pub returns-in-Present : goal.returns-in-Present
returns-in-Present g c =
    let sound = is_sound c.self.view_is c.self.invariant in
    let at = present_is (placement_at c.args.self.now c.args.address.now) c.in-Present.frame
    (sym (sound.entries.each c.args.address.now c.entry.ensures.range) ∙ sym c.entry.ensures.value ∙ c.in-Present.is) in
    let page = page_named c.args.self.now c.args.address.now (At c.in-Present.frame) at in
    let is = c.holder.ensures.holder ∙ holder_at c.args.self.now sound.valid page.0 c.in-Present.frame page.2 in
    record { page = is ∙ sym page.1; in_use = named_so c.holder.result _ page.0 is (not_none _ (At c.in-Present.frame) page.2) }

pub page_from-requires : goal.page_from-requires
page_from-requires g c =
    let sound = is_sound c.self.view_is c.self.invariant in
    let at = migration_is (placement_at c.args.self.now c.args.address.now) c.in-Migration.source
    (sym (sound.entries.each c.args.address.now c.entry.ensures.range) ∙ sym c.entry.ensures.value ∙ c.in-Migration.is) in
    let way = Moving at.0 c.in-Migration.source at.1 in
    let page = page_named c.args.self.now c.args.address.now way at.2 in
    (omega arith, frame_within c.args.self.now sound.valid page.0 way page.2)

pub returns-in-Migration : goal.returns-in-Migration
returns-in-Migration g c =
    let sound = is_sound c.self.view_is c.self.invariant in
    let at = migration_is (placement_at c.args.self.now c.args.address.now) c.in-Migration.source
    (sym (sound.entries.each c.args.address.now c.entry.ensures.range) ∙ sym c.entry.ensures.value ∙ c.in-Migration.is) in
    let way = Moving at.0 c.in-Migration.source at.1 in
    let page = page_named c.args.self.now c.args.address.now way at.2 in
    let is = only_page c.args.self.now sound.valid c.in-Migration.source page.0 (at.0, at.1, page.2) c.page_from.result c.page_from.ensures.some c.page_from.ensures.none in
    record { page = is ∙ sym page.1; in_use = named_so c.page_from.result _ page.0 is (not_none _ way page.2) }
