use Rattle.std.proofs.Common.{◌∙◌, sym, arith}
use Rattle.state_core.specs.declared.placement.Placement.TheVariants.{At}
use Rattle.state_core.proofs.Calls.{last_unpinned}
use Rattle.state_core.proofs.Facts.{page_stands, spare}
use Rattle.state_core.proofs.Unmapping.{unmapped_last, unmapped_still}
use Rattle.zone_tables.proofs.Facts.{is_sound}
use Rattle.zone_tables.proofs.Tables.{named_in_use, note_seen}
use Rattle.zone_tables.proofs.zone.ZoneTables.unmap.Goals as goal

pub unmap_last-requires : goal.unmap_last-requires
unmap_last-requires g c =
    let seen = note_seen c.self.view_is (is_sound c.self.view_is c.self.invariant) (named_in_use c.self.view_is c.self.invariant c.args.address c.args.page c.requires.named) c.get.ensures in
    let at = page_stands c.args.self.now c.args.address (At c.args.frame) c.args.page c.requires.named c.requires.frame in
    (omega arith, (c.requires.room, (c.requires.named, (at, (sym seen.fits.maps ∙ c.if-get-eq1.true, last_unpinned c.args.self.now c.args.address c.args.page c.requires.named c.requires.unpinned (sym seen.fits.maps ∙ c.if-get-eq1.true))))))

pub unmap_one-requires : goal.unmap_one-requires
unmap_one-requires g c =
    let seen = note_seen c.self.view_is (is_sound c.self.view_is c.self.invariant) (named_in_use c.self.view_is c.self.invariant c.args.address c.args.page c.requires.named) c.get.ensures in
    let at = page_stands c.args.self.now c.args.address (At c.args.frame) c.args.page c.requires.named c.requires.frame in
    (omega arith, (c.requires.room, (c.requires.named, ((c.args.frame, at), λ one. c.if-get-eq1.false (seen.fits.maps ∙ one)))))

pub returns-then-get-eq1-clause-step : goal.returns-then-get-eq1-clause-step
returns-then-get-eq1-clause-step g c =
    let sound = is_sound c.self.view_is c.self.invariant in
    let seen = note_seen c.self.view_is sound (named_in_use c.self.view_is c.self.invariant c.args.address c.args.page c.requires.named) c.get.ensures in
    let at = page_stands c.args.self.now c.args.address (At c.args.frame) c.args.page c.requires.named c.requires.frame in
    c.unmap_last.ensures.step
    ∙ sym (unmapped_last c.args.self.now c.args.client c.args.address c.args.page c.args.frame
    (record { valid = sound.valid; spare = spare c.args.self.now c.requires.room; named = c.requires.named; at = at; unpinned = last_unpinned c.args.self.now c.args.address c.args.page c.requires.named c.requires.unpinned }) (sym seen.fits.maps ∙ c.if-get-eq1.true))

pub returns-else-get-eq1-clause-step : goal.returns-else-get-eq1-clause-step
returns-else-get-eq1-clause-step g c =
    let sound = is_sound c.self.view_is c.self.invariant in
    let seen = note_seen c.self.view_is sound (named_in_use c.self.view_is c.self.invariant c.args.address c.args.page c.requires.named) c.get.ensures in
    let at = page_stands c.args.self.now c.args.address (At c.args.frame) c.args.page c.requires.named c.requires.frame in
    c.unmap_one.ensures.step
    ∙ sym (unmapped_still c.args.self.now c.args.client c.args.address c.args.page c.args.frame
    (record { valid = sound.valid; spare = spare c.args.self.now c.requires.room; named = c.requires.named; at = at; unpinned = last_unpinned c.args.self.now c.args.address c.args.page c.requires.named c.requires.unpinned }) (λ one. c.if-get-eq1.false (seen.fits.maps ∙ one)))
