use Rattle.std.proofs.Common.{◌≡◌, ◌∙◌, length, ℕ, ◌-◌, ap, sym, arith}
use Rattle.std.specs.Prelude.{Option, is_some, unwrap_or}
use Rattle.std.specs.Option.{option_and_then}
use Rattle.std.specs.FinMap as map
use Rattle.std.specs.FinSet as set
use Rattle.std.proofs.lemmas.Bool.{and_from}
use Rattle.state_core.specs.declared.placement.Placement.{Placement}
use Rattle.state_core.specs.Packed.{frame_of}
use Rattle.std.proofs.lemmas.List.{length-set}
use Rattle.std.proofs.lemmas.Option.{slice_get_within}
use Rattle.frame_core.specs.declared.record.Record.TheVariants.{Unpin}
use Rattle.frame_core.specs.History.{pins}
use Rattle.state_core.proofs.Facts.{spare}
use Rattle.zone_tables.specs.declared.note.PageNote.{PageNote}
use Rattle.zone_tables.specs.Notes.{can_move_by, movable_at}
use Rattle.scan_core.specs.Frames.{is_holding_state}
use Rattle.zone_tables.proofs.Facts.{held_by, is_sound}
use Rattle.zone_tables.proofs.Noting.{Noting, noting_holds}
use Rattle.zone_tables.proofs.Pinned.{unpinning}
use Rattle.zone_tables.proofs.Tables.{changed_read, named_in_use, named_note, note_of, note_seen, use_seen}
use Rattle.zone_tables.proofs.zone.ZoneTables.unpin.Given.{Over}
use Rattle.zone_tables.proofs.zone.ZoneTables.unpin.Goals as goal
use Rattle.zone_tables.proofs.zone.ZoneTables.unpin.Goals.{After-get-current, After-note}

pub unpin-requires-clause-used : goal.unpin-requires-clause-used
unpin-requires-clause-used g c = use_seen c.self.inside c.self.view_is c.args.page (named_in_use c.self.view_is c.self.invariant c.args.address c.args.page c.requires.named)

pub unpin-requires-clause-some : goal.unpin-requires-clause-some
unpin-requires-clause-some g c note at =
    let seen = note_seen c.self.view_is (is_sound c.self.view_is c.self.invariant) (named_in_use c.self.view_is c.self.invariant c.args.address c.args.page c.requires.named) at in
    omega (arith, c.requires.some, ap (λ (o : Option ℕ). pins c.args.self.now.records (unwrap_or o 0)) c.requires.named, seen.fits.pins)

pub get-current-requires : goal.get-current-requires
get-current-requires g c =
    omega (
      arith,
      slice_get_within c.self.inside.notes c.args.page _ (named_note c.self.view_is c.self.invariant c.args.address c.args.page c.requires.named),
      ap length (c.unpin.ensures _ (named_note c.self.view_is c.self.invariant c.args.address c.args.page c.requires.named)),
      length-set c.self.inside.notes c.args.page (record (note_of c.self.inside c.args.page) { pins = (note_of c.self.inside c.args.page).pins - 1 }),
    )

-- the note that is read is the changed one
read : {g : Over} (c : After-get-current g) → c.get-current.result ≡ (record (note_of c.self.inside c.args.page) { pins = (note_of c.self.inside c.args.page).pins - 1 })
read c =
    let was = named_note c.self.view_is c.self.invariant c.args.address c.args.page c.requires.named in
    changed_read c.self.inside.notes c.unpin.new.self c.args.page _ _ _ was (c.unpin.ensures _ was) c.get-current.ensures

pub say_movable-requires : goal.say_movable-requires
say_movable-requires g c frame at =
    let sound = is_sound c.self.view_is c.self.invariant in
    let noted = note_seen c.self.view_is sound (named_in_use c.self.view_is c.self.invariant c.args.address c.args.page c.requires.named) (named_note c.self.view_is c.self.invariant c.args.address c.args.page c.requires.named) in
    ap is_holding_state (held_by c.self.inside.frames.states c.args.self.now sound.frames c.args.page frame (sym noted.placement ∙ sym (ap (λ (n : PageNote). n.placement) (read c.before.before.before.before)) ∙ at))

known : {g : Over} (c : After-note g) → Noting c.self.inside c.args.self.now c.args.page (Unpin c.args.client c.args.address) (note_of c.self.inside c.args.page) (record (note_of c.self.inside c.args.page) { pins = (note_of c.self.inside c.args.page).pins - 1 }) c.say_movable.new.frames c.self.inside.tables c.note.new.self
known c =
    unpinning c.self.inside c.args.self.now (is_sound c.self.view_is c.self.invariant) c.self.view_is c.args.page (named_in_use c.self.view_is c.self.invariant c.args.address c.args.page c.requires.named) _ (named_note c.self.view_is c.self.invariant c.args.address c.args.page c.requires.named)
    c.args.client c.args.address c.requires.named (spare c.args.self.now c.requires.room) c.say_movable.new.frames c.note.new.self
    (λ frame rests lent. (let more = c.requires.keeps (and_from _ _ (ap (λ (o : Option ℕ). is_some (frame_of (option_and_then (map.get c.args.self.now.placement) o))) c.requires.named ∙ ap (λ (o : Option Placement). is_some (frame_of o)) rests) (ap (λ (o : Option ℕ). set.contains c.args.self.now.lent_pages (unwrap_or o 0)) c.requires.named ∙ lent)) in omega (arith, more, ap (λ (o : Option ℕ). pins c.args.self.now.records (unwrap_or o 0)) c.requires.named)))
    (c.say_movable.ensures
    ∙ ap (λ can. record c.self.inside.frames { movable = movable_at c.self.inside.frames.movable c.get-current.result.placement can }) c.can_move.ensures
    ∙ ap (λ (n : PageNote). record c.self.inside.frames { movable = movable_at c.self.inside.frames.movable n.placement (can_move_by n) }) (read c.before.before.before.before.before.before.before))
    c.note.ensures

pub invariant_of-self : goal.invariant_of-self
invariant_of-self g c = (noting_holds (known c) (c.unpin.ensures _ (named_note c.self.view_is c.self.invariant c.args.address c.args.page c.requires.named))).0

pub returns-clause-step : goal.returns-clause-step
returns-clause-step g c = (noting_holds (known c) (c.unpin.ensures _ (named_note c.self.view_is c.self.invariant c.args.address c.args.page c.requires.named))).1

pub returns-clause-valid : goal.returns-clause-valid
returns-clause-valid g c = (invariant_of-self g c).valid
