use Rattle.std.proofs.Common.{◌≡◌, ◌∙◌, ℕ, ap, sym, arith}
use Rattle.std.specs.Prelude.{Some, slice_get}
use Rattle.state_core.specs.Access.{stored}
use Rattle.zone_tables.specs.History.{told}
use Rattle.frame_core.specs.declared.record.Record.TheVariants.{Store}
use Rattle.state_core.specs.ZoneState.{ZoneState}
use Rattle.zone_tables.proofs.Facts.{is_sound, Becomes}
use Rattle.zone_tables.proofs.LoadsAndStores.{resident_here, Resident, Storing, resident, store_holds, resident_in}
use Rattle.state_core.proofs.Facts.{spare}
use Rattle.zone_tables.proofs.Tables.{note_is, note_of, use_seen}
use Rattle.zone_tables.proofs.zone.ZoneTables.write.Given.{Over}
use Rattle.zone_tables.proofs.zone.ZoneTables.write.Goals as goal
use Rattle.zone_tables.proofs.zone.ZoneTables.write.Goals.{After-note}

pub holder-requires : goal.holder-requires
holder-requires g c = (omega arith, (resident c.self.view_is c.self.invariant c.requires.frame).1.within)

pub unreachable-requires : goal.unreachable-requires
unreachable-requires g c =
    let is = resident c.self.view_is c.self.invariant c.requires.frame in
    c.in_default.not-Some is.0 (c.holder.ensures.holder ∙ is.1.held)

pub store-requires : goal.store-requires
store-requires g c =
    let is = (resident c.self.view_is c.self.invariant c.requires.frame).1 in
    (omega arith, (omega arith, (is.row_within, resident_here c.self.view_is c.self.invariant c.args.address c.requires.frame c.requires.here)))

-- the page that the frame holds
its : {g : Over} (c : After-note g) → Resident c.self.inside c.args.self.now c.args.address c.args.frame c.in-Some.page
its c = resident_in c.self.view_is c.self.invariant c.requires.frame (sym c.holder.ensures.holder ∙ c.in-Some.is)

seen : {g : Over} (c : After-note g) → slice_get c.self.inside.notes c.in-Some.page ≡ Some (note_of c.self.inside c.in-Some.page)
seen c = note_is c.self.inside c.args.self.now (is_sound c.self.view_is c.self.invariant) c.in-Some.page (its c).used

storing : {g : Over} (c : After-note g) → Storing c.self.inside c.args.self.now c.args.client c.args.address c.in-Some.page c.args.frame c.args.word c.args.value (note_of c.self.inside c.in-Some.page) c.note.new.self
storing c =
    record {
      sound = is_sound c.self.view_is c.self.invariant;
      view = c.self.view_is;
      spare = spare c.args.self.now c.requires.room;
      named = (its c).named;
      at = (its c).at;
      small = omega (arith, c.store.ensures.in_range, ap (λ (u : ZoneState). u.page_size) c.self.view_is);
      note_is = seen c;
      history_is = c.note.ensures ∙ ap (λ (word : ℕ). told c.self.inside.history (Store c.args.client c.args.address word c.args.value)) c.noted.ensures.value;
    }

written : {g : Over} (c : After-note g) → Becomes (record c.self.inside { words = c.store.new.self; notes = c.store-2.new.self; history = c.note.new.self }) (stored c.args.self.now c.args.client c.args.address c.args.word c.args.value)
written c = store_holds (storing c) c.store.ensures.stored (c.store-2.ensures (note_of c.self.inside c.in-Some.page) (seen c))

pub invariant_of-self : goal.invariant_of-self
invariant_of-self g c = (written c).0

pub returns-clause-step : goal.returns-clause-step
returns-clause-step g c = (written c).1

pub returns-clause-valid : goal.returns-clause-valid
returns-clause-valid g c = (invariant_of-self g c).valid

pub store-requires-2 : goal.store-requires-2
store-requires-2 g c = use_seen c.self.inside c.self.view_is c.in-Some.page (resident_in c.self.view_is c.self.invariant c.requires.frame (sym c.holder.ensures.holder ∙ c.in-Some.is)).used
