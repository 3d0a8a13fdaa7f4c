use Rattle.std.proofs.Common.{◌≡◌, ℕ, ◌<◌, length, leb-true, ap, sym, ◌∙◌, arith}
use Rattle.std.specs.Prelude.{Some, slice_get}
use Rattle.frame_core.specs.LentWords.{with_rows}
use Rattle.frame_core.specs.Words.{words_of, with_words, put_from}
use Rattle.state_core.specs.Bulk.{stored_all}
use Rattle.state_core.specs.ZoneState.{ZoneState}
use Rattle.zone_tables.specs.History.{told_stores}
use Rattle.zone_tables.proofs.Facts.{is_sound, Becomes}
use Rattle.zone_tables.proofs.LoadsAndStores.{resident_here, Resident, resident, resident_in}
use Rattle.zone_tables.proofs.Tables.{note_is, note_of, use_seen}
use Rattle.zone_tables.proofs.WordsAtOnce.{Writing, stores_hold}
use Rattle.zone_tables.proofs.zone.ZoneTables.write_words.Given.{Over}
use Rattle.zone_tables.proofs.zone.ZoneTables.write_words.Goals as goal
use Rattle.zone_tables.proofs.zone.ZoneTables.write_words.Goals.{After-note_each}
use Rattle.std.proofs.lemmas.Bool.{eqb-false}

pub returns-then-is_empty-clause-valid : goal.returns-then-is_empty-clause-valid
returns-then-is_empty-clause-valid g c = (is_sound c.self.view_is c.self.invariant).valid

pub holder-requires : goal.holder-requires
holder-requires g c = (omega arith, (resident c.self.view_is c.self.invariant c.requires.frame).1.within)

pub unreachable-requires : goal.unreachable-requires
unreachable-requires g c =
    let is = resident c.self.view_is c.self.invariant c.requires.frame in
    c.in_default.not-Some is.0 (c.holder.ensures.holder ∙ is.1.held)

pub store_words-requires : goal.store_words-requires
store_words-requires g c =
    let is = (resident c.self.view_is c.self.invariant c.requires.frame).1 in
    (omega arith, (is.row_within, (resident_here c.self.view_is c.self.invariant c.args.address c.requires.frame c.requires.here, omega (arith, c.get.ensures.value, c.requires.within))))

pub store-requires : goal.store-requires
store-requires g c = use_seen c.self.inside c.self.view_is c.in-Some.page (resident_in c.self.view_is c.self.invariant c.requires.frame (sym c.holder.ensures.holder ∙ c.in-Some.is)).used

module _ {g : Over} (c : After-note_each g) where
  its : Resident c.self.inside c.args.self.now c.args.address c.args.frame c.in-Some.page
  its = resident_in c.self.view_is c.self.invariant c.requires.frame (sym c.holder.ensures.holder ∙ c.in-Some.is)

  seen : slice_get c.self.inside.notes c.in-Some.page ≡ Some (note_of c.self.inside c.in-Some.page)
  seen = note_is c.self.inside c.args.self.now (is_sound c.self.view_is c.self.invariant) c.in-Some.page its.used

  writing : Writing c.self.inside c.args.self.now c.args.address c.in-Some.page c.args.frame c.args.from (note_of c.self.inside c.in-Some.page) (length c.args.values.now)
  writing =
      record {
        sound = is_sound c.self.view_is c.self.invariant;
        view = c.self.view_is;
        room = leb-true _ _ c.requires.room;
        named = its.named;
        at = its.at;
        within = omega (arith, c.requires.within, ap (λ (v : ZoneState). v.page_size) c.self.view_is);
        note_is = seen;
      }

  some : 0 < length c.args.values.now
  some = let away = eqb-false (length c.args.values.now) 0 (sym c.if-is_empty.ensures) in omega (arith, away)

  written : Becomes (record c.self.inside { words = c.store_words.new.self; notes = c.store.new.self; history = c.note_each.new.self }) (stored_all c.args.self.now c.args.client c.args.address c.args.from c.args.values.now)
  written =
      let rows = c.store_words.ensures.stored ∙ ap (λ (from : ℕ). with_rows c.self.inside.words (with_words c.self.inside.words.rows c.args.frame (put_from (words_of c.self.inside.words.rows c.args.frame) from c.args.values.now))) c.get.ensures.value in
      let notes = c.store.ensures (note_of c.self.inside c.in-Some.page) seen in
      let history = c.note_each.ensures ∙ ap (λ (from : ℕ). told_stores c.self.inside.history c.args.client c.args.address from c.args.values.now) c.noted.ensures.value in
      stores_hold c.self.inside c.args.self.now c.args.client c.args.address c.in-Some.page c.args.frame c.args.from (note_of c.self.inside c.in-Some.page) c.args.values.now some writing rows notes history

pub invariant_of-self : goal.invariant_of-self
invariant_of-self g c = (written c).0

pub returns-clause-step : goal.returns-clause-step
returns-clause-step g c = (written c).1

pub returns-clause-valid : goal.returns-clause-valid
returns-clause-valid g c = (written c).0.valid
