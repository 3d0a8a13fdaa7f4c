use Rattle.std.proofs.Common.{◌≡◌, ℕ, length, leb-true, ap, ◌∙◌, arith}
use Rattle.frame_core.specs.Words.{words_from}
use Rattle.state_core.specs.Bulk.{values_at, loaded_all}
use Rattle.state_core.specs.ZoneState.{ZoneState}
use Rattle.zone_tables.specs.History.{told_loads}
use Rattle.zone_tables.proofs.Facts.{is_sound, Becomes, becomes}
use Rattle.zone_tables.proofs.LoadsAndStores.{resident_here, resident}
use Rattle.zone_tables.proofs.WordsAtOnce.{Reading, words_read, after_loads, loads_hold}
use Rattle.zone_tables.proofs.zone.ZoneTables.read_words.Given.{Over}
use Rattle.zone_tables.proofs.zone.ZoneTables.read_words.Goals as goal
use Rattle.zone_tables.proofs.zone.ZoneTables.read_words.Goals.{After-note_each}

pub load_words-requires : goal.load_words-requires
load_words-requires g c =
    let is = (resident c.self.view_is c.self.invariant c.requires.frame).1 in
    (omega arith, (is.row_within, (resident_here c.self.view_is c.self.invariant c.args.address c.requires.frame c.requires.here, omega (arith, c.get.ensures.value, c.requires.within))))

module _ {g : Over} (c : After-note_each g) where
  abbrev count : ℕ
  count = length c.args.values.now

  reading : Reading c.self.inside c.args.self.now c.args.address c.args.frame count
  reading = record {
    sound = is_sound c.self.view_is c.self.invariant;
    view = c.self.view_is;
    room = leb-true _ _ c.requires.room;
    at = c.requires.frame;
  }

  values_are : c.load_words.new.values ≡ values_at c.args.self.now c.args.address c.args.from count
  values_are =
      c.load_words.ensures.values
      ∙ ap (λ (from : ℕ). words_from c.self.inside.words.rows c.args.frame from count) c.get.ensures.value
      ∙ words_read c.self.inside c.args.self.now reading.sound c.args.address c.args.frame c.args.from count c.requires.frame
      (omega (arith, c.requires.within, ap (λ (v : ZoneState). v.page_size) c.self.view_is))

  told_is : c.note_each.new.self ≡ told_loads c.self.inside.history c.args.client c.args.address c.args.from (values_at c.args.self.now c.args.address c.args.from count)
  told_is = c.note_each.ensures ∙ (λ i. told_loads c.self.inside.history c.args.client c.args.address (c.noted.ensures.value i) (values_are i))

  read : Becomes (record c.self.inside { history = c.note_each.new.self }) (loaded_all c.args.self.now c.args.client c.args.address c.args.from count)
  read =
      let known = loads_hold c.self.inside c.args.self.now c.args.client c.args.address c.args.frame c.args.from count reading in
      becomes {ideal = after_loads c.self.inside c.args.self.now c.args.client c.args.address c.args.from count} (λ i. record c.self.inside { history = told_is i }) known.1 known.0

pub invariant_of-self : goal.invariant_of-self
invariant_of-self g c = (read c).0

pub returns-clause-values : goal.returns-clause-values
returns-clause-values g c = values_are c

pub returns-clause-step : goal.returns-clause-step
returns-clause-step g c = (read c).1

pub returns-clause-valid : goal.returns-clause-valid
returns-clause-valid g c = (read c).0.valid
