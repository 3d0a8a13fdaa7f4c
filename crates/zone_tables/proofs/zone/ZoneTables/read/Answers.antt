use Rattle.std.proofs.Common.{◌≡◌, ◌∙◌, ap, arith, refl}
use Rattle.frame_core.specs.declared.record.Record.TheVariants.{Load}
use Rattle.zone_tables.specs.History.{told}
use Rattle.state_core.specs.ZoneState.{ZoneState}
use Rattle.state_core.specs.Access.{value_at, loaded}
use Rattle.zone_tables.proofs.LoadsAndStores.{resident_here, loaded_sound, word_read, resident}
use Rattle.state_core.proofs.Facts.{spare}
use Rattle.zone_tables.proofs.Facts.{noted_view, is_sound, Becomes, becomes}
use Rattle.zone_tables.proofs.zone.ZoneTables.read.Given.{Over}
use Rattle.zone_tables.proofs.zone.ZoneTables.read.Goals as goal
use Rattle.zone_tables.proofs.zone.ZoneTables.read.Goals.{After-note}

pub load-value-requires : goal.load-value-requires
load-value-requires g c =
    let is = (resident c.self.view_is c.self.invariant c.requires.frame).1 in
    (omega arith, (omega arith, (is.row_within, resident_here c.self.view_is c.self.invariant c.args.address c.requires.frame c.requires.here)))

value_is : {g : Over} (c : After-note g) → c.load-value.result ≡ value_at c.args.self.now c.args.address c.args.word
value_is c =
    c.load-value.ensures.value
    ∙ word_read c.self.inside c.args.self.now (is_sound c.self.view_is c.self.invariant) c.args.address c.args.frame c.args.word c.requires.frame (omega (arith, c.load-value.ensures.in_range, ap (λ (u : ZoneState). u.page_size) c.self.view_is))

told_is : {g : Over} (c : After-note g) → c.note.new.self ≡ told c.self.inside.history (Load c.args.client c.args.address c.args.word (value_at c.args.self.now c.args.address c.args.word))
told_is c = c.note.ensures ∙ (λ i. told c.self.inside.history (Load c.args.client c.args.address (c.noted.ensures.value i) (value_is c i)))

read : {g : Over} (c : After-note g) → Becomes (record c.self.inside { history = c.note.new.self }) (loaded c.args.self.now c.args.client c.args.address c.args.word)
read c =
    becomes refl (noted_view c.self.inside c.args.self.now c.note.new.self _ c.self.view_is (told_is c))
    (loaded_sound c.self.inside c.args.self.now (is_sound c.self.view_is c.self.invariant) c.note.new.self c.args.client c.args.address c.args.frame c.args.word c.requires.frame (spare c.args.self.now c.requires.room))

pub invariant_of-self : goal.invariant_of-self
invariant_of-self g c = (read c).0

pub returns-clause-value : goal.returns-clause-value
returns-clause-value g c = value_is c

pub returns-clause-step : goal.returns-clause-step
returns-clause-step g c = (read c).1

pub returns-clause-valid : goal.returns-clause-valid
returns-clause-valid g c = (invariant_of-self g c).valid
