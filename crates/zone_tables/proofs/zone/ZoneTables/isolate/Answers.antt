use Rattle.std.proofs.Common.{◌≡◌, ◌∙◌, refl, ap, subst, sym, arith}
use Rattle.std.specs.Prelude.{Some}
use Rattle.std.specs.FinMap as map
use Rattle.frame_core.specs.Moves.{isolated}
use Rattle.frame_core.specs.LentWords.{IsHere}
use Rattle.frame_core.specs.Words.{words_of}
use Rattle.state_core.specs.declared.placement.Placement.TheVariants.{Moving}
use Rattle.state_core.specs.Carrying.{words_now}
use Rattle.state_core.specs.Isolating.{isolated_next}
use Rattle.state_core.specs.declared.round.Pair.{Pair}
use Rattle.state_core.specs.ZoneState.{ZoneState}
use Rattle.state_core.proofs.Entries.{get_insert_same}
use Rattle.state_core.proofs.Facts.{frame_within}
use Rattle.zone_tables.specs.declared.ending.Move.{Move}
use Rattle.zone_tables.proofs.Facts.{is_sound}
use Rattle.zone_tables.proofs.LentBlocks.{source_here}
use Rattle.zone_tables.proofs.Tables.{words_seen}
use Rattle.zone_tables.proofs.zone.ZoneTables.isolate.Goals as goal

-- the page of the pair is moving once it was isolated
placed : (z new : ZoneState) (pair : Pair) → new ≡ isolated_next z pair → map.get new.placement pair.page ≡ Some (Moving (isolated z.records) pair.source pair.target)
placed z new pair step =
    ap (λ (u : ZoneState). map.get u.placement pair.page) step
    ∙ get_insert_same z.placement pair.page pair.page (Moving (isolated z.records) pair.source pair.target) refl

pub read_out-carried-requires : goal.read_out-carried-requires
read_out-carried-requires g c =
    let z = c.args.self.now in
    let pair = c.args.pair in
    let new = c.begin_move-way.new.self in
    let step = c.begin_move-way.ensures.step in
    let sound = is_sound c.self.view_is c.self.invariant in
    let source = ap (λ (way : Move). way.source) c.begin_move-way.ensures.way in
    let here = subst (λ (way : Move). IsHere c.self.inside.words way.source 1) (sym c.begin_move-way.ensures.way) (source_here c.self.inside new sound pair.page (isolated z.records) pair.source pair.target (placed z new pair step) c.begin_move-way.ensures.here) in
    (omega arith, (omega arith, (omega (arith, source, frame_within new sound.valid pair.page (Moving (isolated z.records) pair.source pair.target) (placed z new pair step), sound.words.count), here)))

pub returns-clause-page : goal.returns-clause-page
returns-clause-page g c =
    let z = c.args.self.now in
    let pair = c.args.pair in
    let new = c.begin_move-way.new.self in
    let step = c.begin_move-way.ensures.step in
    let way = c.begin_move-way.ensures.way in
    let sound = is_sound c.self.view_is c.self.invariant in
    let zone = ap (λ (u : ZoneState). u.number) (c.self.view_is ∙ step) in
    let words = ap (λ (m : Move). words_of c.self.inside.words.rows m.source) way
    ∙ words_seen c.self.inside.words.rows new sound.words sound.valid pair.page (Moving (isolated z.records) pair.source pair.target) (placed z new pair step)
    ∙ ap (λ (u : ZoneState). words_now u pair.page) step in
    let page = c.read_out-carried.ensures ∙ (λ i. record { zone = zone i; number = (way i).page; flags = c.flags_of-flags.ensures i; words = words i }) in
    λ i. record { serial = (c.new.ensures.serial ∙ ap (λ (m : Move). m.serial) way) i; page = (c.new.ensures.page ∙ page) i }
