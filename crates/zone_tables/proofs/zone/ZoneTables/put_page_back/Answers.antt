use Rattle.std.proofs.Common.{◌≡◌, ◌∙◌, ℕ, List, length, ap, sym, arith}
use Rattle.std.proofs.lemmas.Bool.{eqb-false, eqb-true}
use Rattle.state_core.specs.Lending.{page_returned}
use Rattle.state_core.specs.ZoneState.{ZoneState}
use Rattle.zone_tables.specs.History.{told_stores}
use Rattle.zone_tables.proofs.Facts.{is_sound, Becomes}
use Rattle.zone_tables.proofs.LendingBlocks.{row_placed}
use Rattle.zone_tables.proofs.LendingPages.{none_returned_holds, page_returned_holds, returning, was_away}
use Rattle.zone_tables.proofs.LoadsAndStores.{Resident, resident, resident_in}
use Rattle.zone_tables.proofs.Tables.{note_is, note_of, use_seen}
use Rattle.zone_tables.proofs.zone.ZoneTables.put_page_back.Given.{Over}
use Rattle.zone_tables.proofs.zone.ZoneTables.put_page_back.Goals as goal
use Rattle.zone_tables.proofs.zone.ZoneTables.put_page_back.Goals.{After-store}

pub holder-requires : goal.holder-requires
holder-requires g c = (omega arith, (resident c.self.view_is c.self.invariant c.requires.frame).1.within)

pub unreachable-requires : goal.unreachable-requires
unreachable-requires g c =
    let is = resident c.self.view_is c.self.invariant c.requires.frame in
    c.in_default.not-Some is.0 (c.holder.ensures.holder ∙ is.1.held)

pub take_block_back-requires : goal.take_block_back-requires
take_block_back-requires g c =
    let is = (resident c.self.view_is c.self.invariant c.requires.frame).1 in
    let place = row_placed c.self.inside c.args.self.now c.self.view_is c.args.frame c.args.row.at c.requires.place in
    (omega arith, (omega (arith, is.row_within), (place, omega (arith, c.requires.count, ap (λ (u : ZoneState). u.page_size) c.self.view_is))))

pub block-values-requires : goal.block-values-requires
block-values-requires g c =
    let is = (resident c.self.view_is c.self.invariant c.requires.frame).1 in
    (omega arith, (omega (arith, is.row_within, c.take_block_back.ensures.rows.count), c.take_block_back.ensures.lent.each))

-- a page of no words comes back
pub invariant_of-self : goal.invariant_of-self
invariant_of-self g c = (none_returned_holds c.self.inside c.args.self.now c.args.client c.args.address c.in-Some.page c.args.frame (note_of c.self.inside c.in-Some.page) c.take_block_back.new.self c.args.row.words (returning c.self.view_is c.self.invariant (resident_in c.self.view_is c.self.invariant c.requires.frame (sym c.holder.ensures.holder ∙ c.in-Some.is)) c.requires.room c.requires.count c.take_block_back.ensures.at c.take_block_back.ensures.rows c.take_block_back.ensures.lent) (sym (ap (λ (ws : List ℕ). length ws) (c.block-values.ensures.words ∙ c.take_block_back.ensures.rows.here)) ∙ eqb-true _ 0 (sym c.if-is_empty.ensures))).0

pub returns-then-is_empty-clause-step : goal.returns-then-is_empty-clause-step
returns-then-is_empty-clause-step g c = (none_returned_holds c.self.inside c.args.self.now c.args.client c.args.address c.in-Some.page c.args.frame (note_of c.self.inside c.in-Some.page) c.take_block_back.new.self c.args.row.words (returning c.self.view_is c.self.invariant (resident_in c.self.view_is c.self.invariant c.requires.frame (sym c.holder.ensures.holder ∙ c.in-Some.is)) c.requires.room c.requires.count c.take_block_back.ensures.at c.take_block_back.ensures.rows c.take_block_back.ensures.lent) (sym (ap (λ (ws : List ℕ). length ws) (c.block-values.ensures.words ∙ c.take_block_back.ensures.rows.here)) ∙ eqb-true _ 0 (sym c.if-is_empty.ensures))).1

pub returns-then-is_empty-clause-valid : goal.returns-then-is_empty-clause-valid
returns-then-is_empty-clause-valid g c = (none_returned_holds c.self.inside c.args.self.now c.args.client c.args.address c.in-Some.page c.args.frame (note_of c.self.inside c.in-Some.page) c.take_block_back.new.self c.args.row.words (returning c.self.view_is c.self.invariant (resident_in c.self.view_is c.self.invariant c.requires.frame (sym c.holder.ensures.holder ∙ c.in-Some.is)) c.requires.room c.requires.count c.take_block_back.ensures.at c.take_block_back.ensures.rows c.take_block_back.ensures.lent) (sym (ap (λ (ws : List ℕ). length ws) (c.block-values.ensures.words ∙ c.take_block_back.ensures.rows.here)) ∙ eqb-true _ 0 (sym c.if-is_empty.ensures))).0.valid

pub store-requires : goal.store-requires
store-requires g c = use_seen c.self.inside c.self.view_is c.in-Some.page (resident_in c.self.view_is c.self.invariant c.requires.frame (sym c.holder.ensures.holder ∙ c.in-Some.is)).used

-- and one of some words
module _ {g : Over} (c : After-store g) where
  its : Resident c.self.inside c.args.self.now c.args.address c.args.frame c.in-Some.page
  its = resident_in c.self.view_is c.self.invariant c.requires.frame (sym c.holder.ensures.holder ∙ c.in-Some.is)

  values_are : c.block-values.result.now ≡ c.args.row.words
  values_are = c.block-values.ensures.words ∙ c.take_block_back.ensures.rows.here

  returned : Becomes (record c.self.inside { words = c.take_block_back.new.self; notes = c.store.new.self; history = c.note_each.new.self }) (page_returned c.args.self.now c.args.client c.args.address c.args.row.words)
  returned =
      let sound = is_sound c.self.view_is c.self.invariant in
      let away = eqb-false (length c.block-values.result.now) 0 (sym c.if-is_empty.ensures) in
      page_returned_holds c.self.inside c.args.self.now c.args.client c.args.address c.in-Some.page c.args.frame (note_of c.self.inside c.in-Some.page) c.take_block_back.new.self c.args.row.words
      (returning c.self.view_is c.self.invariant its c.requires.room c.requires.count c.take_block_back.ensures.at c.take_block_back.ensures.rows c.take_block_back.ensures.lent)
      (omega (arith, away, ap (λ (ws : List ℕ). length ws) values_are))
      (c.store.ensures (note_of c.self.inside c.in-Some.page) (note_is c.self.inside c.args.self.now sound c.in-Some.page its.used))
      (c.note_each.ensures ∙ ap (λ (ws : List ℕ). told_stores c.self.inside.history c.args.client c.args.address 0 ws) values_are)

pub invariant_of-self-2 : goal.invariant_of-self-2
invariant_of-self-2 g c = (returned c).0

pub returns-clause-was_lent : goal.returns-clause-was_lent
returns-clause-was_lent g c some =
    was_away c.self.view_is c.self.invariant (its c)
    (c.take_block_back.ensures.was_lent (omega (arith, some, ap (λ (u : ZoneState). u.page_size) c.self.view_is)) c.args.frame (omega arith) (omega arith))

pub returns-clause-step : goal.returns-clause-step
returns-clause-step g c = (returned c).1

pub returns-clause-valid : goal.returns-clause-valid
returns-clause-valid g c = (returned c).0.valid
