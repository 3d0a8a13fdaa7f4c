use Rattle.std.proofs.Common.{◌≡◌, ◌*◌, ◌^◌, ◌<◌, ◌∙◌, ℕ, true, false, ap, sym, subst, is_some, arith}
use Rattle.std.specs.Prelude.{Some}
use Rattle.std.specs.FinMap as map
use Rattle.std.specs.FinSet as set
use Rattle.std.proofs.lemmas.Nat.{pow_pos}
use Rattle.frame_core.specs.FrameSet.{HasNow}
use Rattle.frame_core.specs.Words.{HasBlock}
use Rattle.state_core.specs.Lending.{block_returned}
use Rattle.state_core.specs.ZoneState.{ZoneState}
use Rattle.zone_tables.specs.Sound.{IsSound}
use Rattle.zone_tables.proofs.BlockFrames.{order_held}
use Rattle.zone_tables.proofs.Facts.{is_sound, Becomes}
use Rattle.zone_tables.proofs.HeldWords.{block_rows}
use Rattle.zone_tables.proofs.LendingBlocks.{returned_holds, row_placed}
use Rattle.zone_tables.proofs.LentBlocks.{first_tells}
use Rattle.zone_tables.proofs.zone.ZoneTables.take_block_back.Given.{Over}
use Rattle.zone_tables.proofs.zone.ZoneTables.take_block_back.Goals as goal
use Rattle.zone_tables.proofs.zone.ZoneTables.take_block_back.Goals.{After-take_block_back}

pub take_block_back-requires : goal.take_block_back-requires
take_block_back-requires g c =
    let sound = is_sound c.self.view_is c.self.invariant in
    let at = order_held _ c.args.order (sym c.is_handed_out.ensures ∙ c.if-not-is_handed_out.false) in
    let rows = block_rows c.self.inside c.args.self.now sound c.self.view_is c.args.first c.args.order at in
    let place = row_placed c.self.inside c.args.self.now c.self.view_is c.args.first c.args.row.at c.requires.place in
    let many = ap (λ (n : ℕ). n * g.row.W) c.frames.ensures.value ∙ ap (λ (u : ZoneState). 2 ^ c.args.order * u.page_size) c.self.view_is in
    (omega arith, (omega (arith, rows, c.frames.ensures.value), (place, c.requires.count ∙ sym many)))

module _ {g : Over} (c : After-take_block_back g) where
  sound : IsSound c.self.inside c.args.self.now
  sound = is_sound c.self.view_is c.self.invariant

  at : map.get c.args.self.now.handed_out c.args.first ≡ Some c.args.order
  at = order_held _ c.args.order (sym c.is_handed_out.ensures ∙ c.if-not-is_handed_out.false)

  was_lent : 0 < c.args.self.now.page_size → set.contains c.args.self.now.lent c.args.first ≡ true
  was_lent some =
      sym (first_tells c.self.inside c.args.self.now sound c.args.first (ap is_some at))
      ∙ c.take_block_back.ensures.was_lent (omega (arith, some, ap (λ (u : ZoneState). u.page_size) c.self.view_is)) c.args.first (omega arith) (omega (arith, c.frames.ensures.value, pow_pos c.args.order))

  returned : Becomes (record c.self.inside { words = c.take_block_back.new.self }) (block_returned c.args.self.now c.args.first c.args.row.words)
  returned =
      returned_holds c.self.inside c.args.self.now sound c.self.view_is c.args.first c.args.order at c.take_block_back.new.self c.take_block_back.ensures.at c.args.row.words c.requires.count
      (subst (λ (n : ℕ). HasBlock c.self.inside.words.rows c.take_block_back.new.self.rows c.args.first n c.args.row.words) c.frames.ensures.value c.take_block_back.ensures.rows)
      (subst (λ (n : ℕ). HasNow c.self.inside.words.lent c.take_block_back.new.self.lent c.args.first n false) c.frames.ensures.value c.take_block_back.ensures.lent)
      was_lent c.take_block_back.ensures.sized

pub invariant_of-self : goal.invariant_of-self
invariant_of-self g c = (returned c).0

pub returns-clause-was_lent : goal.returns-clause-was_lent
returns-clause-was_lent g c = was_lent c

pub returns-clause-ok : goal.returns-clause-ok
returns-clause-ok g c = (returned c).1

pub returns-clause-valid : goal.returns-clause-valid
returns-clause-valid g c = (invariant_of-self g c).valid
