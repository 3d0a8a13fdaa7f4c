use Rattle.std.proofs.Common.{◌≡◌, ℕ, ◌*◌, true, ap, sym, subst, ◌∙◌, arith}
use Rattle.std.specs.Prelude.{Some}
use Rattle.std.specs.FinMap as map
use denote.RawPtr.{Ptr, ◌+ₚ◌}
use Rattle.frame_core.specs.FrameSet.{HasNow}
use Rattle.frame_core.specs.Words.{block_words}
use Rattle.state_core.specs.Lending.{block_lent}
use Rattle.state_core.specs.ZoneState.{ZoneState}
use Rattle.state_core.proofs.Lending.{valid_block_lent}
use Rattle.zone_tables.specs.Sound.{IsSound}
use Rattle.zone_tables.specs.declared.zone.ZoneTables.TheInside.{Inside}
use Rattle.zone_tables.proofs.Facts.{is_sound, Becomes}
use Rattle.zone_tables.proofs.BlockFrames.{order_held}
use Rattle.zone_tables.proofs.BlockWords.{is_noted, read_holds, rows_sized, still_here, words_read}
use Rattle.zone_tables.proofs.HeldWords.{block_listed, block_rows}
use Rattle.zone_tables.proofs.LendingBlocks.{block_placed, is_given, lent_holds}
use Rattle.zone_tables.proofs.LentBlocks.{block_here}
use Rattle.zone_tables.proofs.zone.ZoneTables.lend_block.Given.{Over}
use Rattle.zone_tables.proofs.zone.ZoneTables.lend_block.Goals as goal
use Rattle.zone_tables.proofs.zone.ZoneTables.lend_block.Goals.{After-lend_block}

pub clear-requires : goal.clear-requires
clear-requires g c =
    let sound = is_sound c.self.view_is c.self.invariant in
    let at = order_held _ c.args.order c.in_ok-may_lend.ensures.held in
    let listed = block_listed c.self.inside c.args.self.now sound c.self.view_is c.args.first c.args.order at in
    let rows = block_rows c.self.inside c.args.self.now sound c.self.view_is c.args.first c.args.order at in
    (omega arith, (listed, (rows, block_here c.self.inside c.args.self.now sound c.args.first c.args.order at c.in_ok-may_lend.ensures.here)))

pub lend_block-requires : goal.lend_block-requires
lend_block-requires g c =
    let sound = is_sound c.self.view_is c.self.invariant in
    let at = order_held _ c.args.order c.in_ok-may_lend.ensures.held in
    let rows = block_rows c.self.inside c.args.self.now sound c.self.view_is c.args.first c.args.order at in
    let here = still_here c.self.inside c.args.self.now sound c.self.view_is c.args.first c.args.order at _ c.clear.ensures.noted c.clear.new.words c.clear.ensures.lent c.in_ok-may_lend.ensures.here _ c.frames.ensures.value in
    (omega arith, (omega (arith, rows, c.clear.ensures.words.count, c.frames.ensures.value), here))

module _ {g : Over} (c : After-lend_block g) where
  sound : IsSound c.self.inside c.args.self.now
  sound = is_sound c.self.view_is c.self.invariant

  at : map.get c.args.self.now.handed_out c.args.first ≡ Some c.args.order
  at = order_held _ c.args.order c.in_ok-may_lend.ensures.held

  abbrev cleared : Inside g.row.W
  cleared = record c.self.inside { words = c.clear.new.words; cleared = c.clear.new.self }

  clears : Becomes cleared c.args.self.now
  clears =
      read_holds c.self.inside c.args.self.now sound c.self.view_is c.args.first c.args.order at _ c.clear.ensures.noted c.clear.new.words c.clear.ensures.lent c.clear.ensures.words
      (c.clear.ensures.sized (rows_sized c.self.inside.words.rows c.args.self.now g.row.W sound.words (sym (ap (λ (u : ZoneState). u.page_size) c.self.view_is))))

  lends : Becomes (record cleared { words = c.lend_block.new.self }) (block_lent c.args.self.now c.args.first)
  lends =
      lent_holds cleared c.args.self.now (is_sound clears.1 clears.0) clears.1 c.args.first c.args.order at c.lend_block.new.self c.lend_block.ensures.rows c.lend_block.ensures.at true
      (subst (λ (n : ℕ). HasNow c.clear.new.words.lent c.lend_block.new.self.lent c.args.first n true) c.frames.ensures.value c.lend_block.ensures.lent)
      (λ goes. is_noted c.self.inside c.args.self.now sound c.self.view_is c.args.first c.args.order at _ c.clear.ensures.noted c.clear.new.words c.clear.ensures.lent)
      (valid_block_lent c.args.self.now sound.valid c.args.first c.args.order at (is_given c.args.self.now.memory c.in_ok-may_lend.ensures.given))

pub invariant_of-self : goal.invariant_of-self
invariant_of-self g c = (lends c).0

pub returns-clause-words : goal.returns-clause-words
returns-clause-words g c =
    c.lend_block.ensures.row.1 ∙ ap (block_words c.clear.new.words.rows c.args.first) c.frames.ensures.value
    ∙ words_read c.self.inside c.args.self.now (sound c) c.self.view_is c.args.first c.args.order (at c) _ c.clear.ensures.noted c.clear.new.words c.clear.ensures.lent c.clear.ensures.words

pub returns-clause-place : goal.returns-clause-place
returns-clause-place g c =
    ap Some c.lend_block.ensures.row.0 ∙ ap (λ (at : Ptr). Some (at +ₚ c.args.first * g.row.W * 8)) c.clear.ensures.lent.0
    ∙ block_placed c.self.inside c.args.self.now c.self.view_is c.args.first c.in_ok-may_lend.ensures.given

pub returns-clause-ok : goal.returns-clause-ok
returns-clause-ok g c = (lends c).1

pub returns-clause-valid : goal.returns-clause-valid
returns-clause-valid g c = (invariant_of-self g c).valid
