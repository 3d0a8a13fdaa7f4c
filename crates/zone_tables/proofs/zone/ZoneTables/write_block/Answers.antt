use Rattle.std.proofs.Common.{ℕ, ◌*◌, ◌^◌, List, ap, subst, arith}
use Rattle.state_core.specs.Contents.{contents_of, contents_written}
use Rattle.state_core.specs.ZoneState.{ZoneState}
use Rattle.frame_core.specs.Words.{block_words, HasBlock, put_from}
use Rattle.zone_tables.specs.Sound.{IsSound}
use Rattle.zone_tables.proofs.Facts.{is_sound, Becomes}
use Rattle.zone_tables.proofs.BlockFrames.{order_held}
use Rattle.zone_tables.proofs.BlockWords.{still_here, words_read, write_holds}
use Rattle.zone_tables.proofs.HeldWords.{block_listed, block_rows, stays_again, written_again}
use Rattle.zone_tables.proofs.LentBlocks.{block_here}
use Rattle.zone_tables.proofs.zone.ZoneTables.write_block.Given.{Over}
use Rattle.zone_tables.proofs.zone.ZoneTables.write_block.Goals as goal
use Rattle.zone_tables.proofs.zone.ZoneTables.write_block.Goals.{After-store_block}

pub clear-requires : goal.clear-requires
clear-requires g c =
    let sound = is_sound c.self.view_is c.self.invariant in
    let at = order_held _ c.args.order c.requires.held in
    let listed = block_listed c.self.inside c.args.self.now sound c.self.view_is c.args.first c.args.order at in
    let rows = block_rows c.self.inside c.args.self.now sound c.self.view_is c.args.first c.args.order at in
    (omega arith, (listed, (rows, block_here c.self.inside c.args.self.now sound c.args.first c.args.order at c.requires.here)))

pub store_block-requires : goal.store_block-requires
store_block-requires g c =
    let sound = is_sound c.self.view_is c.self.invariant in
    let at = order_held _ c.args.order c.requires.held in
    let rows = block_rows c.self.inside c.args.self.now sound c.self.view_is c.args.first c.args.order at in
    let here = still_here c.self.inside c.args.self.now sound c.self.view_is c.args.first c.args.order at _ c.clear.ensures.noted c.clear.new.words c.clear.ensures.lent c.requires.here _ c.frames.ensures.value in
    (omega arith, (omega (arith, rows, c.clear.ensures.words.count, c.frames.ensures.value), (here, omega (arith, c.requires.within, ap (λ (n : ℕ). n * g.row.W) c.frames.ensures.value))))

module _ {g : Over} (c : After-store_block g) where
  sound_before : IsSound c.self.inside c.args.self.now
  sound_before = is_sound c.self.view_is c.self.invariant

  -- the words of the block after the call
  written : HasBlock c.self.inside.words.rows c.store_block.new.self.rows c.args.first (2 ^ c.args.order) (put_from (contents_of c.args.self.now c.args.first) c.args.from c.args.values.now)
  written =
      let words = words_read c.self.inside c.args.self.now sound_before c.self.view_is c.args.first c.args.order (order_held _ c.args.order c.requires.held) _ c.clear.ensures.noted _ c.clear.ensures.lent c.clear.ensures.words in
      subst (λ (ws : List ℕ). HasBlock c.self.inside.words.rows c.store_block.new.self.rows c.args.first (2 ^ c.args.order) (put_from ws c.args.from c.args.values.now)) words
      (written_again c.clear.ensures.words
      (subst (λ (n : ℕ). HasBlock c.clear.new.words.rows c.store_block.new.self.rows c.args.first n (put_from (block_words c.clear.new.words.rows c.args.first n) c.args.from c.args.values.now)) c.frames.ensures.value c.store_block.ensures.stored))

  stored : Becomes (record c.self.inside { words = c.store_block.new.self; cleared = c.clear.new.self }) (contents_written c.args.self.now c.args.first c.args.from c.args.values.now)
  stored =
      write_holds c.self.inside c.args.self.now sound_before c.self.view_is c.args.first c.args.order (order_held _ c.args.order c.requires.held) _ c.clear.ensures.noted _ (stays_again c.self.inside.words c.clear.new.words c.store_block.new.self c.clear.ensures.lent c.store_block.ensures.lent) c.args.from c.args.values.now written
      (omega (arith, c.requires.within, ap (λ (u : ZoneState). 2 ^ c.args.order * u.page_size) c.self.view_is)) c.store_block.ensures.sized

pub invariant_of-self : goal.invariant_of-self
invariant_of-self g c = (stored c).0

pub returns-clause-step : goal.returns-clause-step
returns-clause-step g c = (stored c).1

pub returns-clause-valid : goal.returns-clause-valid
returns-clause-valid g c = (invariant_of-self g c).valid
