use Rattle.std.proofs.Common.{◌≡◌, ℕ, ◌*◌, ◌^◌, List, length, sym, ap, subst, ◌∙◌, arith}
use Rattle.std.specs.Prelude.{Some}
use Rattle.std.specs.FinMap as map
use Rattle.std.specs.Fn.{FnOnceReturnsAtMut}
use Rattle.state_core.specs.Contents.{contents_of, contents_written}
use Rattle.state_core.specs.ZoneState.{ZoneState}
use Rattle.state_core.proofs.Contents.{length_contents}
use Rattle.frame_core.specs.Words.{block_words, HasBlock, put_from}
use Rattle.zone_tables.specs.Sound.{IsSound}
use Rattle.zone_tables.proofs.Facts.{is_sound, Becomes}
use Rattle.zone_tables.proofs.BlockFrames.{order_held}
use Rattle.zone_tables.proofs.BlockWords.{still_here, put_whole, words_read, write_holds}
use Rattle.zone_tables.proofs.HeldWords.{block_listed, block_rows, stays_again, written_again}
use Rattle.zone_tables.proofs.LentBlocks.{block_here}
use Rattle.zone_tables.proofs.zone.ZoneTables.with_block.Given.{Over}
use Rattle.zone_tables.proofs.zone.ZoneTables.with_block.Goals as goal
use Rattle.zone_tables.proofs.zone.ZoneTables.with_block.Goals.{After-frames, After-with_block}

pub clear-requires : goal.clear-requires
clear-requires g c =
    let sound = is_sound c.self.view_is c.self.invariant in
    let at = order_held _ c.args.order c.requires.held in
    let listed = block_listed c.self.inside c.args.self.now sound c.self.view_is c.args.first c.args.order at in
    let rows = block_rows c.self.inside c.args.self.now sound c.self.view_is c.args.first c.args.order at in
    (omega arith, (listed, (rows, block_here c.self.inside c.args.self.now sound c.args.first c.args.order at c.requires.here)))

module _ (g : Over) (c : After-frames g) where
  sound_before : IsSound c.self.inside c.args.self.now
  sound_before = is_sound c.self.view_is c.self.invariant

  -- the closure is shown the words of the block
  shown : block_words c.clear.new.words.rows c.args.first c.frames.result ≡ contents_of c.args.self.now c.args.first
  shown =
      ap (block_words c.clear.new.words.rows c.args.first) c.frames.ensures.value
      ∙ words_read c.self.inside c.args.self.now sound_before c.self.view_is c.args.first c.args.order (order_held _ c.args.order c.requires.held) _ c.clear.ensures.noted _ c.clear.ensures.lent c.clear.ensures.words

pub with_block-requires : goal.with_block-requires
with_block-requires g c =
    let sound = is_sound c.self.view_is c.self.invariant in
    let at = order_held _ c.args.order c.requires.held in
    let rows = block_rows c.self.inside c.args.self.now sound c.self.view_is c.args.first c.args.order at in
    let here = still_here c.self.inside c.args.self.now sound c.self.view_is c.args.first c.args.order at _ c.clear.ensures.noted c.clear.new.words c.clear.ensures.lent c.requires.here _ c.frames.ensures.value in
    (omega arith, (omega (arith, rows, c.clear.ensures.words.count, c.frames.ensures.value), (here, λ p is. c.requires.callable p (is ∙ shown g c))))

module _ (g : Over) (c : After-with_block g) where
  -- what the block was left with
  abbrev left : List ℕ
  left = c.with_block.ensures.changed.0

  sound : IsSound c.self.inside c.args.self.now
  sound = is_sound c.self.view_is c.self.invariant

  at : map.get c.args.self.now.handed_out c.args.first ≡ Some c.args.order
  at = order_held _ c.args.order c.requires.held

  many : length left ≡ 2 ^ c.args.order * c.args.self.now.page_size
  many = c.with_block.ensures.changed.1 ∙ ap (λ (n : ℕ). n * g.row.W) c.frames.ensures.value ∙ ap (λ (u : ZoneState). 2 ^ c.args.order * u.page_size) c.self.view_is

  written : HasBlock c.self.inside.words.rows c.with_block.new.self.rows c.args.first (2 ^ c.args.order) (put_from (contents_of c.args.self.now c.args.first) 0 left)
  written =
      let same : length left ≡ length (contents_of c.args.self.now c.args.first) = many ∙ sym (length_contents c.args.self.now sound.valid c.args.first c.args.order at) in
      subst (HasBlock c.self.inside.words.rows c.with_block.new.self.rows c.args.first (2 ^ c.args.order)) (sym (put_whole (contents_of c.args.self.now c.args.first) left same))
      (written_again c.clear.ensures.words (subst (λ (n : ℕ). HasBlock c.clear.new.words.rows c.with_block.new.self.rows c.args.first n left) c.frames.ensures.value c.with_block.ensures.changed.3))

  stored : Becomes (record c.self.inside { words = c.with_block.new.self; cleared = c.clear.new.self }) (contents_written c.args.self.now c.args.first 0 left)
  stored =
      write_holds c.self.inside c.args.self.now sound c.self.view_is c.args.first c.args.order at _ c.clear.ensures.noted _ (stays_again c.self.inside.words c.clear.new.words c.with_block.new.self c.clear.ensures.lent c.with_block.ensures.lent) 0 left written (omega (arith, many)) c.with_block.ensures.sized

pub invariant_of-self : goal.invariant_of-self
invariant_of-self g c = (stored g c).0

pub returns-clause-changed : goal.returns-clause-changed
returns-clause-changed g c = (
  left g c,
  many g c,
  subst (λ (words : List ℕ). FnOnceReturnsAtMut g.F.FnOnce c.args.change words c.with_block.result (left g c)) (shown g c.before) c.with_block.ensures.changed.2,
  (stored g c).1,
)

pub returns-clause-valid : goal.returns-clause-valid
returns-clause-valid g c = (invariant_of-self g c).valid
