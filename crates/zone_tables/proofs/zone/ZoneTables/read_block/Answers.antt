use Rattle.std.proofs.Common.{◌≡◌, ℕ, ◌+◌, ◌-◌, List, length, take, drop, sym, ap, ◌∙◌, arith}
use Rattle.state_core.specs.ZoneState.{ZoneState}
use Rattle.frame_core.specs.Words.{block_words}
use Rattle.zone_tables.proofs.Facts.{is_sound, Becomes}
use Rattle.zone_tables.proofs.BlockFrames.{order_held}
use Rattle.zone_tables.proofs.BlockWords.{rows_sized, still_here, words_read, read_holds}
use Rattle.zone_tables.proofs.HeldWords.{block_listed, block_rows}
use Rattle.zone_tables.proofs.LentBlocks.{block_here}
use Rattle.zone_tables.proofs.zone.ZoneTables.read_block.Given.{Over}
use Rattle.zone_tables.proofs.zone.ZoneTables.read_block.Goals as goal
use Rattle.zone_tables.proofs.zone.ZoneTables.read_block.Goals.{After-slice_known-2-1}

pub clear-requires : goal.clear-requires
clear-requires g c =
    let sound = is_sound c.self.view_is c.self.invariant in
    let at = order_held _ c.args.order c.requires.held in
    let listed = block_listed c.self.inside c.args.self.now sound c.self.view_is c.args.first c.args.order at in
    let rows = block_rows c.self.inside c.args.self.now sound c.self.view_is c.args.first c.args.order at in
    (omega arith, (listed, (rows, block_here c.self.inside c.args.self.now sound c.args.first c.args.order at c.requires.here)))

pub block-block-requires : goal.block-block-requires
block-block-requires g c =
    let sound = is_sound c.self.view_is c.self.invariant in
    let at = order_held _ c.args.order c.requires.held in
    let rows = block_rows c.self.inside c.args.self.now sound c.self.view_is c.args.first c.args.order at in
    let here = still_here c.self.inside c.args.self.now sound c.self.view_is c.args.first c.args.order at _ c.clear.ensures.noted c.clear.new.words c.clear.ensures.lent c.requires.here _ c.frames.ensures.value in
    (omega arith, (omega (arith, rows, c.clear.ensures.words.count, c.frames.ensures.value), here))

read : {g : Over} (c : After-slice_known-2-1 g) → Becomes (record c.self.inside { words = c.clear.new.words; cleared = c.clear.new.self }) c.args.self.now
read {g} c =
    let sound = is_sound c.self.view_is c.self.invariant in
    read_holds c.self.inside c.args.self.now sound c.self.view_is c.args.first c.args.order (order_held _ c.args.order c.requires.held) _ c.clear.ensures.noted _ c.clear.ensures.lent c.clear.ensures.words
    (c.clear.ensures.sized (rows_sized c.self.inside.words.rows c.args.self.now g.row.W sound.words (sym (ap (λ (u : ZoneState). u.page_size) c.self.view_is))))

pub invariant_of-self : goal.invariant_of-self
invariant_of-self g c = (read c).0

pub returns-clause-values : goal.returns-clause-values
returns-clause-values g c =
    let v = c.args.self.now in
    let sound = is_sound c.self.view_is c.self.invariant in
    let at = order_held _ c.args.order c.requires.held in
    let count : c.args.from + length c.args.values.now - c.args.from ≡ length c.args.values.now = omega arith in
    let block = c.block-block.ensures.words ∙ ap (block_words c.clear.new.words.rows c.args.first) c.frames.ensures.value
    ∙ words_read c.self.inside v sound c.self.view_is c.args.first c.args.order at _ c.clear.ensures.noted _ c.clear.ensures.lent c.clear.ensures.words in
    c.copy_from_slice.ensures.after
    ∙ ap (λ (n : ℕ). take n (drop c.args.from c.block-block.result.now)) count
    ∙ ap (λ (ws : List ℕ). take (length c.args.values.now) (drop c.args.from ws)) block

pub returns-clause-step : goal.returns-clause-step
returns-clause-step g c = (read c).1

pub returns-clause-valid : goal.returns-clause-valid
returns-clause-valid g c = (invariant_of-self g c).valid
