use Rattle.zone_tables.proofs.LendingMoves.{rows_back}
use Rattle.zone_tables.proofs.LendingPages.{frames_now}
use Rattle.zone_tables.proofs.ending.take_rows_back.Goals as goal

pub returns-clause-rows : goal.returns-clause-rows
returns-clause-rows g c =
    let way = c.args.way.now in
    rows_back c.args.words.now.rows c.take_block_back.new.self.rows c.take_block_back-2.new.self.rows way.source way.target c.args.from.words c.args.to.words c.requires.source c.requires.target c.requires.are.same c.take_block_back.ensures.rows c.take_block_back-2.ensures.rows

pub returns-clause-lent : goal.returns-clause-lent
returns-clause-lent g c = frames_now c.take_block_back.ensures.lent c.take_block_back-2.ensures.lent
