use Rattle.machine_core.proofs.SingleRuns.{ended_by_single, totals_by_single, written_by_single}
use Rattle.machine_core.proofs.script.run_with.Goals as goal

pub returns-clause-totals : goal.returns-clause-totals
returns-clause-totals g c = totals_by_single c.args.options.journal (g.R.Read.remaining c.args.reader.now) (g.R.Read.remaining c.play.new.reader) (g.W.Write.contents c.args.writer.now) (g.W.Write.contents c.play.new.writer) c.new-machine.result c.new-machine.ensures c.play.result c.play.ensures.played.answered

pub returns-clause-output : goal.returns-clause-output
returns-clause-output g c = written_by_single c.args.options.journal (g.R.Read.remaining c.args.reader.now) (g.R.Read.remaining c.play.new.reader) (g.W.Write.contents c.args.writer.now) (g.W.Write.contents c.play.new.writer) c.new-machine.result c.new-machine.ensures c.play.result c.play.ensures.played.answered

pub returns-clause-err : goal.returns-clause-err
returns-clause-err g c = ended_by_single c.args.options.journal (g.R.Read.remaining c.args.reader.now) (g.R.Read.remaining c.play.new.reader) (g.W.Write.contents c.args.writer.now) (g.W.Write.contents c.play.new.writer) c.new-machine.result c.new-machine.ensures c.play.result c.play.ensures.played.err
