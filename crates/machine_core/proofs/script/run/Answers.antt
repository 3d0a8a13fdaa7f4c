use Rattle.text_core.specs.declared.fault.Fault.TheVariants.{Read, Write, Memory}
use Rattle.machine_core.proofs.Endings.{at_fault, fault_first, over_written}
use Rattle.machine_core.proofs.script.run.Goals as goal

pub returns-clause-fault : goal.returns-clause-fault
returns-clause-fault g c = fault_first c.args.options.journal (g.R.Read.remaining c.args.reader.now) (g.R.Read.remaining c.run_with.new.reader) (g.W.Write.contents c.args.writer.now) (g.W.Write.contents c.run_with.new.writer) c.run_with.result c.run_with.ensures.err

pub returns-clause-output : goal.returns-clause-output
returns-clause-output g c = over_written c.args.options.journal (g.R.Read.remaining c.args.reader.now) (g.R.Read.remaining c.run_with.new.reader) (g.W.Write.contents c.args.writer.now) (g.W.Write.contents c.run_with.new.writer) c.run_with.result c.run_with.ensures.output c.run_with.ensures.err

pub returns-clause-read : goal.returns-clause-read
returns-clause-read g c = at_fault c.args.options.journal (g.R.Read.remaining c.args.reader.now) (g.R.Read.remaining c.run_with.new.reader) (g.W.Write.contents c.args.writer.now) (g.W.Write.contents c.run_with.new.writer) Read _ (λ input e end. end) c.run_with.result c.run_with.ensures.err

pub returns-clause-write : goal.returns-clause-write
returns-clause-write g c = at_fault c.args.options.journal (g.R.Read.remaining c.args.reader.now) (g.R.Read.remaining c.run_with.new.reader) (g.W.Write.contents c.args.writer.now) (g.W.Write.contents c.run_with.new.writer) Write _ (λ input e end. end) c.run_with.result c.run_with.ensures.err

pub returns-clause-memory : goal.returns-clause-memory
returns-clause-memory g c = at_fault c.args.options.journal (g.R.Read.remaining c.args.reader.now) (g.R.Read.remaining c.run_with.new.reader) (g.W.Write.contents c.args.writer.now) (g.W.Write.contents c.run_with.new.writer) Memory _ (λ input e end. end) c.run_with.result c.run_with.ensures.err
