use Rattle.std.proofs.Common.{◌∙◌}
use Rattle.script_core.specs.Stops.{fault_line}
use Rattle.script_core.proofs.Endings.{told}
use Rattle.script_core.proofs.report.report.Goals as goal

pub returns : goal.returns
returns g c =
    told c.write_out.result (fault_line c.args.error) c.deref.result.now (g.F.Write.contents c.args.faults.now) (g.F.Write.contents c.write_out.new.writer) (g.F.Output.stuck c.write_out.new.writer)
    (c.deref.ensures.0 ∙ c.line_of.ensures) c.write_out.ensures.ok c.write_out.ensures.err c.write_out.ensures.stuck
