use Rattle.std.proofs.Common.{◌++◌, ◌<◌, length, length-append, arith}
use Rattle.text_core.proofs.Reading.{read_long}
use Rattle.text_core.proofs.script_runner.ScriptRunner.hold.Goals as goal

pub returns-then-remaining_capacity-text-clause-reads : goal.returns-then-remaining_capacity-text-clause-reads
returns-then-remaining_capacity-text-clause-reads g c =
    let held = c.self.inside.held.items in
    let long : 200 < length (held ++ c.args.text.now) = omega (arith, c.remaining_capacity.ensures, length-append held c.args.text.now) in
    λ now. rw (← c.self.view_is) (read_long g.A.Respond.may g.A.Respond.asks _ c.args.text.now now c.requires long)
