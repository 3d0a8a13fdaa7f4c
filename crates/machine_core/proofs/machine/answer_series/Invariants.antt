use Rattle.std.proofs.Common.{◌≡◌, ◌-◌}
use Rattle.machine_core.specs.Machine.{series_from}
use Rattle.machine_core.proofs.machine.answer_series.Given as goal

-- the calls that are left, made after those that were accepted, give the same answer
abbrev pub invariant-loop-done : goal.invariant-loop-done
invariant-loop-done g l =
    series_from l.call l.space l.page l.step l.done (l.count - l.done) l.world ≡ series_from l.call l.space l.first l.step 0 l.count l.fn.world
