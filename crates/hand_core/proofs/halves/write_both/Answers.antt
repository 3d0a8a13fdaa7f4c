use Rattle.std.proofs.Common.{ap, sym, ◌∙◌}
use Rattle.hand_core.specs.Told.{written_if}
use Rattle.hand_core.proofs.halves.write_both.Goals as goal

pub returns-in-Some-take-clause-stub : goal.returns-in-Some-take-clause-stub
returns-in-Some-take-clause-stub c = (cc) ∙ ap (written_if c.args.receipt.now) (sym c.in-Some.is)

pub returns-in-Some-take-clause-slip : goal.returns-in-Some-take-clause-slip
returns-in-Some-take-clause-slip c = (cc) ∙ ap (written_if c.args.receipt.now) (sym c.in-Some-take.is ∙ c.take.ensures.value)
