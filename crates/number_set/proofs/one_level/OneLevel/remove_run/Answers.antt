use Rattle.std.proofs.Common.{not, ap, ◌∙◌}
use Rattle.std.specs.Prelude.{◌&&◌}
use Rattle.std.specs.FinSet as set
use Rattle.number_set.proofs.Gathering.{mask_out}
use Rattle.number_set.proofs.one_level.OneLevel.remove_run.Goals as goal

pub returns : goal.returns
returns c = λ n.
    mask_out c.self.inside.bits c.run_bits.result c.args.self.now c.self.view_is c.self.invariant c.run_bits.type_inv n
    ∙ ap (λ b. not b && set.contains c.args.self.now n) (c.run_bits.ensures n)
