use Rattle.std.proofs.Common.{ap, ◌∙◌}
use Rattle.std.proofs.lemmas.Nat.{or_lt}
use Rattle.std.specs.Prelude.{◌||◌}
use Rattle.std.specs.FinSet as set
use Rattle.number_set.proofs.Gathering.{mask_in}
use Rattle.number_set.proofs.one_level.OneLevel.insert_run.Goals as goal

pub invariant_of-self : goal.invariant_of-self
invariant_of-self c = or_lt 64 c.self.inside.bits c.run_bits.result c.self.invariant c.run_bits.type_inv

pub returns : goal.returns
returns c = λ n.
    mask_in c.self.inside.bits c.run_bits.result c.args.self.now c.self.view_is c.self.invariant c.run_bits.type_inv n
    ∙ ap (λ b. b || set.contains c.args.self.now n) (c.run_bits.ensures n)
