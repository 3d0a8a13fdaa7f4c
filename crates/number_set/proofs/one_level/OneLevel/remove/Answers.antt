use Rattle.std.proofs.Common.{◌-◌, ◌*◌, ◌%◌, ◌^◌, arith}
use Rattle.std.proofs.lemmas.Nat.{and_le_l}
use Rattle.number_set.proofs.Gathering.{bit_out}
use Rattle.number_set.proofs.one_level.OneLevel.remove.Goals as goal

pub invariant_of-self : goal.invariant_of-self
invariant_of-self c = omega (arith, and_le_l c.self.inside.bits (2 ^ 64 - 1 - 1 * 2 ^ c.args.number % 2 ^ 64), c.self.invariant)

pub returns : goal.returns
returns c = bit_out c.self.inside.bits c.args.number c.args.self.now c.self.view_is c.self.invariant c.requires
