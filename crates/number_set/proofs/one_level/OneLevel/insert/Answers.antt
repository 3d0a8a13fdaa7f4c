use Rattle.std.proofs.Common.{◌*◌, ◌%◌, ◌^◌}
use Rattle.std.proofs.lemmas.Nat.{or_lt}
use Rattle.number_set.proofs.Gathering.{bit_in}
use Rattle.number_set.proofs.Masking.{pow_below}
use Rattle.number_set.proofs.one_level.OneLevel.insert.Goals as goal

pub invariant_of-self : goal.invariant_of-self
invariant_of-self c = or_lt 64 c.self.inside.bits (1 * 2 ^ c.args.number % 2 ^ 64) c.self.invariant (pow_below c.args.number c.requires)

pub returns : goal.returns
returns c = bit_in c.self.inside.bits c.args.number c.args.self.now c.self.view_is c.self.invariant c.requires
