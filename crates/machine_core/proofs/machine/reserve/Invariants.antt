use Rattle.std.proofs.Common.{◌≡◌, ◌-◌, ◌≤◌, []}
use Rattle.arrayvec.specs.ArrayVec.{array_vec_len}
use Rattle.machine_core.specs.Machine.{pool_from}
use Rattle.machine_core.proofs.machine.reserve.Given as goal

-- the blocks that are left, taken after those that the pool got, give the same answer
abbrev pub invariant-loop-world : goal.invariant-loop-world
invariant-loop-world g l = record {
  most : array_vec_len l.got ≤ l.wanted;
  left : pool_from l.blocks l.got.items (l.wanted - array_vec_len l.got) l.world ≡ pool_from l.blocks [] l.wanted l.fn.world;
}

abbrev pub decreases-loop-world : goal.decreases-loop-world
decreases-loop-world g l = l.wanted - array_vec_len l.got
