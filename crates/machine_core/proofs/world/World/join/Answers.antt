use Rattle.std.proofs.Common.{◌∙◌, subst}
use Rattle.std.specs.VecDeque.{deque_capacity}
use Rattle.state_core.specs.Valid.{IsValidZone}
use Rattle.machine_core.proofs.Closing.{carried_joined}
use Rattle.machine_core.proofs.world.World.join.Goals as goal

pub invariant_of-result : goal.invariant_of-result
invariant_of-result g c =
    carried_joined c.args.zone c.args.seats.scan c.args.seats.ends c.rest.inside.waiting.items c.new.result.held (deque_capacity c.rest.inside.waiting)
    (subst IsValidZone c.deref.ensures c.blocks-3.ensures.valid) c.requires.whole c.rest.invariant (c.rest.view_is ∙ c.requires.rest) c.new.ensures

pub returns-clause-orderly : goal.returns-clause-orderly
returns-clause-orderly g c = (invariant_of-result g c).orderly
