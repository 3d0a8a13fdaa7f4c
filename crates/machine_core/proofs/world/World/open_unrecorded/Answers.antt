use Rattle.machine_core.proofs.world.World.open_unrecorded.Goals as goal

pub returns-clause-orderly : goal.returns-clause-orderly
returns-clause-orderly g c = c.around.ensures.orderly
