use Rattle.hand_core.proofs.done_opening.done_open.Goals as goal

pub returns-clause-fresh : goal.returns-clause-fresh
returns-clause-fresh g c = assumption c
