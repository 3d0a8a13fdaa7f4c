use Rattle.round_core.proofs.crew.join_early.Given as goal

abbrev pub decreases-loop-copier : goal.decreases-loop-copier
decreases-loop-copier g l = goal.left-loop-copier g l
