use Rattle.fewest_core.proofs.SevenPages.{costs_are, pinned_shuts, least_are, may_move, runs_freed}
use Rattle.fewest_core.proofs.example.worked_example.Goals as goal

pub returns-clause-costs : goal.returns-clause-costs
returns-clause-costs c = costs_are

pub returns-clause-pinned : goal.returns-clause-pinned
returns-clause-pinned c = pinned_shuts

pub returns-clause-least : goal.returns-clause-least
returns-clause-least c = least_are

pub returns-clause-may_move : goal.returns-clause-may_move
returns-clause-may_move c = may_move

pub returns-clause-freed : goal.returns-clause-freed
returns-clause-freed c = runs_freed
