use Rattle.fewest_core.proofs.Choices.{attained, cheapest, picked}
use Rattle.fewest_core.proofs.Moves.{fewest, recorded, possible, fits}
use Rattle.fewest_core.proofs.Placements.{fewest_elsewhere}
use Rattle.fewest_core.proofs.Reached.{reached}
use Rattle.fewest_core.proofs.Rounds.{round_moves}
use Rattle.fewest_core.proofs.law.fewest_moves.Goals as goal

pub returns-clause-fewest : goal.returns-clause-fewest
returns-clause-fewest c = fewest

pub returns-clause-recorded : goal.returns-clause-recorded
returns-clause-recorded c = recorded

pub returns-clause-possible : goal.returns-clause-possible
returns-clause-possible c = possible

pub returns-clause-fits : goal.returns-clause-fits
returns-clause-fits c = fits

pub returns-clause-reached : goal.returns-clause-reached
returns-clause-reached c = reached

pub returns-clause-rounds : goal.returns-clause-rounds
returns-clause-rounds c = round_moves

pub returns-clause-elsewhere : goal.returns-clause-elsewhere
returns-clause-elsewhere c size n z place moved = fewest_elsewhere z place moved size n

pub returns-clause-attained : goal.returns-clause-attained
returns-clause-attained c = attained

pub returns-clause-picked : goal.returns-clause-picked
returns-clause-picked c = picked

pub returns-clause-cheapest : goal.returns-clause-cheapest
returns-clause-cheapest c = cheapest
