use Rattle.frame_core.proofs.Ends.{ends_at_most_once, is_balanced, ended_once}
use Rattle.frame_core.proofs.law.ends_each_page_once.Goals as goal

pub returns-clause-at_most_once : goal.returns-clause-at_most_once
returns-clause-at_most_once c = ends_at_most_once

pub returns-clause-balanced : goal.returns-clause-balanced
returns-clause-balanced c = is_balanced

pub returns-clause-once : goal.returns-clause-once
returns-clause-once c = ended_once
