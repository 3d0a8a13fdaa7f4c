use Rattle.zone_core.proofs.Calls.{contents_refusal_agrees, contents_from_agrees, written_agrees}
use Rattle.zone_core.proofs.agreement.contents_agree.Goals as goal

pub returns-clause-refused : goal.returns-clause-refused
returns-clause-refused c = contents_refusal_agrees

pub returns-clause-words : goal.returns-clause-words
returns-clause-words c = contents_from_agrees

pub returns-clause-written : goal.returns-clause-written
returns-clause-written c = written_agrees
