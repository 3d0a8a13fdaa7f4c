use Rattle.zone_core.proofs.Calls.{refusals_agree, answers_agree, same_after}
use Rattle.zone_core.proofs.agreement.calls_agree.Goals as goal

pub returns-clause-refused : goal.returns-clause-refused
returns-clause-refused c = refusals_agree

pub returns-clause-answer : goal.returns-clause-answer
returns-clause-answer c = answers_agree

pub returns-clause-after : goal.returns-clause-after
returns-clause-after c = same_after
