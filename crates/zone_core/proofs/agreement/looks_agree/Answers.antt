use Rattle.zone_core.proofs.Calls.{look_agrees, told_agrees, info_agrees}
use Rattle.zone_core.proofs.agreement.looks_agree.Goals as goal

pub returns-clause-look : goal.returns-clause-look
returns-clause-look c = look_agrees

pub returns-clause-mark : goal.returns-clause-mark
returns-clause-mark c = told_agrees

pub returns-clause-info : goal.returns-clause-info
returns-clause-info c = info_agrees
