use Rattle.state_core.proofs.Calls.{call_valid, call_shape, call_answered, call_recorded, call_took}
use Rattle.state_core.proofs.law.calls_keep_the_law.Goals as goal

pub returns-clause-valid : goal.returns-clause-valid
returns-clause-valid c = call_valid

pub returns-clause-identity : goal.returns-clause-identity
returns-clause-identity c = call_shape

pub returns-clause-answered : goal.returns-clause-answered
returns-clause-answered c = call_answered

pub returns-clause-recorded : goal.returns-clause-recorded
returns-clause-recorded c = call_recorded

pub returns-clause-room : goal.returns-clause-room
returns-clause-room c = call_took
