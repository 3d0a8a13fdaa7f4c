use Rattle.script_core.proofs.Worlds.{calls_alike}
use Rattle.script_core.proofs.law.worlds_agree.Goals as goal

pub returns : goal.returns
returns c = λ v w same call. let a = calls_alike v w same call in (a.reply, a.world)
