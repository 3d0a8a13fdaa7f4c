use Rattle.std.proofs.lemmas.Result.{IfErr-weaker}
use Rattle.huge_core.proofs.Refused.{taken_back}
use Rattle.huge_core.proofs.huge.give.Goals as goal

pub returns-clause-ok : goal.returns-clause-ok
returns-clause-ok g c =
    taken_back _ _ c.behind-room.inside.zone c.give.new.zone c.args.huge c.behind-room.invariant.1 c.give.ensures.valid c.give.result
    c.give.ensures.accepted c.give.ensures.ok

pub returns-clause-refused : goal.returns-clause-refused
returns-clause-refused g c =
    IfErr-weaker c.give.result _ _
    (λ back is. record { zone = c.behind-room.inside.zone; identity = c.behind-room.invariant.1; valid = c.behind-room.invariant.0; refused = is })
    c.give.ensures.refused
