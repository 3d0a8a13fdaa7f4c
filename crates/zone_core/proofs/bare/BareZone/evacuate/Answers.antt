use Rattle.std.proofs.Common.{sym, arith}
use Rattle.zone_core.proofs.Evacuated.{carried_out, enough, identity_is, moved_all, open_there, run_free, within_zone, zone_is}
use Rattle.zone_core.proofs.bare.BareZone.evacuate.Goals as goal

pub clear-requires : goal.clear-requires
clear-requires g c =
    let accepted = sym c.in_ok-pages.ensures.refused in
    (omega arith, (within_zone c.args.self.now c.args.first c.args.order accepted, (open_there c.args.self.now c.args.first c.args.order accepted, enough c.args.self.now c.args.first c.args.order accepted)))

pub returns-clause-ok : goal.returns-clause-ok
returns-clause-ok g c = zone_is c.args.self.now c.args.first c.args.order (sym c.in_ok-pages.ensures.refused) c.clear.new.self c.clear.ensures.emptied c.clear.ensures.cleared

pub returns-clause-moved : goal.returns-clause-moved
returns-clause-moved g c = omega (arith, moved_all c.args.self.now c.args.first c.args.order (sym c.in_ok-pages.ensures.refused) c.clear.new.self c.clear.ensures.emptied, c.in_ok-pages.ensures.pages)

pub returns-clause-empty : goal.returns-clause-empty
returns-clause-empty g c = run_free c.args.self.now c.args.first c.args.order (sym c.in_ok-pages.ensures.refused) c.clear.new.self c.clear.ensures.emptied

pub returns-clause-carried : goal.returns-clause-carried
returns-clause-carried g c = carried_out c.args.self.now c.args.first c.args.order (sym c.in_ok-pages.ensures.refused) c.clear.new.self c.clear.ensures.emptied

pub returns-clause-identity : goal.returns-clause-identity
returns-clause-identity g c = identity_is c.args.self.now c.args.first c.args.order (sym c.in_ok-pages.ensures.refused) c.clear.new.self c.clear.ensures.emptied
