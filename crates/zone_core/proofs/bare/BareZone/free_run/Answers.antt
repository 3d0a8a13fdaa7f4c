use Rattle.std.proofs.Common.{◌≡◌, ◌∙◌, ◌/◌, ◌^◌, ap, sym, arith}
use Rattle.state_core.specs.HandingOut.{lowest_run}
use Rattle.state_core.specs.ZoneState.{ZoneState}
use Rattle.zone_core.proofs.LowestFree.{free_first, free_within}
use Rattle.zone_core.proofs.bare.BareZone.free_run.Goals as goal

pub open_run-requires : goal.open_run-requires
open_run-requires g c =
    let lowest = sym (c.in_ok-first.ensures.lowest ∙ ap (λ (u : ZoneState). lowest_run u c.args.order) (c.deref.ensures ∙ c.self.view_is)) in
    let number : c.get.result / c.frames.result ≡ c.in_ok-first.first / 2 ^ c.args.order = λ i. c.get.ensures.value i / c.frames.ensures.value i in
    (omega arith, omega (arith, number, free_within c.args.self.now c.args.order c.in_ok-first.first lowest))

pub returns-clause-next : goal.returns-clause-next
returns-clause-next g c = c.open_run.ensures.run

pub returns-clause-ranked : goal.returns-clause-ranked
returns-clause-ranked g c =
    let lowest = sym (c.in_ok-first.ensures.lowest ∙ ap (λ (u : ZoneState). lowest_run u c.args.order) (c.deref.ensures ∙ c.self.view_is)) in
    let number : c.get.result / c.frames.result ≡ c.in_ok-first.first / 2 ^ c.args.order = λ i. c.get.ensures.value i / c.frames.ensures.value i in
    free_first c.args.self.now c.args.order c.in_ok-first.first lowest (c.get.result / c.frames.result) number c.open_run.result c.open_run.ensures.run c.open_run.ensures.number
