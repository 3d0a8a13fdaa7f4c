use Rattle.std.proofs.Common.{rules, ◌∙◌, ap, sym}
use Rattle.std.specs.FinMap as map
use Rattle.frame_core.specs.declared.record.Cause.TheVariants.{NotCopied}
use Rattle.frame_core.specs.declared.record.Record.TheVariants.{Back}
use Rattle.frame_core.specs.Page.{Page}
use Rattle.state_core.specs.Ending.{is_own, source_of}
use Rattle.state_core.specs.ZoneState.{ZoneState}
use Rattle.zone_core.proofs.Seated.{ended_once, ended_in}
use Rattle.zone_core.proofs.bare.BareZone.put_back.Goals as goal

pub returns-clause-once : goal.returns-clause-once
returns-clause-once g c =
    let z = c.deref_mut.result.now in
    ap (λ (v : ZoneState). is_own v c.args.isolated) c.go_back.ensures.step
    ∙ ended_once z (Back NotCopied c.in-Some.way.serial) c.in-Some.way.page (source_of (map.get z.placement c.in-Some.way.page)) c.args.isolated (ap (λ (p : Page). p.number) (sym c.page.ensures) ∙ sym c.in-Some.ensures.named.0)

pub returns-clause-settled : goal.returns-clause-settled
returns-clause-settled g c =
    let z = c.deref_mut.result.now in
    let placed = ap (λ (v : ZoneState). map.get v.placement c.in-Some.way.page) (c.deref_mut.ensures.value ∙ sym c.deref.ensures) ∙ c.in-Some.ensures.placed in
    ended_in z c.args.self.now c.go_back.new.self c.args.isolated c.in-Some.way.page c.in-Some.way.serial c.in-Some.way.source c.in-Some.way.target _ _ (c.deref_mut.ensures.value ∙ c.self.view_is)
    (ap (λ (p : Page). p.number) (sym c.page.ensures) ∙ sym c.in-Some.ensures.named.0) (sym c.serial.ensures ∙ sym c.in-Some.ensures.named.1) placed c.go_back.ensures.settled

pub go_back-requires : goal.go_back-requires
go_back-requires g c = search rules

pub returns-clause-ok : goal.returns-clause-ok
returns-clause-ok g c = search rules
