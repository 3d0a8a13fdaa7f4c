use Rattle.std.proofs.Common.{Some, ap, subst, sym, ◌∙◌}
use Rattle.state_core.specs.Isolating.{isolate_refusal}
use Rattle.state_core.specs.Rounds.{round_begun}
use Rattle.state_core.specs.ZoneState.{ZoneState}
use Rattle.state_core.proofs.Packing.{packed_quiet}
use Rattle.zone_core.specs.ByHand.{by_hand}
use Rattle.zone_core.specs.OneThread.{last_for, all_moved}
use Rattle.zone_core.specs.Outcome.{IsSame}
use Rattle.zone_core.proofs.InTurn.{took, all_further, all_done, between_next, none_scanned}
use Rattle.zone_core.proofs.OneThread.{IsBetween, between_begun, exact_stopped}
use Rattle.zone_core.proofs.bare.BareZone.compact.Goals as goal

pub loop-last-init : goal.loop-last-init
loop-last-init g c =
    let begun = c.begin_round.ensures.step ∙ ap round_begun (c.deref_mut.ensures.value ∙ c.self.view_is) in
    record {
      further = ap all_moved begun;
      between = λ rest. subst (IsBetween c.args.self.now) (sym begun) (between_begun c.args.self.now rest);
      identity = (ap (λ (z : ZoneState). z.number) begun, ap (λ (z : ZoneState). z.blocks) begun);
    }

pub loop-last-smaller : goal.loop-last-smaller
loop-last-smaller g c = took c.loop-last.self c.move_next.new.self c.in_default.ensures.moved

pub loop-last-preserved : goal.loop-last-preserved
loop-last-preserved g c =
    let z = c.loop-last.self in
    let next = c.move_next.new.self in
    let before = c.loop-last.invariant in
    let moved = c.in_default.ensures.moved in
    let same = c.in_default.ensures.identity in
    record {
      further = sym (all_further z next moved) ∙ before.further;
      between = λ rest. between_next c.args.self.now z next (before.between rest) moved c.in_default.ensures.valid;
      identity = (same.0 ∙ before.identity.0, same.1 ∙ before.identity.1);
    }

pub returns-in-Some-clause-zone : goal.returns-in-Some-clause-zone
returns-in-Some-clause-zone g c =
    let z = c.loop-last.self in
    c.in-Some.ensures.stays ∙ sym (all_done z c.in-Some.ensures.none) ∙ c.loop-last.invariant.further

pub returns-in-Some-clause-exact : goal.returns-in-Some-clause-exact
returns-in-Some-clause-exact g c rest =
    let z = c.loop-last.self in
    subst (IsSame (by_hand c.args.self.now)) (sym c.in-Some.ensures.stays)
    (exact_stopped c.args.self.now z (c.loop-last.invariant.between rest) (none_scanned z c.in-Some.ensures.none))

pub returns-in-Some-clause-stopped : goal.returns-in-Some-clause-stopped
returns-in-Some-clause-stopped g c = c.in-Some.ensures.last ∙ ap (λ (z : ZoneState). last_for (isolate_refusal z)) (sym c.in-Some.ensures.stays)

pub returns-in-Some-clause-met : goal.returns-in-Some-clause-met
returns-in-Some-clause-met g c met = c.in-Some.ensures.met (ap Some met)

pub returns-in-Some-clause-packed : goal.returns-in-Some-clause-packed
returns-in-Some-clause-packed g c met quiet none = packed_quiet c.move_next.new.self c.in-Some.ensures.valid quiet none (c.in-Some.ensures.met (ap Some met))
