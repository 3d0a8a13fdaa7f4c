use Rattle.std.proofs.Common.{rules, ◌≡◌, ℕ, ◌+◌, refl, arith, sym, ap, subst, ◌∙◌}
use Rattle.frame_core.specs.History.{pins}
use Rattle.frame_core.specs.Moves.{isolated}
use Rattle.zone_core.specs.Alone.{IsAtRest}
use Rattle.zone_core.specs.ByHand.{by_hand}
use Rattle.zone_core.specs.Outcome.{IsSame}
use Rattle.zone_core.proofs.Packed.{packed_exact}
use Rattle.state_core.specs.Ending.{moved_to_target}
use Rattle.state_core.specs.Isolating.{isolated_next, next_state}
use Rattle.state_core.specs.Valid.{IsValidZone}
use Rattle.state_core.specs.Pairs.{next_pair}
use Rattle.state_core.specs.Rounds.{round_begun}
use Rattle.state_core.specs.ZoneState.{ZoneState}
use Rattle.zone_core.specs.Seats.{ScanSeat, EndSeat, seat_noted}
use Rattle.zone_core.specs.OneThread.{last_for}
use Rattle.zone_core.proofs.OneThread.{IsBetween, between_begun, between_moved, unpinned, own_isolated, page_scanned, exact_stopped, refusal_is, last_is}
use Rattle.zone_core.proofs.Steps.{met_none, met_stops, full_stops}
use Rattle.zone_core.proofs.one_thread.compact.Goals as goal

pub loop-page-init : goal.loop-page-init
loop-page-init g c =
    let rest : IsAtRest c.args.zone.now = record { valid = subst IsValidZone c.audit.ensures.same c.audit.ensures.valid; none_out = c.in_ok-audit.ensures.ok.none_out } in
    let begun : c.begin_round.new.self ≡ round_begun c.args.zone.now = c.begin_round.ensures.zone ∙ ap round_begun c.audit.ensures.same in
    let count = ap (λ (s : ScanSeat). s.count) c.begin_round.ensures.seat in
    let count_old = ap (λ (s : ScanSeat). s.count) c.audit.ensures.seats.0 in
    let moved_old = ap (λ (s : EndSeat). s.moved) c.audit.ensures.seats.1 in
    record {
      between = subst (IsBetween c.args.zone.now) (sym begun) (between_begun c.args.zone.now rest);
      count = count ∙ c.begin_round.ensures.serial ∙ sym (ap (λ (z : ZoneState). isolated z.records) c.begin_round.ensures.zone);
      rounds = ap (λ (s : ScanSeat). s.rounds) c.begin_round.ensures.seat ∙ ap (λ (s : ScanSeat). s.rounds + 1) c.audit.ensures.seats.0;
      moved = omega (arith, count, count_old, moved_old);
      back = ap (λ (s : EndSeat). s.back) c.audit.ensures.seats.1;
    }

pub carry-requires : goal.carry-requires
carry-requires g c =
    let start = c.args.zone.now in
    let z = c.loop-page.zone in
    let is = page_scanned z c.isolate_next.new.self c.in-Ok-Page.page (next_pair z) (sym c.in-Ok-Page.field-0-is ∙ c.in-Ok-Page.ensures.answer) c.in-Ok-Page.ensures.ok in
    let own = own_isolated z c.isolate_next.new.self c.in-Ok-Page.page (next_pair z) c.loop-page.invariant.between.valid refl (sym c.in-Ok-Page.field-0-is ∙ c.in-Ok-Page.ensures.answer) c.in-Ok-Page.ensures.ok in
    let none : pins c.isolate_next.new.self.records c.in-Ok-Page.page.page.number ≡ 0 =
    (λ i. pins (is.left i).records (is.page i).page.number) ∙ unpinned start z c.loop-page.invariant.between is.pair (sym c.in-Ok-Page.ensures.refused) is.found in
    (search rules, (search rules, (own, none)))

pub loop-page-preserved : goal.loop-page-preserved
loop-page-preserved g c =
    let start = c.args.zone.now in
    let z = c.loop-page.zone in
    let before = c.loop-page.invariant in
    let is = page_scanned z c.isolate_next.new.self c.in-Ok-Page.page (next_pair z) (sym c.in-Ok-Page.field-0-is ∙ c.in-Ok-Page.ensures.answer) c.in-Ok-Page.ensures.ok in
    let moved_is : c.carry.new.zone ≡ moved_to_target (isolated_next z is.pair) (isolated z.records) is.pair.page =
    c.carry.ensures.zone ∙ (λ i. moved_to_target (is.left i) (is.page i).serial (is.page i).page.number) in
    let seat = c.in-Ok-Page.ensures.seat ∙ ap (seat_noted c.loop-page.seats.scan) c.in-Ok-Page.field-0-is in
    let count = ap (λ (s : ScanSeat). s.count) seat in
    let moved = ap (λ (s : EndSeat). s.moved) c.carry.ensures.ends in
    record {
      between = subst (IsBetween start) (sym moved_is)
          (between_moved start z before.between is.pair (sym c.in-Ok-Page.ensures.refused) is.found (subst IsValidZone moved_is c.carry.ensures.valid));
      count = count ∙ ap (λ (n : ℕ). n + 1) before.count ∙ sym (ap (λ (w : ZoneState). isolated w.records) moved_is);
      rounds = ap (λ (s : ScanSeat). s.rounds) seat ∙ before.rounds;
      moved = omega (arith, count, moved, before.moved);
      back = ap (λ (s : EndSeat). s.back) c.carry.ensures.ends ∙ before.back;
    }

-- where the scanners met
pub returns-in-Ok-Met-clause-exact : goal.returns-in-Ok-Met-clause-exact
returns-in-Ok-Met-clause-exact g c =
    let z = c.loop-page.zone in
    let met = sym c.in-Ok-Met.field-0-is ∙ c.in-Ok-Met.ensures.answer in
    subst (IsSame (by_hand c.args.zone.now)) (sym (c.in-Ok-Met.ensures.ok ∙ ap (next_state z) (met_none z (next_pair z) met)))
    (exact_stopped c.args.zone.now z c.loop-page.invariant.between (met_stops z c.in-Ok-Met.ensures.refused met))

pub returns-in-Ok-Met-clause-stopped : goal.returns-in-Ok-Met-clause-stopped
returns-in-Ok-Met-clause-stopped g c =
    let z = c.loop-page.zone in
    ap last_for c.in-Ok-Met.ensures.refused
    ∙ last_is c.args.zone.now z c.loop-page.invariant.between (met_stops z c.in-Ok-Met.ensures.refused (sym c.in-Ok-Met.field-0-is ∙ c.in-Ok-Met.ensures.answer))

pub returns-in-Ok-Met-clause-packed : goal.returns-in-Ok-Met-clause-packed
returns-in-Ok-Met-clause-packed g c met calm =
    let z = c.loop-page.zone in
    let between = c.loop-page.invariant.between in
    let none = met_stops z c.in-Ok-Met.ensures.refused (sym c.in-Ok-Met.field-0-is ∙ c.in-Ok-Met.ensures.answer) in
    packed_exact c.args.zone.now c.isolate_next.new.self between.rest.valid calm
    (sym (refusal_is c.args.zone.now z between none) ∙ sym c.in-Ok-Met.ensures.refused)
    (returns-in-Ok-Met-clause-exact g c)

-- where the journal is full
pub returns-in-Err-clause-exact : goal.returns-in-Err-clause-exact
returns-in-Err-clause-exact g c =
    let z = c.loop-page.zone in
    subst (IsSame (by_hand c.args.zone.now)) (sym c.in-Err.ensures.err)
    (exact_stopped c.args.zone.now z c.loop-page.invariant.between (full_stops z _ c.in-Err.ensures.refused))

pub returns-in-Err-clause-stopped : goal.returns-in-Err-clause-stopped
returns-in-Err-clause-stopped g c =
    ap last_for c.in-Err.ensures.refused
    ∙ last_is c.args.zone.now c.loop-page.zone c.loop-page.invariant.between (full_stops c.loop-page.zone _ c.in-Err.ensures.refused)
