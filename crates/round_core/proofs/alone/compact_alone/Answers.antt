use Rattle.std.proofs.Common.{◌≡◌, ◌∙◌, sym, subst, ap, None, Result}
use Rattle.std.specs.Prelude.{OnOk}
use Rattle.state_core.specs.Valid.{IsValidZone}
use Rattle.zone_core.specs.Alone.{IsAtRest, KeepsAlone}
use Rattle.zone_core.specs.Seats.{EndSeat, audit_refusal}
use Rattle.round_core.specs.Alone.{StopsAlone, QuietAlone}
use Rattle.round_core.specs.Counts.{CountsOn}
use Rattle.round_core.specs.declared.error.RoundError.{RoundError}
use Rattle.round_core.specs.declared.round.Round.{Round}
use Rattle.round_core.specs.Settling.{IsRoundRun, answer_between}
use Rattle.round_core.proofs.Settling.{counted_by, if_counted_by, no_less, passed}
use Rattle.round_core.proofs.ByHand.{IsRoundByHand, comes_by_hand, if_ok, if_same, if_packed, known_on}
use Rattle.round_core.proofs.alone.compact_alone.Goals as goal
use Rattle.round_core.proofs.alone.compact_alone.Given.{Over}
use Rattle.round_core.proofs.alone.compact_alone.Goals.{After-round_between}

module _ (g : Over) (c : After-round_between g) where
  law : IsValidZone c.args.zone
  law = subst IsValidZone c.audit.ensures.same c.audit.ensures.valid

  -- how the round went, from the zone and the seats that it was given
  ran : (KeepsAlone c.args.zone c.run_shared-zone.result.0 × QuietAlone c.args.zone c.run_shared-zone.result.0)
      × IsRoundRun (StopsAlone c.args.zone) (IsAtRest c.args.zone) None c.args.copiers c.args.seats.now.scan c.run_shared-zone.new.seats.scan c.args.seats.now.ends c.run_shared-zone.new.seats.ends c.run_shared-zone.result.1
  ran =
      let audit = c.audit.ensures in
      let run = c.run_shared-zone in
      known_on (λ z scan ends. (KeepsAlone z run.result.0 × QuietAlone z run.result.0) × IsRoundRun (StopsAlone z) (IsAtRest z) None c.args.copiers scan run.new.seats.scan ends run.new.seats.ends run.result.1)
      c.audit.new.self c.args.zone c.audit.new.scan c.args.seats.now.scan c.audit.new.ends c.args.seats.now.ends (sym audit.same) (sym audit.seats.0) (sym audit.seats.1)
      (run.ensures.keeps, run.ensures.ran)

  -- it was by hand, as the second audit found the zone and the seats
  by_hand : IsRoundByHand c.args.copiers c.args.zone c.audit-after.new.self c.args.seats.now.scan c.audit-after.new.scan c.args.seats.now.ends c.audit-after.new.ends c.round_between.result
  by_hand =
      let run = c.run_shared-zone in
      let after = c.audit-after.ensures in
      subst (λ result. IsRoundByHand c.args.copiers c.args.zone c.audit-after.new.self c.args.seats.now.scan c.audit-after.new.scan c.args.seats.now.ends c.audit-after.new.ends result) (sym c.round_between.ensures)
      (known_on (λ z scan ends. IsRoundByHand c.args.copiers c.args.zone z c.args.seats.now.scan scan c.args.seats.now.ends ends (answer_between c.in-Ok.before run.result.1 c.audit-after.result))
      run.result.0 c.audit-after.new.self run.new.seats.scan c.audit-after.new.scan run.new.seats.ends c.audit-after.new.ends after.same after.seats.0 after.seats.1
      (comes_by_hand c.args.zone run.result.0 c.args.seats.now.scan run.new.seats.scan c.args.seats.now.ends run.new.seats.ends c.in-Ok.before
      law run.ensures.kept.valid ran.0.0 ran.0.1 c.in-Ok.ensures.ok after.serial
      c.args.copiers run.result.1 c.audit-after.result (ap (λ (e : EndSeat). e.parts) (sym c.audit.ensures.seats.1) ∙ c.in-Ok.ensures.whole) after.ok after.most ran.1))

pub round_between-requires : goal.round_between-requires
round_between-requires g c =
    let same = c.audit.ensures.seats in
    let run = c.run_shared-zone in
    let after = c.audit-after in
    let on = subst (λ ends. CountsOn ends run.new.seats.ends) same.1 run.ensures.ran.counts in
    no_less c.args.seats.now.scan run.new.seats.scan c.args.seats.now.ends run.new.seats.ends c.in-Ok.before
    (counted_by c.args.zone c.args.seats.now.scan c.args.seats.now.ends c.in-Ok.before c.in-Ok.ensures.ok) (ap (λ (e : EndSeat). e.parts) (sym same.1) ∙ c.in-Ok.ensures.whole) on
    after.result (if_counted_by run.result.0 run.new.seats.scan run.new.seats.ends after.result after.ensures.ok)

pub returns-clause-exact : goal.returns-clause-exact
returns-clause-exact g c = if_same c.args.zone c.audit-after.new.self c.round_between.result (by_hand g c).by_hand

pub returns-clause-fingers : goal.returns-clause-fingers
returns-clause-fingers g c = if_ok (λ r is. is.fingers) c.round_between.result (by_hand g c).by_hand

pub returns-clause-quiet : goal.returns-clause-quiet
returns-clause-quiet g c = if_ok (λ r is. is.quiet) c.round_between.result (by_hand g c).by_hand

pub returns-clause-count : goal.returns-clause-count
returns-clause-count g c = if_ok (λ r is. is.count) c.round_between.result (by_hand g c).by_hand

pub returns-clause-none_back : goal.returns-clause-none_back
returns-clause-none_back g c = if_ok (λ r is. is.none_back) c.round_between.result (by_hand g c).by_hand

pub returns-clause-stopped : goal.returns-clause-stopped
returns-clause-stopped g c = if_ok (λ r is. is.stopped) c.round_between.result (by_hand g c).by_hand

pub returns-clause-unlimited : goal.returns-clause-unlimited
returns-clause-unlimited g c = (by_hand g c).unlimited

pub returns-clause-passes : goal.returns-clause-passes
returns-clause-passes g c =
    let after = c.audit-after in
    subst (λ (result : Result Round RoundError). OnOk result (audit_refusal after.new.self after.new.ends ≡ None)) (sym c.round_between.ensures)
    (passed c.in-Ok.before c.run_shared-zone.result.1 after.result _ (after.ensures.refused ∙ (λ i. audit_refusal (sym after.ensures.same i) (sym after.ensures.seats.1 i))))

pub returns-clause-packed : goal.returns-clause-packed
returns-clause-packed g c = if_packed c.args.zone c.audit-after.new.self (law g c) c.round_between.result (by_hand g c).by_hand

pub returns-clause-lists : goal.returns-clause-lists
returns-clause-lists g c = (by_hand g c).answered.lists

pub returns-clause-unbegun : goal.returns-clause-unbegun
returns-clause-unbegun g c = λ sound. (by_hand g c).unbegun

pub returns-clause-round : goal.returns-clause-round
returns-clause-round g c = (by_hand g c).answered.round

pub returns-clause-early : goal.returns-clause-early
returns-clause-early g c = (by_hand g c).answered.early
