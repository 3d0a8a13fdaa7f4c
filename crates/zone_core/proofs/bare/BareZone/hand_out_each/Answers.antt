use Rattle.std.proofs.Common.{◌∙◌, ◌<◌, length, ap, subst, sym, arith}
use Rattle.std.proofs.lemmas.List.{get_or_default}
use Rattle.state_core.specs.HandingOut.{block_taken, is_run}
use Rattle.state_core.specs.Valid.{IsValidZone}
use Rattle.state_core.specs.ZoneState.{ZoneState, has_room}
use Rattle.zone_core.proofs.HandingOut.{handing_begins, handing_on, room_here, run_here, IsHandingOut}
use Rattle.zone_core.proofs.bare.BareZone.hand_out_each.Goals as goal

pub loop-place-init : goal.loop-place-init
loop-place-init g c =
    let law = subst IsValidZone c.self.view_is c.self.invariant in
    subst (λ (u : ZoneState). IsHandingOut c.args.self.now c.args.order c.args.firsts.now u 0) (sym c.self.view_is) (handing_begins c.args.self.now c.args.order c.args.firsts.now c.requires.room c.requires.free law)

pub hand_out-requires : goal.hand_out-requires
hand_out-requires g c =
    let v = c.loop-place.self-inside.tables.value in
    let same = c.deref_mut.ensures.value in
    let within : c.loop-place.place < length c.args.firsts.now = omega (arith, c.loop-place-test.true) in
    let first = c.index-firsts-place.is ∙ get_or_default c.args.firsts.now c.loop-place.place c.index-firsts-place.result 0 within in (
      omega arith,
      (
        ap has_room same ∙ room_here c.args.self.now c.args.order c.args.firsts.now v c.loop-place.place c.loop-place.invariant within,
        (λ i. is_run (same i) c.args.order (first i)) ∙ run_here c.args.self.now c.args.order c.args.firsts.now v c.loop-place.place c.loop-place.invariant within,
      ),
    )

pub loop-place-preserved : goal.loop-place-preserved
loop-place-preserved g c =
    let v = c.loop-place.self-inside.tables.value in
    let within : c.loop-place.place < length c.args.firsts.now = omega (arith, c.loop-place-test.true) in
    let first = c.index-firsts-place.is ∙ get_or_default c.args.firsts.now c.loop-place.place c.index-firsts-place.result 0 within in
    handing_on c.args.self.now c.args.order c.args.firsts.now v c.loop-place.place c.loop-place.invariant within c.requires.apart c.hand_out.new.self
    (c.hand_out.ensures.step ∙ (λ i. block_taken (c.deref_mut.ensures.value i) (first i) c.args.order)) c.hand_out.ensures.valid
