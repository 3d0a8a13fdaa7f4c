use Rattle.std.proofs.Common.{◌≡◌, ◌∙◌, ◌^◌, ℕ, ap, length, refl, subst, sym, arith}
use Rattle.std.specs.Prelude.{slice_index}
use Rattle.std.specs.FinMap as map
use Rattle.fewest_core.specs.Evacuation.{IsCarriedFrom}
use Rattle.fewest_core.specs.FewestMoves.{least}
use Rattle.fewest_core.specs.Reservation.{is_in_runs, reserve_refusal}
use Rattle.frame_core.specs.Moves.{moved}
use Rattle.state_core.specs.ZoneState.{ZoneState, frame_count}
use Rattle.zone_core.proofs.Clearing.{all_free, enough, in_zone, moved_all, room_left, runs_apart, runs_free, unshut}
use Rattle.zone_core.proofs.HandingOut.{carried_on, handed_all, kept_blocks}
use Rattle.zone_core.proofs.bare.BareZone.reserve.Goals as goal

pub clear-requires : goal.clear-requires
clear-requires g c =
    let z = c.args.self.now in
    let firsts = c.pick.new.firsts in
    let accepted = ap (λ (k : ℕ). reserve_refusal c.args.self.now k c.args.order) c.pick.ensures.count ∙ sym c.in_ok-pages.ensures.refused in
    (omega arith, (in_zone z c.args.order firsts c.pick.ensures.picked, (unshut z c.args.order firsts c.pick.ensures.picked, enough z c.args.order firsts c.pick.ensures.picked accepted)))

pub hand_out_each-requires : goal.hand_out_each-requires
hand_out_each-requires g c =
    let z = c.args.self.now in
    let firsts = c.pick.new.firsts in
    let accepted = ap (λ (k : ℕ). reserve_refusal c.args.self.now k c.args.order) c.pick.ensures.count ∙ sym c.in_ok-pages.ensures.refused in (
      omega arith,
      (
        room_left z c.args.order firsts c.pick.ensures.picked accepted c.clear.new.self (frame_count z) c.clear.ensures.emptied refl,
        (
          runs_free z c.args.order firsts c.pick.ensures.picked c.clear.new.self c.clear.ensures.emptied.blocks (all_free z c.args.order firsts c.pick.ensures.picked accepted c.clear.new.self (frame_count z) c.clear.ensures.emptied refl),
          runs_apart z c.args.order firsts c.pick.ensures.picked,
        ),
      ),
    )

pub returns-clause-moved : goal.returns-clause-moved
returns-clause-moved g c =
    let accepted = ap (λ (k : ℕ). reserve_refusal c.args.self.now k c.args.order) c.pick.ensures.count ∙ sym c.in_ok-pages.ensures.refused in
    let all = moved_all c.args.self.now c.args.order c.pick.new.firsts c.pick.ensures.picked accepted c.clear.new.self (frame_count c.args.self.now) c.clear.ensures.emptied refl in
    let kept = (kept_blocks c.args.order c.pick.new.firsts c.clear.new.self (length c.pick.new.firsts)).2 in
    let pages : least (length c.pick.new.firsts) c.args.self.now (2 ^ c.args.order) ≡ c.in_ok-pages.pages = ap (λ (k : ℕ). least k c.args.self.now (2 ^ c.args.order)) c.pick.ensures.count ∙ sym c.in_ok-pages.ensures.pages in
    omega (arith, ap (λ (u : ZoneState). moved u.records) c.hand_out_each.ensures.taken, kept, all, pages)

pub returns-clause-taken : goal.returns-clause-taken
returns-clause-taken g c place h =
    ap (λ (u : ZoneState). map.get u.handed_out (slice_index c.pick.new.firsts place)) c.hand_out_each.ensures.taken
    ∙ handed_all c.args.order c.pick.new.firsts c.clear.new.self (length c.pick.new.firsts) place h

pub returns-clause-carried : goal.returns-clause-carried
returns-clause-carried g c =
    let is_in = is_in_runs c.pick.new.firsts (2 ^ c.args.order) in
    subst (IsCarriedFrom is_in c.args.self.now) (sym c.hand_out_each.ensures.taken) (carried_on c.args.order c.pick.new.firsts c.clear.new.self is_in c.args.self.now c.clear.ensures.emptied.carried (length c.pick.new.firsts))

pub returns-clause-identity : goal.returns-clause-identity
returns-clause-identity g c =
    let kept = kept_blocks c.args.order c.pick.new.firsts c.clear.new.self (length c.pick.new.firsts) in (
      ap (λ (u : ZoneState). u.number) c.hand_out_each.ensures.taken ∙ kept.1 ∙ c.clear.ensures.emptied.number,
      ap (λ (u : ZoneState). u.blocks) c.hand_out_each.ensures.taken ∙ kept.0 ∙ c.clear.ensures.emptied.blocks,
    )
