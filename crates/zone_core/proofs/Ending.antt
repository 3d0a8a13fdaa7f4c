-- A move that ends.
use Rattle.std.proofs.Common.{◌≡◌, ℕ, ◌+◌, ◌-◌, ◌∷◌, length, inl, inr, refl, sym, ap, ◌∙◌, arith, Some, nat_eq}
use Rattle.std.specs.FinMap as map
use Rattle.std.proofs.lemmas.Bool.{or_from, ne_eqb}
use Rattle.std.proofs.lemmas.Bool.Decides.{eqb_tells}
use Rattle.frame_core.specs.declared.record.Record.TheVariants.{Moved}
use Rattle.frame_core.specs.declared.record.Cause.{Cause}
use Rattle.frame_core.specs.Moves.{out}
use Rattle.state_core.specs.declared.placement.Placement.{Placement}
use Rattle.state_core.specs.declared.placement.Placement.TheVariants.{At, Moving}
use Rattle.state_core.specs.Ending.{moved_to_target, put_back_to_source, target_of, source_of}
use Rattle.state_core.specs.Valid.{IsValidZone}
use Rattle.state_core.specs.Pairs.{stands_in}
use Rattle.state_core.specs.ZoneState.{ZoneState, takes_up}
use Rattle.state_core.proofs.Entries.{get_insert_same, get_insert_other}
use Rattle.state_core.proofs.Settled.{valid_moved, out_fewer}
use Rattle.zone_core.specs.Alone.{AreCarriedUp, IsSeenAs}
use Rattle.zone_core.specs.Outcome.{outcome_of, final_frame}
use Rattle.zone_core.proofs.Scanning.{not_moving, no_pin, placed_same}

module _ (z : ZoneState) (law : IsValidZone z) (carried : AreCarriedUp z) (page serial source target : ℕ) (at : map.get z.placement page ≡ Some (Moving serial source target)) where
  target_is : target_of (map.get z.placement page) ≡ target
  target_is = ap target_of at

  pub valid_move : IsValidZone (moved_to_target z serial page)
  valid_move = valid_moved z serial page source target law at (carried.here page serial source target at) (no_pin z carried page serial source target at)

  pub carried_moved : AreCarriedUp (moved_to_target z serial page)
  carried_moved = record {
    each = λ q s from to here.
        let there = At (target_of (map.get z.placement page)) in
        elim (eqb_tells q page) [
          | inl same ↦ absurd (not_moving _ s from to (sym (get_insert_same z.placement page q there same.1) ∙ here))
          | inr other ↦ (let old = carried.each q s from to (sym (get_insert_other z.placement page q there other.1) ∙ here) in record { low = old.low; high = old.high; movable = old.movable })
        ];
    here = λ q s from to here.
        let there = At (target_of (map.get z.placement page)) in
        elim (eqb_tells q page) [
          | inl same ↦ absurd (not_moving _ s from to (sym (get_insert_same z.placement page q there same.1) ∙ here))
          | inr other ↦ carried.here q s from to (sym (get_insert_other z.placement page q there other.1) ∙ here)
        ];
  }

  frame_moved : (q : ℕ) → final_frame (map.get (moved_to_target z serial page).placement q) ≡ final_frame (map.get z.placement q)
  frame_moved q = placed_same final_frame z.placement page q (At (target_of (map.get z.placement page))) (ap Some target_is ∙ sym (ap final_frame at))

  -- what a zone comes to is the same before and after
  pub outcome_moved : outcome_of (moved_to_target z serial page) ≡ outcome_of z
  outcome_moved =
      let left = law.journal.room_left in
      let fewer = out_fewer z page serial source target law at in
      let room : (z.room - 1) - length (out (Moved serial ∷ z.records)) ≡ z.room - length (out z.records) = omega arith in
      let places : length (Moved serial ∷ z.records) + (z.room - 1) ≡ length z.records + z.room = omega arith in
      λ i. record (outcome_of z) { room = room i; frame = λ q. frame_moved q i; places = places i }

-- nor is a page that is put back seen between the fingers
module _ (z : ZoneState) (law : IsValidZone z) (carried : AreCarriedUp z) (page serial source target : ℕ) (cause : Cause) (at : map.get z.placement page ≡ Some (Moving serial source target)) where
  abbrev sent_back : ZoneState
  sent_back = put_back_to_source z serial page cause

  abbrev home : Placement
  home = At (source_of (map.get z.placement page))

  home_is : home ≡ At source
  home_is = ap (λ o. At (source_of o)) at

  pub carried_back : AreCarriedUp sent_back
  carried_back = record {
    each = λ q s from to here. elim (eqb_tells q page) [
      | inl same ↦ absurd (not_moving _ s from to (sym (get_insert_same z.placement page q home same.1) ∙ here))
      | inr other ↦ (let old = carried.each q s from to (sym (get_insert_other z.placement page q home other.1) ∙ here) in record { low = old.low; high = old.high; movable = old.movable })
    ];
    here = λ q s from to here. elim (eqb_tells q page) [
      | inl same ↦ absurd (not_moving _ s from to (sym (get_insert_same z.placement page q home same.1) ∙ here))
      | inr other ↦ carried.here q s from to (sym (get_insert_other z.placement page q home other.1) ∙ here)
    ];
  }

  pub seen_back : IsSeenAs sent_back z
  seen_back =
      let left = law.journal.room_left in
      let fewer = out_fewer z page serial source target law at in
      let way = carried.each page serial source target at in
      let low = way.low in
      let high = way.high in
      record {
        blocks = refl;
        migrate = refl;
        free = refl;
        marked = refl;
        claimed = refl;
        handed_out = refl;
        unmovable = refl;
        pins_are = λ q. refl;
        count = refl;
        spare = omega arith;
        stands = λ q frame above below. placed_same (λ o. stands_in o frame) z.placement page q home
            (ap (λ o. stands_in (Some o) frame) home_is ∙ ne_eqb frame source (λ is. omega arith) ∙ sym (ap (λ o. stands_in o frame) at));
        takes = λ q frame above below. placed_same (λ o. takes_up o frame) z.placement page q home
            (ap (λ o. takes_up (Some o) frame) home_is ∙ ne_eqb frame source (λ is. omega arith)
            ∙ sym (ap (λ o. takes_up o frame) at ∙ or_from (nat_eq frame source) (nat_eq frame target) (ne_eqb frame source (λ is. omega arith)) (ne_eqb frame target (λ is. omega arith))));
      }
