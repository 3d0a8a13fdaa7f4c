-- Rounds by hand over two zones that are the same leave zones that are the same.
use Rattle.std.proofs.Common.{◌≡◌, ◌+◌, ◌-◌, ◌*◌, length, sym, ap, ◌∙◌, Some}
use Rattle.std.specs.FinMap as map
use Rattle.state_core.specs.Rounds.{round_begun}
use Rattle.state_core.specs.ZoneState.{ZoneState, frame_count}
use Rattle.state_core.proofs.Rounds.{valid_begun}
use Rattle.zone_core.specs.Alone.{IsAtRest}
use Rattle.zone_core.specs.ByHand.{scan_steps, all_isolated, by_hand}
use Rattle.zone_core.specs.Outcome.{outcome_of, final_frame, IsSame}
use Rattle.zone_core.proofs.ByHand.{moving_isolated, stand_by_hand, none_by_hand, back_by_hand, outcome_all, same_outcome}
use Rattle.zone_core.proofs.Coming.{comes_begun}
use Rattle.zone_core.proofs.Scanning.{outcome_steps}
use Rattle.zone_core.proofs.Same.{calm_same}

module _ (z w : ZoneState) (rest_z : IsAtRest z) (rest_w : IsAtRest w) (same : IsSame z w) where
  begun_agrees : outcome_of (round_begun z) ≡ outcome_of (round_begun w)
  begun_agrees = λ i. record {
    number = same.number i;
    blocks = same.blocks i;
    spaces = same.spaces i;
    vpages = same.vpages i;
    page_size = same.page_size i;
    records = same.records i;
    room = same.room i - length (same.out_is i);
    places = same.length_is i + same.room i;
    unmovable = same.unmovable i;
    marked = same.marked i;
    apart = same.apart i;
    claimed = same.claimed i;
    handed_out = same.handed_out i;
    contents = same.contents i;
    lent = same.lent i;
    lent_pages = same.lent_pages i;
    memory = same.memory i;
    frame = λ page. final_frame (map.get (same.placement i) page);
    migrate = 0;
    free = 512 * same.blocks i;
    round = Some (record { records = same.length_is i; calm = calm_same z w same i });
  }

  isolated_agrees : outcome_of (all_isolated z) ≡ outcome_of (all_isolated w)
  isolated_agrees =
      outcome_steps (frame_count z) (round_begun z) (round_begun w) (valid_begun z rest_z.valid) (valid_begun w rest_w.valid) (comes_begun z rest_z).carried (comes_begun w rest_w).carried begun_agrees
      ∙ ap (λ n. outcome_of (scan_steps n (round_begun w))) (ap (λ n. 512 * n) same.blocks)

  pub by_hand_agrees : IsSame (by_hand z) (by_hand w)
  by_hand_agrees =
      let of_z = outcome_all (frame_count z) (all_isolated z) (moving_isolated z rest_z) in
      let of_w = outcome_all (frame_count w) (all_isolated w) (moving_isolated w rest_w) in
      same_outcome (by_hand z) (by_hand w) (stand_by_hand z rest_z) (stand_by_hand w rest_w) (none_by_hand z rest_z) (none_by_hand w rest_w)
      (back_by_hand z rest_z ∙ same.back ∙ sym (back_by_hand w rest_w)) (of_z ∙ isolated_agrees ∙ sym of_w)
