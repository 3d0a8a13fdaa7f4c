-- The lowest free run of an order goes before each other open run, where it is open.
use Rattle.std.proofs.Common.{◌≡◌, ℕ, ◌+◌, ◌*◌, ◌/◌, ◌^◌, ◌<◌, ◌≤◌, true, false, ◌&&◌, inl, inr, sym, ap, ◌∙◌, arith}
use Rattle.std.specs.Prelude.{Option, None, Some, IfSome, nat_eq, nat_lt}
use Rattle.std.proofs.lemmas.Bool.{and_from, and_parts, both_ways, eq-eqb, eqb-true, false_from_ne_true, ltb-true, or_cases}
use Rattle.std.proofs.lemmas.Bool.Decides.{leb_tells}
use Rattle.std.proofs.lemmas.Nat.{le-div, pow_pos}
use Rattle.frame_core.specs.Below.{count_from}
use Rattle.frame_core.proofs.Searches.{count_none, lowest_before, lowest_some}
use Rattle.state_core.specs.HandingOut.{has_block, is_run, lowest_run}
use Rattle.state_core.specs.ZoneState.{ZoneState, frame_count, is_free}
use Rattle.fewest_core.specs.FewestMoves.{cost, is_open, run_count}
use Rattle.fewest_core.specs.Reservation.{goes_before, rank}
use Rattle.fewest_core.proofs.OpenRuns.{aligned, block_within}
use Rattle.zone_tables.proofs.OpenRuns.{open_occupied, run_fits}
use Rattle.zone_core.specs.declared.bare.reserving.OpenRun.{OpenRun}
use Rattle.zone_core.specs.Reserving.{IsOpenRun}
use Rattle.zone_core.proofs.Picking.{free_or_used, start_block}

module _ (z : ZoneState) (order first : ℕ) (lowest : lowest_run z order ≡ Some first) where
  run : is_run z order first ≡ true
  run = (lowest_some (is_run z order) (frame_count z) first lowest).1

  free_block : has_block z order first ≡ true
  free_block = (and_parts (has_block z order first) _ run).0

  -- it is one of the runs of the zone
  pub free_within : first / 2 ^ order < run_count z (2 ^ order)
  free_within =
      let fits : (first / 2 ^ order + 1) * 2 ^ order ≤ frame_count z = omega (arith, aligned z first order free_block, block_within z first order free_block, spread (2 ^ order) (first / 2 ^ order)) in
      omega (arith, le-div (first / 2 ^ order + 1) (frame_count z) (2 ^ order) (pow_pos order) fits) where
        spread : (size a : ℕ) → (a + 1) * size ≡ size * a + size
        spread size a = omega arith

  module _ (opened : is_open z (2 ^ order) (first / 2 ^ order) ≡ true) where
    costs_none : cost z (2 ^ order) (first / 2 ^ order) ≡ 0
    costs_none = omega (arith, eqb-true (count_from (is_free z) first (2 ^ order)) (2 ^ order) (and_parts (has_block z order first) _ run).1, open_occupied z first order free_block opened)

    -- a lower open run isn't free
    lower_costs : (k : ℕ) → k < first / 2 ^ order → is_open z (2 ^ order) k ≡ true → 0 < cost z (2 ^ order) k
    lower_costs k low open_there =
        let within : k < run_count z (2 ^ order) = omega (arith, low, free_within) in
        let here : 2 ^ order * k + 2 ^ order ≤ first = run_fits (2 ^ order) first k low in
        let free = free_or_used z order k within open_there in
        let unfree = lowest_before (is_run z order) (frame_count z) first (2 ^ order * k) lowest (omega (arith, here, pow_pos order)) in
        elim (leb_tells 1 (cost z (2 ^ order) k)) [
          | inl some ↦ omega (arith, some.1)
          | inr none ↦ absurd (both_ways _ unfree (and_from _ _ (start_block z order k within) (eq-eqb _ _ (omega (arith, free, none.1)))))
        ]

    free_ranked : rank z (2 ^ order) (first / 2 ^ order) ≡ 0
    free_ranked = count_none _ (run_count z (2 ^ order)) none_before where
      none_before : (k : ℕ) → k < run_count z (2 ^ order) → (is_open z (2 ^ order) k && goes_before (cost z (2 ^ order)) k (first / 2 ^ order)) ≡ false
      none_before k within = false_from_ne_true (is_open z (2 ^ order) k && goes_before (cost z (2 ^ order)) k (first / 2 ^ order)) (λ e.
          let parts = and_parts (is_open z (2 ^ order) k) (goes_before (cost z (2 ^ order)) k (first / 2 ^ order)) e in
          elim (or_cases (nat_lt (cost z (2 ^ order) k) (cost z (2 ^ order) (first / 2 ^ order))) (nat_eq (cost z (2 ^ order) k) (cost z (2 ^ order) (first / 2 ^ order)) && nat_lt k (first / 2 ^ order)) parts.1) [
            | inl cheaper ↦ absurd (omega (arith, ltb-true (cost z (2 ^ order) k) (cost z (2 ^ order) (first / 2 ^ order)) cheaper, costs_none))
            | inr level ↦
                (let two = and_parts (nat_eq (cost z (2 ^ order) k) (cost z (2 ^ order) (first / 2 ^ order))) (nat_lt k (first / 2 ^ order)) level in
                absurd (omega (arith, eqb-true (cost z (2 ^ order) k) (cost z (2 ^ order) (first / 2 ^ order)) two.0, costs_none, lower_costs k (ltb-true k (first / 2 ^ order) two.1) parts.0)))
          ])

  -- so it is the first of all, if it is open
  pub free_first : (number : ℕ) → number ≡ first / 2 ^ order → (found : Option OpenRun) → IfSome found (IsOpenRun z (2 ^ order)) → IfSome found (λ r. r.number ≡ number) → IfSome found (λ r. rank z (2 ^ order) r.number ≡ 0)
  free_first number same None is at = tt
  free_first number same (Some r) is at = ap (rank z (2 ^ order)) (at ∙ same) ∙ free_ranked (sym (ap (is_open z (2 ^ order)) (at ∙ same)) ∙ is.opened)
