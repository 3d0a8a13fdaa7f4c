-- Aligned runs by their first frames: whether one is open, and what it costs.
use Rattle.std.proofs.Common.{◌≡◌, ℕ, ◌+◌, ◌*◌, ◌/◌, ◌^◌, ◌<◌, ◌≤◌, true, false, ap, arith}
use Rattle.std.specs.Prelude.{nat_eq}
use Rattle.std.proofs.lemmas.Bool.{and_parts, both_ways, eqb-true, leb-true, ne_eqb}
use Rattle.frame_core.specs.Below.{count_from}
use Rattle.frame_core.specs.Order.{is_aligned}
use Rattle.state_core.specs.HandingOut.{has_block}
use Rattle.state_core.specs.ZoneState.{ZoneState, frame_count, is_used}
use Rattle.fewest_core.specs.FewestMoves.{cost, is_open, is_shut}
use Rattle.fewest_core.proofs.Counts.{none_counted}

-- a run of a block begins at a multiple of its size
pub aligned : (z : ZoneState) (first order : ℕ) → has_block z order first ≡ true → 2 ^ order * (first / 2 ^ order) ≡ first
aligned z first order has = omega (arith, eqb-true (first / 2 ^ order * 2 ^ order) first (and_parts (is_aligned order first) _ has).0)

pub block_within : (z : ZoneState) (first order : ℕ) → has_block z order first ≡ true → first + 2 ^ order ≤ frame_count z
block_within z first order has = leb-true (first + 2 ^ order) (frame_count z) (and_parts (is_aligned order first) _ has).1

pub cost_is : (z : ZoneState) (first order : ℕ) → has_block z order first ≡ true → cost z (2 ^ order) (first / 2 ^ order) ≡ count_from (is_used z) first (2 ^ order)
cost_is z first order has = ap (λ (k : ℕ). count_from (is_used z) k (2 ^ order)) (aligned z first order has)

pub open_is : (z : ZoneState) (first order : ℕ) → has_block z order first ≡ true → is_open z (2 ^ order) (first / 2 ^ order) ≡ nat_eq (count_from (is_shut z) first (2 ^ order)) 0
open_is z first order has = ap (λ (k : ℕ). nat_eq (count_from (is_shut z) k (2 ^ order)) 0) (aligned z first order has)

-- a run isn't open where a frame of it is shut
pub shut_closes : (z : ZoneState) (first size frame : ℕ) → first ≤ frame → frame < first + size → is_shut z frame ≡ true → nat_eq (count_from (is_shut z) first size) 0 ≡ false
shut_closes z first size frame low high shut = ne_eqb (count_from (is_shut z) first size) 0 (λ none. both_ways _ (none_counted (is_shut z) first size frame none low high) shut)
