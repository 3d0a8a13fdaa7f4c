-- Which choices of open runs cost the least.
use Rattle.std.proofs.Common.{◌≡◌, ℕ, ◌<◌, ◌≤◌, Bool, true, false, length, arith}
use Rattle.frame_core.specs.Below.{count_below}
use Rattle.state_core.specs.ZoneState.{ZoneState}
use Rattle.fewest_core.specs.FewestMoves.{run_count, cost, costs, cost_of, is_open, least}
use Rattle.fewest_core.specs.Reservation.{is_picked}
use Rattle.fewest_core.proofs.Costs.{choice_attains, costs_counted, picked_least}
use Rattle.fewest_core.proofs.Ranks.{all_picked, picked_cost}

pub attained : (size n : ℕ) (z : ZoneState) → n ≤ length (costs z size) → (chosen : ℕ → Bool) × ((run : ℕ) → chosen run ≡ true → (run < run_count z size) × (is_open z size run ≡ true)) × (count_below chosen (run_count z size) ≡ n) × (cost_of chosen z size ≡ least n z size)
attained size n z within = choice_attains (is_open z size) (cost z size) (run_count z size) n within

pub picked : (size t : ℕ) (z : ZoneState) (chosen : ℕ → Bool) → ((run : ℕ) → chosen run ≡ true → (is_open z size run ≡ true) × (cost z size run ≤ t)) → ((run : ℕ) → run < run_count z size → chosen run ≡ false → is_open z size run ≡ true → t ≤ cost z size run) → cost_of chosen z size ≡ least (count_below chosen (run_count z size)) z size
picked size t z chosen low high = picked_least (is_open z size) (cost z size) chosen t (run_count z size) low high

pub cheapest : (size n : ℕ) (z : ZoneState) → n ≤ length (costs z size) → (count_below (is_picked z size n) (run_count z size) ≡ n) × (cost_of (is_picked z size n) z size ≡ least n z size)
cheapest size n z within =
    let few : n ≤ count_below (is_open z size) (run_count z size) = omega (arith, within, costs_counted (is_open z size) (cost z size) (run_count z size)) in
    (all_picked (is_open z size) (cost z size) (run_count z size) n few, picked_cost (is_open z size) (cost z size) (run_count z size) n few)
