-- Which frames are shut, which are used, and which runs are open, by the states of the frames.
use Rattle.std.proofs.Common.{◌≡◌, ℕ, zero, suc, ◌+◌, ◌-◌, ◌*◌, ◌/◌, ◌^◌, ◌<◌, ◌≤◌, Bool, true, false, not, ◌&&◌, ◌||◌, inl, inr, refl, sym, ap, ◌∙◌, arith}
use Rattle.std.specs.Prelude.{Option, Some, nat_eq, slice_get, unwrap_or}
use Rattle.std.specs.FinSet as set
use Rattle.std.proofs.lemmas.Bool.{and_parts, both_ways, eq-eqb, eqb-true, not-false, not-true, or_left, or_parts}
use Rattle.std.proofs.lemmas.Nat.{pow_pos, pow-add}
use Rattle.std.proofs.lemmas.Option.{slice_get-get_or}
use Rattle.frame_core.proofs.Searches.{count_from_all, count_from_full, count_from_same}
use Rattle.frame_core.specs.Below.{count_from, one_if}
use Rattle.frame_core.specs.Order.{is_aligned}
use Rattle.frame_core.specs.declared.state.FrameState.{FrameState}
use Rattle.frame_core.specs.declared.state.FrameState.TheVariants.{Free, Holds, Huge, Source, Target}
use Rattle.scan_core.specs.Frames.{free_at, is_free_state, is_holding_state, holds_at, is_open_at, true_at}
use Rattle.scan_core.specs.FreeRuns.{free_in_run}
use Rattle.state_core.specs.declared.placement.Placement.TheVariants.{At}
use Rattle.state_core.specs.Pairs.{can_move, is_marked}
use Rattle.state_core.specs.ZoneState.{ZoneState, frame_count, is_free, is_held, is_used}
use Rattle.scan_core.proofs.Spanning.{same_by}
use Rattle.scan_core.specs.NumberSet.{all_from}
use Rattle.state_core.specs.HandingOut.{has_block}
use Rattle.state_core.proofs.Facts.{not_none}
use Rattle.state_core.proofs.Filled.{block_of_run}
use Rattle.state_core.proofs.Runs.{count_from_none}
use Rattle.fewest_core.specs.FewestMoves.{cost, is_immovable, is_open, is_shut, run_count}
use Rattle.fewest_core.proofs.Counts.{none_counted}
use Rattle.fewest_core.proofs.Moves.{used_at}
use Rattle.fewest_core.proofs.OpenRuns.{block_within, cost_is, open_is, shut_closes}
use Rattle.zone_tables.specs.declared.zone.ZoneTables.TheInside.{Inside}
use Rattle.zone_tables.specs.Sound.{IsSound}
use Rattle.zone_tables.proofs.SearchesAndCounts.{free_seen}
use Rattle.zone_tables.proofs.Shut.{fixed_at, fixed_free, fixed_other}
use Rattle.zone_tables.proofs.Tables.{holds_seen}

module _ {W : ℕ} (z : Inside W) (v : ZoneState) (sound : IsSound z v) (frame : ℕ) (within : frame < frame_count v) where
  -- a frame of an unmarked pageblock is shut where it is neither
  module _ (unmarked : is_marked v frame ≡ false) where
    fixed_is : (fixed : Bool) → (is_held v frame || is_immovable v frame) ≡ fixed → is_shut v frame ≡ fixed
    fixed_is fixed e = (λ i. unmarked i || (is_held v frame || is_immovable v frame)) ∙ e

    shut_by : (state : FrameState ℕ) → slice_get z.frames.states frame ≡ Some state → is_shut v frame ≡ not (is_open_at z.frames frame)
    shut_by Free at = fixed_is false (fixed_free z v sound frame within at) ∙ sym (λ i. not (is_free_state (at i) || (is_holding_state (at i) && true_at z.frames.movable frame)))
    shut_by (Holds page) at =
        let here = holds_seen z.frames.states v sound.frames frame page (Holds page) within at refl in
        let noted : true_at z.frames.movable frame ≡ can_move v page = ap (λ (o : Option Bool). unwrap_or o false) (sound.movable.each page frame here) in
        fixed_is (not (can_move v page)) (fixed_at z v sound frame within page here) ∙ sym (λ i. not (is_free_state (at i) || (is_holding_state (at i) && noted i)))
    shut_by (Source page) at = fixed_is true (fixed_other z v sound frame within (Source page) at (inl (page, refl))) ∙ sym (λ i. not (is_free_state (at i) || (is_holding_state (at i) && true_at z.frames.movable frame)))
    shut_by (Target page) at = fixed_is true (fixed_other z v sound frame within (Target page) at (inr (inl (page, refl)))) ∙ sym (λ i. not (is_free_state (at i) || (is_holding_state (at i) && true_at z.frames.movable frame)))
    shut_by Huge at = fixed_is true (fixed_other z v sound frame within Huge at (inr (inr refl))) ∙ sym (λ i. not (is_free_state (at i) || (is_holding_state (at i) && true_at z.frames.movable frame)))

    state_there : (state : FrameState ℕ) × (slice_get z.frames.states frame ≡ Some state)
    state_there = (_, slice_get-get_or z.frames.states frame Free (omega (arith, within, sound.frames.count)))

    pub shut_is : is_shut v frame ≡ not (is_open_at z.frames frame)
    shut_is = shut_by state_there.0 state_there.1

    -- one that isn't shut is used where it holds a page
    used_by : (state : FrameState ℕ) → slice_get z.frames.states frame ≡ Some state → is_shut v frame ≡ false → is_used v frame ≡ holds_at z.frames.states frame
    used_by Free at unshut =
        let free = and_parts _ (not (is_held v frame)) (sym (free_seen z.frames.states v sound.frames frame within) ∙ ap is_free_state at) in
        not-true _ free.0 ∙ sym (ap is_holding_state at)
    used_by (Holds page) at unshut =
        let here = holds_seen z.frames.states v sound.frames frame page (Holds page) within at refl in
        used_at v page frame (sound.valid.pages.numbered page (not_none _ (At frame) here)) here ∙ sym (ap is_holding_state at)
    used_by state at unshut = absurd (both_ways _ unshut (shut_is ∙ (λ i. not (is_free_state (at i) || (is_holding_state (at i) && true_at z.frames.movable frame)))))

    pub used_is : is_shut v frame ≡ false → is_used v frame ≡ holds_at z.frames.states frame
    used_is = used_by state_there.0 state_there.1

-- a frame of a run is in the pageblock of its first frame
run_block : (first order frame : ℕ) → is_aligned order first ≡ true → order ≤ 9 → first ≤ frame → frame < first + 2 ^ order → frame / 512 ≡ first / 512
run_block first order frame is high low top =
    let sum : order + (9 - order) ≡ 9 = omega (arith, high) in
    let whole : 2 ^ order * 2 ^ (9 - order) ≡ 512 = sym (pow-add 2 order (9 - order)) ∙ ap (λ (k : ℕ). 2 ^ k) sum in
    let at : first / 2 ^ order * 2 ^ order ≡ first = eqb-true (first / 2 ^ order * 2 ^ order) first is in
    let here : 2 ^ order * (first / 2 ^ order) + (frame - first) ≡ frame = omega (arith, at, low) in
    let start : 2 ^ order * (first / 2 ^ order) + 0 ≡ first = omega (arith, at) in
    let short : frame - first < 2 ^ order = omega (arith, low, top) in
    let some : 0 < 2 ^ order = pow_pos order in
    let of_frame : (2 ^ order * (first / 2 ^ order) + (frame - first)) / 512 ≡ first / 2 ^ order / 2 ^ (9 - order) = block_of_run (2 ^ order) (2 ^ (9 - order)) whole (first / 2 ^ order) (frame - first) short in
    let of_first : (2 ^ order * (first / 2 ^ order) + 0) / 512 ≡ first / 2 ^ order / 2 ^ (9 - order) = block_of_run (2 ^ order) (2 ^ (9 - order)) whole (first / 2 ^ order) 0 some in
    ap (λ (k : ℕ). k / 512) (sym here) ∙ of_frame ∙ sym of_first ∙ ap (λ (k : ℕ). k / 512) start

-- each number of a run passes where none of them fails
all_unless : (p q : ℕ → Bool) (first n : ℕ) → ((k : ℕ) → first ≤ k → k < first + n → q k ≡ not (p k)) → all_from p first n ≡ nat_eq (count_from q first n) 0
all_unless p q first n fails = same_by _ _
    (λ e. eq-eqb _ 0 (count_from_none q first n (λ k h. fails (first + k) (omega arith) (omega (arith, h)) ∙ ap not (count_from_full p first n (first + k) (eqb-true _ n e) (omega arith) (omega (arith, h))))))
    (λ e. eq-eqb _ n (count_from_all p first n (λ k low high. not-false _ (sym (fails k low high) ∙ none_counted q first n k (eqb-true _ 0 e) low high))))

one_of_two : (a b : Bool) → b ≡ not a → one_if a + one_if b ≡ 1
one_of_two a true is = grind (arith, is)
one_of_two a false is = grind (arith, is)

-- two counts of a run, each number of which passes just one of the tests
counts_of_two : (p q : ℕ → Bool) (first n : ℕ) → ((k : ℕ) → first ≤ k → k < first + n → q k ≡ not (p k)) → count_from p first n + count_from q first n ≡ n
unfolding count_from
counts_of_two p q first zero other = refl
counts_of_two p q first (suc n) other = omega (arith, one_of_two (p (first + n)) (q (first + n)) (other (first + n) (omega arith) (omega arith)), counts_of_two p q first n (λ k low top. other k low (omega (arith, top))))

-- where a run is open, each frame of it that isn't free has a page
pub open_occupied : (v : ZoneState) (first order : ℕ) → has_block v order first ≡ true → is_open v (2 ^ order) (first / 2 ^ order) ≡ true → count_from (is_free v) first (2 ^ order) + cost v (2 ^ order) (first / 2 ^ order) ≡ 2 ^ order
open_occupied v first order has is =
    let none = eqb-true _ 0 (sym (open_is v first order has) ∙ is) in
    let unheld = λ (k : ℕ) (low : first ≤ k) (top : k < first + 2 ^ order). (or_parts (is_held v k) _ (or_parts (is_marked v k) _ (none_counted (is_shut v) first (2 ^ order) k none low top)).1).0 in
    omega (arith, cost_is v first order has, counts_of_two (is_free v) (is_used v) first (2 ^ order) (λ k low top. unused (is_used v k) (is_held v k) (unheld k low top))) where
      unused : (used held : Bool) → held ≡ false → used ≡ not (not used && not held)
      unused true held is = refl
      unused false held is = sym (ap (λ b. not (not b)) is)

-- where the pageblock of a run is marked, the run is shut
pub marked_shut : (v : ZoneState) (first order : ℕ) → has_block v order first ≡ true → set.contains v.marked (first / 512) ≡ true → is_open v (2 ^ order) (first / 2 ^ order) ≡ false
marked_shut v first order has marked = open_is v first order has ∙ shut_closes v first (2 ^ order) first (omega arith) (omega (arith, pow_pos order)) (or_left _ _ marked)

-- as many frames of a run are free as the states say
pub free_counted : {W : ℕ} (z : Inside W) (v : ZoneState) → IsSound z v → (first order : ℕ) → has_block v order first ≡ true → count_from (free_at z.frames.states) first (2 ^ order) ≡ count_from (is_free v) first (2 ^ order)
free_counted z v sound first order has =
    count_from_same (free_at z.frames.states) (is_free v) first (2 ^ order) (λ k low top. free_seen z.frames.states v sound.frames k (omega (arith, top, block_within v first order has)))

-- the frames of a run are frames of the zone
pub run_fits : (size frames number : ℕ) → number < frames / size → size * number + size ≤ frames
run_fits size frames number h =
    let more = frames / size - (number + 1) in
    let all : size * (frames / size) ≤ frames = omega arith in
    let split : size * (frames / size) ≡ size * number + size + size * more = ap (λ (k : ℕ). size * k) (sum_is (frames / size) number h) ∙ spread size number more in
    omega (arith, all, split) where
      sum_is : (q number : ℕ) → number < q → q ≡ number + 1 + (q - (number + 1))
      sum_is q number h = omega (arith, h)

      spread : (size a b : ℕ) → size * (a + 1 + b) ≡ size * a + size + size * b
      spread size a b = omega arith

pub runs_counted : {W : ℕ} (z : Inside W) (v : ZoneState) → IsSound z v → (order run : ℕ) → run < run_count v (2 ^ order) → free_in_run (free_at z.frames.states) order run ≡ free_in_run (is_free v) order run
runs_counted z v sound order run within =
    count_from_same (free_at z.frames.states) (is_free v) (2 ^ order * run) (2 ^ order) (λ k low top. free_seen z.frames.states v sound.frames k (omega (arith, top, run_fits (2 ^ order) (frame_count v) run within)))

module _ {W : ℕ} (z : Inside W) (v : ZoneState) (sound : IsSound z v) (first order : ℕ) (has : has_block v order first ≡ true) (high : order ≤ 9) where
  module _ (unmarked : set.contains v.marked (first / 512) ≡ false) where
    unmarked_at : (frame : ℕ) → first ≤ frame → frame < first + 2 ^ order → is_marked v frame ≡ false
    unmarked_at frame low top = ap (set.contains v.marked) (run_block first order frame (and_parts (is_aligned order first) _ has).0 high low top) ∙ unmarked

    within_at : (frame : ℕ) → frame < first + 2 ^ order → frame < frame_count v
    within_at frame top = omega (arith, top, block_within v first order has)

    pub open_by : all_from (is_open_at z.frames) first (2 ^ order) ≡ is_open v (2 ^ order) (first / 2 ^ order)
    open_by = all_unless (is_open_at z.frames) (is_shut v) first (2 ^ order) (λ k low top. shut_is z v sound k (within_at k top) (unmarked_at k low top)) ∙ sym (open_is v first order has)

    pub cost_by : is_open v (2 ^ order) (first / 2 ^ order) ≡ true → count_from (holds_at z.frames.states) first (2 ^ order) ≡ cost v (2 ^ order) (first / 2 ^ order)
    cost_by is =
        let none = eqb-true _ 0 (sym (open_is v first order has) ∙ is) in
        count_from_same (holds_at z.frames.states) (is_used v) first (2 ^ order) (λ k low top.
        sym (used_is z v sound k (within_at k top) (unmarked_at k low top) (none_counted (is_shut v) first (2 ^ order) k none low top)))
        ∙ sym (cost_is v first order has)
