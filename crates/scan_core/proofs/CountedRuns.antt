-- How many blocks of an order pass, counted by their numbers.
use Rattle.std.proofs.Common.{◌≡◌, ◌≢◌, ℕ, zero, suc, ◌+◌, ◌*◌, ◌/◌, ◌^◌, ◌<◌, ◌≤◌, Bool, true, false, refl, sym, ap, ◌∙◌, arith}
use Rattle.std.specs.Prelude.{nat_eq, ◌&&◌}
use Rattle.std.proofs.lemmas.Bool.{eq-eqb, ne_eqb}
use Rattle.std.proofs.lemmas.Nat.{div-mul-add, pow_pos}
use Rattle.number_set.specs.Runs.{begins_run, count_in_run}
use Rattle.frame_core.specs.Below.{count_below, count_from, one_if}
use Rattle.frame_core.specs.Order.{is_aligned}
use Rattle.frame_core.proofs.Bounds.{count_from_short, count_past}
use Rattle.frame_core.proofs.Searches.{count_same}
use Rattle.scan_core.specs.FrameSet.{is_run_of}
use Rattle.scan_core.specs.NumberSet.{all_from}
use Rattle.scan_core.proofs.FrameSets.{count_split}
use Rattle.scan_core.proofs.OpenRuns.{counts_are}
use Rattle.scan_core.proofs.Orders.{by_order}

-- of the frames that pass, those that are a multiple of a size
module _ (r : ℕ → Bool) (size : ℕ) (some : 0 < size) where
  abbrev pub passes_aligned : ℕ → Bool
  passes_aligned frame = nat_eq (frame / size * size) frame && r frame

  between : (run k : ℕ) → 1 ≤ k → k < size → passes_aligned (run * size + k) ≡ false
  between run k low high =
      let here : (run * size + k) / size * size ≡ run * size = ap (λ (n : ℕ). n * size) (div-mul-add run size k high) in
      let away : (run * size + k) / size * size ≢ run * size + k = omega (arith, here, low) in
      ap (λ b. b && r (run * size + k)) (ne_eqb _ _ away)

  at_first : (run : ℕ) → passes_aligned (run * size + 0) ≡ r (run * size)
  at_first run =
      let here : (run * size + 0) / size * size ≡ run * size + 0 = ap (λ (n : ℕ). n * size) (div-mul-add run size 0 some) ∙ omega arith in
      let first : run * size + 0 ≡ run * size = omega arith in
      (λ i. eq-eqb _ _ here i && r (first i))

  one_here : (run : ℕ) → count_from passes_aligned (run * size) size ≡ one_if (r (run * size))
  unfolding count_from
  one_here run =
      count_past (λ k. passes_aligned (run * size + k)) 1 size (omega (arith, some)) (between run)
      ∙ ap (λ b. one_if b + 0) (at_first run) ∙ omega arith

  pub count_aligned : (n : ℕ) → count_below passes_aligned (n * size) ≡ count_below (λ run. r (run * size)) n
  count_aligned zero = let none : zero * size ≡ 0 = omega arith in ap (count_below passes_aligned) none
  count_aligned (suc n) =
      let same : suc n * size ≡ n * size + size = omega arith in
      omega (arith, ap (count_below passes_aligned) same, count_split passes_aligned (n * size) size, one_here n, count_aligned n)

-- the blocks of an order in whole pageblocks, as a set has them that numbers them together
module _ (blocks order : ℕ) (low : 3 ≤ order) (high : order ≤ 9) where
  abbrev runs : ℕ
  runs = 512 * blocks / 2 ^ order

  runs_fill : runs * 2 ^ order ≡ 512 * blocks
  runs_fill = by_order (λ o. 512 * blocks / 2 ^ o * 2 ^ o ≡ 512 * blocks)
      (omega arith) (omega arith) (omega arith) (omega arith) (omega arith) (omega arith) (omega arith) order low high

  pub few_numbers : runs + runs ≤ 128 * blocks
  few_numbers = by_order (λ o. 512 * blocks / 2 ^ o + 512 * blocks / 2 ^ o ≤ 128 * blocks)
      (omega arith) (omega arith) (omega arith) (omega arith) (omega arith) (omega arith) (omega arith) order low high

  pub numbers_counted : (p c : ℕ → Bool) → ((run : ℕ) → run < runs → c (runs + run) ≡ all_from p (run * 2 ^ order) (2 ^ order)) → count_in_run c runs runs ≡ count_below (is_run_of p order) (512 * blocks)
  unfolding count_from
  numbers_counted p c has =
      counts_are c runs runs ∙ count_same (λ k. c (runs + k)) (λ run. all_from p (run * 2 ^ order) (2 ^ order)) runs has
      ∙ sym (count_aligned (λ k. all_from p k (2 ^ order)) (2 ^ order) (pow_pos order) runs) ∙ ap (count_below (is_run_of p order)) runs_fill

-- the runs that begin in a set, where no frame from a bound on is a member
module _ (p : ℕ → Bool) (order bound : ℕ) (none : (k : ℕ) → bound ≤ k → p k ≡ false) where
  begins_is : (k : ℕ) → begins_run p order (0 + k) ≡ is_run_of p order k
  begins_is k =
      let place : 0 + k ≡ k = omega arith in
      ap (begins_run p order) place ∙ ap (λ n. is_aligned order k && nat_eq n (2 ^ order)) (counts_are p k (2 ^ order))

  none_past : (k : ℕ) → bound ≤ k → is_run_of p order k ≡ false
  none_past k past =
      let some : 0 < 2 ^ order = pow_pos order in
      let short = count_from_short p k (2 ^ order) k (omega arith) (omega (arith, some)) (none k past) in
      let fails : all_from p k (2 ^ order) ≡ false = ne_eqb _ _ (λ e. omega (arith, e, short)) in
      ap (λ b. is_aligned order k && b) fails ∙ and_false (is_aligned order k) where
        and_false : (b : Bool) → (b && false) ≡ false
        and_false true = refl
        and_false false = refl

  pub begun_counted : (room : ℕ) → bound ≤ room → count_in_run (begins_run p order) 0 room ≡ count_below (is_run_of p order) bound
  unfolding count_from
  begun_counted room most =
      counts_are (begins_run p order) 0 room ∙ count_same (λ k. begins_run p order (0 + k)) (is_run_of p order) room (λ k h. begins_is k)
      ∙ count_past (is_run_of p order) bound room most (λ k past h. none_past k past)
