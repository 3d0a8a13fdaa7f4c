-- The blocks of each order.
use Rattle.std.proofs.Common.{◌≡◌, ℕ, zero, suc, ◌+◌, ◌*◌, ◌/◌, ◌%◌, ◌^◌, ◌<◌, ◌≤◌, true, arith}
use Rattle.std.proofs.lemmas.Bool.{eqb-true, eq-eqb}
use Rattle.frame_core.specs.Order.{is_aligned}

-- what holds at each of the seven orders holds at every order
pub by_order : (P : ℕ → Type 0) → P 3 → P 4 → P 5 → P 6 → P 7 → P 8 → P 9 → (order : ℕ) → 3 ≤ order → order ≤ 9 → P order
by_order P p3 p4 p5 p6 p7 p8 p9 (suc (suc (suc zero))) h l = p3
by_order P p3 p4 p5 p6 p7 p8 p9 (suc (suc (suc (suc zero)))) h l = p4
by_order P p3 p4 p5 p6 p7 p8 p9 (suc (suc (suc (suc (suc zero))))) h l = p5
by_order P p3 p4 p5 p6 p7 p8 p9 (suc (suc (suc (suc (suc (suc zero)))))) h l = p6
by_order P p3 p4 p5 p6 p7 p8 p9 (suc (suc (suc (suc (suc (suc (suc zero))))))) h l = p7
by_order P p3 p4 p5 p6 p7 p8 p9 (suc (suc (suc (suc (suc (suc (suc (suc zero)))))))) h l = p8
by_order P p3 p4 p5 p6 p7 p8 p9 (suc (suc (suc (suc (suc (suc (suc (suc (suc zero))))))))) h l = p9
by_order P p3 p4 p5 p6 p7 p8 p9 _ h l = absurd (omega arith)

module _ (order : ℕ) (low : 3 ≤ order) (high : order ≤ 9) where
  pub some_frames : 0 < 2 ^ order
  some_frames = by_order (λ o. 0 < 2 ^ o) (omega arith) (omega arith) (omega arith) (omega arith) (omega arith) (omega arith) (omega arith) order low high

  -- a block is in one pageblock
  pub one_block : (first : ℕ) → is_aligned order first ≡ true → first % 512 + 2 ^ order ≤ 512
  one_block first aligned =
      by_order (λ o. first / 2 ^ o * 2 ^ o ≡ first → first % 512 + 2 ^ o ≤ 512)
      (λ e. omega (arith, e)) (λ e. omega (arith, e)) (λ e. omega (arith, e)) (λ e. omega (arith, e)) (λ e. omega (arith, e)) (λ e. omega (arith, e)) (λ e. omega (arith, e))
      order low high (eqb-true (first / 2 ^ order * 2 ^ order) first aligned)

  -- a block begins at a multiple of its frames
  pub no_rest : (first : ℕ) → is_aligned order first ≡ true → first % 2 ^ order ≡ 0
  no_rest first aligned =
      by_order (λ o. first / 2 ^ o * 2 ^ o ≡ first → first % 2 ^ o ≡ 0)
      (λ e. omega (arith, e)) (λ e. omega (arith, e)) (λ e. omega (arith, e)) (λ e. omega (arith, e)) (λ e. omega (arith, e)) (λ e. omega (arith, e)) (λ e. omega (arith, e))
      order low high (eqb-true (first / 2 ^ order * 2 ^ order) first aligned)

  -- in whole pageblocks, each multiple is the first frame of a block
  pub run_within : (blocks run : ℕ) → run < 512 * blocks / 2 ^ order → run * 2 ^ order + 2 ^ order ≤ 512 * blocks
  run_within blocks run = by_order (λ o. run < 512 * blocks / 2 ^ o → run * 2 ^ o + 2 ^ o ≤ 512 * blocks)
      (λ e. omega (arith, e)) (λ e. omega (arith, e)) (λ e. omega (arith, e)) (λ e. omega (arith, e)) (λ e. omega (arith, e)) (λ e. omega (arith, e)) (λ e. omega (arith, e)) order low high

  run_is : (run k : ℕ) → run * 2 ^ order ≤ k → k < (run + 1) * 2 ^ order → k / 2 ^ order * 2 ^ order ≡ run * 2 ^ order
  run_is run k = by_order (λ o. run * 2 ^ o ≤ k → k < (run + 1) * 2 ^ o → k / 2 ^ o * 2 ^ o ≡ run * 2 ^ o)
      (λ e f. omega (arith, e, f)) (λ e f. omega (arith, e, f)) (λ e f. omega (arith, e, f)) (λ e f. omega (arith, e, f)) (λ e f. omega (arith, e, f)) (λ e f. omega (arith, e, f)) (λ e f. omega (arith, e, f)) order low high

  pub run_aligned : (run : ℕ) → is_aligned order (run * 2 ^ order) ≡ true
  run_aligned run = eq-eqb (run * 2 ^ order / 2 ^ order * 2 ^ order) (run * 2 ^ order) (run_is run (run * 2 ^ order) (omega arith) (omega (arith, some_frames)))

  -- a block that begins between two multiples of its frames begins at the lower one
  pub first_of_run : (run k : ℕ) → run * 2 ^ order ≤ k → k < (run + 1) * 2 ^ order → is_aligned order k ≡ true → k ≡ run * 2 ^ order
  first_of_run run k from to aligned = omega (arith, run_is run k from to, eqb-true (k / 2 ^ order * 2 ^ order) k aligned)

  pub runs_end : (blocks run : ℕ) → 512 * blocks / 2 ^ order ≤ run → 512 * blocks ≤ run * 2 ^ order
  runs_end blocks run = by_order (λ o. 512 * blocks / 2 ^ o ≤ run → 512 * blocks ≤ run * 2 ^ o)
      (λ e. omega (arith, e)) (λ e. omega (arith, e)) (λ e. omega (arith, e)) (λ e. omega (arith, e)) (λ e. omega (arith, e)) (λ e. omega (arith, e)) (λ e. omega (arith, e)) order low high

  -- the block that has a frame
  pub run_of : (run k : ℕ) → k < run * 2 ^ order → (k / 2 ^ order < run) × (k / 2 ^ order * 2 ^ order ≤ k) × (k < (k / 2 ^ order + 1) * 2 ^ order)
  run_of run k = by_order (λ o. k < run * 2 ^ o → (k / 2 ^ o < run) × (k / 2 ^ o * 2 ^ o ≤ k) × (k < (k / 2 ^ o + 1) * 2 ^ o))
      (λ e. (omega (arith, e), omega arith, omega arith)) (λ e. (omega (arith, e), omega arith, omega arith)) (λ e. (omega (arith, e), omega arith, omega arith)) (λ e. (omega (arith, e), omega arith, omega arith))
      (λ e. (omega (arith, e), omega arith, omega arith)) (λ e. (omega (arith, e), omega arith, omega arith)) (λ e. (omega (arith, e), omega arith, omega arith)) order low high
