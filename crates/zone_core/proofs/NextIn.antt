-- The lowest frame of several runs, found run by run.
use Rattle.std.proofs.Common.{◌≡◌, ℕ, ◌+◌, ◌<◌, ◌≤◌, Bool, true, ◌||◌, min, max, inl, inr, sym, subst, arith}
use Rattle.std.specs.Prelude.{Option, Some, None}
use Rattle.std.proofs.lemmas.Bool.{false_from_ne_true, or_from, or_left, or_right}
use Rattle.std.proofs.lemmas.Bool.Decides.{leb_tells}
use Rattle.fewest_core.specs.Evacuation.{is_in_run}
use Rattle.zone_core.specs.Reserving.{IsNext, IsNextIn, lower}
use Rattle.zone_core.proofs.Emptying.{in_run, run_bounds}

pub next_in_one : (first size from frame : ℕ) → from < first + size → frame ≡ max from first → 0 < size → IsNextIn (is_in_run first size) from frame
next_in_one first size from frame low at some = record {
  passes = in_run first size frame (omega (arith, at)) (omega (arith, at, low, some));
  least = omega (arith, at);
  between = λ k above below. false_from_ne_true _ (λ e. absurd (omega (arith, at, above, below, (run_bounds first size k e).0)));
}

pub none_in_one : (first size from : ℕ) → first + size ≤ from → IsNext (is_in_run first size) from None
none_in_one first size from high k above = false_from_ne_true _ (λ e. absurd (omega (arith, high, above, (run_bounds first size k e).1)))

module _ (p q : ℕ → Bool) (from : ℕ) where
  earlier : (one other : ℕ) → IsNextIn p from one → IsNextIn q from other → IsNextIn (λ k. p k || q k) from (min one other)
  earlier one other a b = elim (leb_tells one other) [
    | inl le ↦ (let at : min one other ≡ one = omega (arith, le.1) in record {
      passes = subst (λ (k : ℕ). (p k || q k) ≡ true) (sym at) (or_left (p one) (q one) a.passes);
      least = omega (arith, at, a.least);
      between = λ k low high. or_from (p k) (q k) (a.between k low (omega (arith, at, high))) (b.between k low (omega (arith, at, high, le.1)));
    })
    | inr gt ↦ (let at : min one other ≡ other = omega (arith, gt.1) in record {
      passes = subst (λ (k : ℕ). (p k || q k) ≡ true) (sym at) (or_right (p other) (q other) b.passes);
      least = omega (arith, at, b.least);
      between = λ k low high. or_from (p k) (q k) (a.between k low (omega (arith, at, high, gt.1))) (b.between k low (omega (arith, at, high)));
    })
  ]

  pub lower_is : (one other : Option ℕ) → IsNext p from one → IsNext q from other → IsNext (λ k. p k || q k) from (lower one other)
  lower_is None None a b = λ k low. or_from (p k) (q k) (a k low) (b k low)
  lower_is None (Some other) a b = record {
    passes = or_right (p other) (q other) b.passes;
    least = b.least;
    between = λ k low high. or_from (p k) (q k) (a k low) (b.between k low high);
  }
  lower_is (Some one) None a b = record {
    passes = or_left (p one) (q one) a.passes;
    least = a.least;
    between = λ k low high. or_from (p k) (q k) (a.between k low high) (b k low);
  }
  lower_is (Some one) (Some other) a b = earlier one other a b
