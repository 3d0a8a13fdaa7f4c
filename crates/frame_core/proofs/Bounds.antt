-- Laws of the lowest and highest numbers below a bound that pass, and of counts where some fail.
use Rattle.std.proofs.Common.{◌≡◌, ℕ, zero, suc, ◌+◌, ◌<◌, ◌≤◌, Bool, true, false, ◌⊎◌, inl, inr, refl, sym, ap, ◌∙◌, arith}
use Rattle.std.specs.Prelude.{Option, Some, None, nat_eq, ◌||◌, if◌then◌else◌}
use Rattle.std.specs.Option.{option_or}
use Rattle.std.proofs.lemmas.Bool.{eq-eqb, false_from_ne_true, ne_eqb}
use Rattle.std.proofs.lemmas.Bool.Decides.{leb_tells}
use Rattle.frame_core.specs.Below.{lowest, highest, one_if, count_below, sum_below, count_from, count_pairs}
pub use Rattle.frame_core.proofs.Searches.{count_most}
use Rattle.std.proofs.lemmas.Bool.{cond-true as taken, cond-false as skipped}
use Rattle.frame_core.proofs.Searches.{below_suc, count_none, count_from_more, count_from_most, sum_same}

-- the last number passes, or it doesn't and the rest is searched
by_last : (n k : ℕ) (o : Option ℕ) (b : Bool) → (if b then Some n else o) ≡ Some k → ((b ≡ true) × (n ≡ k)) ⊎ ((b ≡ false) × (o ≡ Some k))
by_last n k o true e = let same : n ≡ k = cc in inl (refl, same)
by_last n k o false e = inr (refl, e)

by_none : (n : ℕ) (o : Option ℕ) (b : Bool) → (if b then Some n else o) ≡ None → (b ≡ false) × (o ≡ None)
by_none n o true e = cc
by_none n o false e = (refl, e)

or_none : (o : Option ℕ) (b : Bool) (n : ℕ) → b ≡ false → option_or o (if b then Some n else None) ≡ o
or_none None b n e = skipped b (Some n) None e
or_none (Some x) b n e = refl

dropped : (b : Bool) (n : ℕ) → b ≡ false → one_if b + n ≡ n
dropped true n e = cc
dropped false n e = omega arith

module _ (p : ℕ → Bool) where
  pub highest_none : (n : ℕ) → ((k : ℕ) → k < n → p k ≡ false) → highest p n ≡ None
  highest_none zero fails = refl
  highest_none (suc n) fails = skipped (p n) (Some n) (highest p n) (fails n (omega arith)) ∙ highest_none n (λ k h. fails k (omega arith))

  pub highest_is : (n k : ℕ) → k < n → p k ≡ true → ((j : ℕ) → k < j → j < n → p j ≡ false) → highest p n ≡ Some k
  highest_is zero k h passes fails = absurd (omega arith)
  highest_is (suc n) k h passes fails =
      elim (below_suc k n h) [
        | inl under ↦ skipped (p n) (Some n) (highest p n) (fails n under (omega arith)) ∙ highest_is n k under passes (λ j l m. fails j l (omega arith))
        | inr at ↦ taken (p n) (Some n) (highest p n) (ap p (sym at) ∙ passes) ∙ ap Some (sym at)
      ]

  pub no_highest : (n k : ℕ) → highest p n ≡ None → k < n → p k ≡ false
  no_highest zero k none h = absurd (omega arith)
  no_highest (suc n) k none h =
      let parts = by_none n (highest p n) (p n) none in
      elim (below_suc k n h) [ inl under ↦ no_highest n k parts.1 under | inr at ↦ ap p at ∙ parts.0 ]

  pub highest_some : (n k : ℕ) → highest p n ≡ Some k → (k < n) × (p k ≡ true)
  highest_some zero k e = cc
  highest_some (suc n) k e =
      elim (by_last n k (highest p n) (p n) e) [
        | inl here ↦ (let same : n ≡ k = here.1 in (omega arith, ap p (sym same) ∙ here.0))
        | inr under ↦ (let found = highest_some n k under.1 in (omega (arith, found.0), found.1))
      ]

  -- no number above the highest one that passes passes
  pub highest_above : (n k q : ℕ) → highest p n ≡ Some k → k < q → q < n → p q ≡ false
  highest_above zero k q e h within = absurd (omega arith)
  highest_above (suc n) k q e h within =
      elim (by_last n k (highest p n) (p n) e) [
        | inl here ↦ (let same : n ≡ k = here.1 in absurd (omega arith))
        | inr under ↦ elim (below_suc q n within) [ inl low ↦ highest_above n k q under.1 h low | inr at ↦ ap p at ∙ under.0 ]
      ]

  -- numbers that don't pass add nothing
  pub count_past : (n m : ℕ) → n ≤ m → ((k : ℕ) → n ≤ k → k < m → p k ≡ false) → count_below p m ≡ count_below p n
  count_past n zero most fails = let same : zero ≡ n = omega arith in ap (count_below p) same
  count_past n (suc m) most fails = elim (leb_tells n m) [
    | inl under ↦ dropped (p m) (count_below p m) (fails m under.1 (omega arith)) ∙ count_past n m under.1 (λ k low h. fails k low (omega arith))
    | inr over ↦ let same : suc m ≡ n = omega (arith, over.1) in ap (count_below p) same
  ]

  pub lowest_past : (n m : ℕ) → n ≤ m → ((k : ℕ) → n ≤ k → k < m → p k ≡ false) → lowest p m ≡ lowest p n
  lowest_past n zero most fails = let same : zero ≡ n = omega arith in ap (lowest p) same
  lowest_past n (suc m) most fails = elim (leb_tells n m) [
    | inl under ↦ or_none (lowest p m) (p m) m (fails m under.1 (omega arith)) ∙ lowest_past n m under.1 (λ k low h. fails k low (omega arith))
    | inr over ↦ let same : suc m ≡ n = omega (arith, over.1) in ap (lowest p) same
  ]

  -- where one number doesn't pass, the count is smaller than the number of numbers
  pub count_from_short : (first n k : ℕ) → first ≤ k → k < first + n → p k ≡ false → count_from p first n < n
  count_from_short first n k low high fails =
      let more = count_from_more p (λ q. nat_eq q k || p q) first n k low high fails (ap (λ b. b || p k) (eq-eqb k k refl))
      (λ q ne. ap (λ b. b || p q) (ne_eqb q k ne)) in
      omega (arith, more, count_from_most (λ q. nat_eq q k || p q) first n)

-- terms that are 0 add nothing
sum_past : (f : ℕ → ℕ) (n m : ℕ) → n ≤ m → ((k : ℕ) → n ≤ k → f k ≡ 0) → sum_below f m ≡ sum_below f n
sum_past f n zero most none = let same : zero ≡ n = omega arith in ap (sum_below f) same
sum_past f n (suc m) most none = elim (leb_tells n m) [
  | inl under ↦ omega (arith, none m under.1, sum_past f n m under.1 none)
  | inr over ↦ let same : suc m ≡ n = omega (arith, over.1) in ap (sum_below f) same
]

-- where each pair that passes is in a smaller table, the pairs of this table are all that there are
pub pairs_within : (p : ℕ → ℕ → Bool) (m n rows places : ℕ) → m ≤ rows → n ≤ places → ((i j : ℕ) → p i j ≡ true → (i < m) × (j < n)) → count_pairs p rows places ≡ count_pairs p m n
unfolding count_pairs
pairs_within p m n rows places low short inside =
    sum_past (λ i. count_below (p i) places) m rows low (λ i above. count_none (p i) places (λ j h. false_from_ne_true (p i j) (λ e. absurd (omega (arith, above, (inside i j e).0)))))
    ∙ sum_same (λ i. count_below (p i) places) (λ i. count_below (p i) n) m (λ i h. count_past (p i) n places short (λ j above k. false_from_ne_true (p i j) (λ e. absurd (omega (arith, above, (inside i j e).1)))))
