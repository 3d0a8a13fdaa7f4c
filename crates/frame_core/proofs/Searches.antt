-- Laws of searches and counts below a bound.
use Rattle.std.proofs.Common.{◌≡◌, ◌≢◌, ℕ, zero, suc, ◌+◌, ◌-◌, ◌<◌, ◌≤◌, Bool, true, false, cond, ◌||◌, ◌⊎◌, inl, inr, refl, sym, ap, ◌∙◌, add-one, arith}
use Rattle.std.specs.Prelude.{Option, Some, None, if◌then◌else◌}
use Rattle.std.specs.Option.{option_or}
use Rattle.std.proofs.Math.Bool.{or_assoc, or_comm}
use Rattle.std.proofs.lemmas.Bool.{cases_Bool, or_parts, or_from, or_left, or_right, or_cases, cond-false}
use Rattle.std.proofs.lemmas.Bool.Decides.{leb_tells}
use Rattle.frame_core.specs.Below.{lowest, one_if, count_below, sum_below, some_below, count_from, count_pairs}

or_none : {A : Type 0} (o r : Option A) → o ≡ None → r ≡ None → option_or o r ≡ None
or_none None r e h = h
or_none (Some x) r e h = cc

or_some : {A : Type 0} (o r : Option A) (x : A) → o ≡ Some x → option_or o r ≡ Some x
or_some None r x e = cc
or_some (Some y) r x e = e

or_next : {A : Type 0} (o r : Option A) (x : A) → o ≡ None → r ≡ Some x → option_or o r ≡ Some x
or_next None r x e h = h
or_next (Some y) r x e h = cc

none_left : {A : Type 0} (o r : Option A) → option_or o r ≡ None → o ≡ None
none_left None r e = refl
none_left (Some x) r e = e

none_right : {A : Type 0} (o r : Option A) → option_or o r ≡ None → r ≡ None
none_right None r e = e
none_right (Some x) r e = cc

-- a number below suc n is below n, or is n
pub below_suc : (k n : ℕ) → k < suc n → (k < n) ⊎ (k ≡ n)
below_suc k n h = elim (leb_tells n k) [ inl at ↦ let same : k ≡ n = omega (arith, at.1) in inr same | inr under ↦ inl under.1 ]

test_none : (b : Bool) (n : ℕ) → cond b (Some n) None ≡ None → b ≡ false
test_none true n e = cc
test_none false n e = refl

lowest_next : (p : ℕ → Bool) (n k : ℕ) (o : Option ℕ) (b : Bool) → p n ≡ b → (o ≡ Some k → (k < n) × (p k ≡ true)) → option_or o (if b then Some n else None) ≡ Some k → (k < suc n) × (p k ≡ true)
lowest_next p n k (Some j) b at under e = let found = under e in (omega (arith, found.0), found.1)
lowest_next p n k None true at under e = let same : n ≡ k = cc in (omega arith, ap p (sym same) ∙ at)
lowest_next p n k None false at under e = cc

before_next : (p : ℕ → Bool) (n k q : ℕ) (o : Option ℕ) (b : Bool) → option_or o (if b then Some n else None) ≡ Some k → q < k → (o ≡ Some k → p q ≡ false) → (o ≡ None → q < n → p q ≡ false) → p q ≡ false
before_next p n k q (Some j) b e h here below = here e
before_next p n k q None true e h here below = let same : n ≡ k = cc in below refl (omega arith)
before_next p n k q None false e h here below = cc

one_most : (b : Bool) → one_if b ≤ 1
one_most true = omega arith
one_most false = omega arith

module _ (p : ℕ → Bool) where
  pub lowest_none : (n : ℕ) → ((k : ℕ) → k < n → p k ≡ false) → lowest p n ≡ None
  lowest_none zero fails = refl
  lowest_none (suc n) fails = or_none (lowest p n) _ (lowest_none n (λ k h. fails k (omega arith))) (cond-false (p n) (Some n) None (fails n (omega arith)))

  pub lowest_is : (n k : ℕ) → k < n → p k ≡ true → ((j : ℕ) → j < k → p j ≡ false) → lowest p n ≡ Some k
  lowest_is zero k h passes fails = absurd (omega arith)
  lowest_is (suc n) k h passes fails =
      elim (below_suc k n h) [
        | inl under ↦ or_some (lowest p n) _ k (lowest_is n k under passes fails)
        | inr at ↦ let before : lowest p n ≡ None = lowest_none n (λ j l. fails j (omega arith)) in or_next (lowest p n) _ k before (ap (λ b. cond b (Some n) None) (ap p (sym at) ∙ passes) ∙ ap Some (sym at))
      ]

  pub no_lowest : (n k : ℕ) → lowest p n ≡ None → k < n → p k ≡ false
  no_lowest zero k none h = absurd (omega arith)
  no_lowest (suc n) k none h =
      elim (below_suc k n h) [
        | inl under ↦ no_lowest n k (none_left (lowest p n) _ none) under
        | inr at ↦ ap p at ∙ test_none (p n) n (none_right (lowest p n) _ none)
      ]

  pub lowest_some : (n k : ℕ) → lowest p n ≡ Some k → (k < n) × (p k ≡ true)
  lowest_some zero k e = cc
  lowest_some (suc n) k e = lowest_next p n k (lowest p n) (p n) refl (λ at. lowest_some n k at) e

  -- no number below the lowest one that passes passes
  pub lowest_before : (n k q : ℕ) → lowest p n ≡ Some k → q < k → p q ≡ false
  lowest_before zero k q e h = cc
  lowest_before (suc n) k q e h = before_next p n k q (lowest p n) (p n) e h (λ at. lowest_before n k q at h) (λ at l. no_lowest n q at l)

  pub some_at : (n k : ℕ) → k < n → p k ≡ true → some_below p n ≡ true
  some_at zero k h passes = absurd (omega arith)
  some_at (suc n) k h passes =
      elim (below_suc k n h) [
        | inl under ↦ or_right (p n) _ (some_at n k under passes)
        | inr at ↦ or_left (p n) _ (ap p (sym at) ∙ passes)
      ]

  pub count_next : (n : ℕ) → count_below p (n + 1) ≡ one_if (p n) + count_below p n
  count_next n = rw add-one refl

  pub count_up : (n : ℕ) → p n ≡ true → count_below p (n + 1) ≡ count_below p n + 1
  count_up n passes = let one : one_if (p n) ≡ 1 = ap one_if passes in omega (arith, count_next n)

  pub count_stay : (n : ℕ) → p n ≡ false → count_below p (n + 1) ≡ count_below p n
  count_stay n fails = let none : one_if (p n) ≡ 0 = ap one_if fails in omega (arith, count_next n)

  pub count_some : (n k : ℕ) → k < n → p k ≡ true → 0 < count_below p n
  count_some zero k h passes = absurd (omega arith)
  count_some (suc n) k h passes =
      elim (below_suc k n h) [
        | inl under ↦ omega (arith, count_some n k under passes)
        | inr at ↦ let one : one_if (p n) ≡ 1 = ap one_if (ap p (sym at) ∙ passes) in omega arith
      ]

  pub count_all : (n : ℕ) → ((k : ℕ) → k < n → p k ≡ true) → count_below p n ≡ n
  count_all zero passes = refl
  count_all (suc n) passes = let one : one_if (p n) ≡ 1 = ap one_if (passes n (omega arith)) in omega (arith, count_all n (λ k h. passes k (omega arith)))

  pub some_none : (n : ℕ) → some_below p n ≡ false → (k : ℕ) → k < n → p k ≡ false
  some_none zero fails k h = absurd (omega arith)
  some_none (suc n) fails k h = elim (below_suc k n h) [ inl under ↦ some_none n (or_parts _ _ fails).1 k under | inr at ↦ ap p at ∙ (or_parts _ _ fails).0 ]

  pub some_one : (n : ℕ) → some_below p n ≡ true → (k : ℕ) × (k < n) × (p k ≡ true)
  some_one zero passes = cc
  some_one (suc n) passes =
      elim (or_cases (p n) _ passes) [
        | inl here ↦ (n, omega arith, here)
        | inr under ↦ let w = some_one n under in (w.0, omega (arith, w.1), w.2)
      ]

  pub none_some : (n : ℕ) → ((k : ℕ) → k < n → p k ≡ false) → some_below p n ≡ false
  none_some zero fails = refl
  none_some (suc n) fails = or_from _ _ (fails n (omega arith)) (none_some n (λ k h. fails k (omega arith)))

  pub count_most : (n : ℕ) → count_below p n ≤ n
  count_most zero = omega arith
  count_most (suc n) = omega (arith, one_most (p n), count_most n)

  -- where the count of the numbers that pass is n, each number below n passes
  pub count_full : (n k : ℕ) → count_below p n ≡ n → k < n → p k ≡ true
  count_full zero k full h = absurd (omega arith)
  count_full (suc n) k full h =
      let rest = count_most n in
      elim (cases_Bool (p n)) [
        | inl passes ↦ (let one : one_if (p n) ≡ 1 = ap one_if passes in elim (below_suc k n h) [ inl under ↦ count_full n k (omega arith) under | inr at ↦ ap p at ∙ passes ])
        | inr fails ↦ (let none : one_if (p n) ≡ 0 = ap one_if fails in absurd (omega arith))
      ]

  pub count_none : (n : ℕ) → ((k : ℕ) → k < n → p k ≡ false) → count_below p n ≡ 0
  count_none zero fails = refl
  count_none (suc n) fails = let none : one_if (p n) ≡ 0 = ap one_if (fails n (omega arith)) in omega (arith, count_none n (λ k h. fails k (omega arith)))

module _ (p r : ℕ → Bool) where
  pub lowest_same : (n : ℕ) → ((k : ℕ) → k < n → p k ≡ r k) → lowest p n ≡ lowest r n
  lowest_same zero same = refl
  lowest_same (suc n) same = λ i. option_or (lowest_same n (λ k h. same k (omega arith)) i) (cond (same n (omega arith) i) (Some n) None)

  pub some_same : (n : ℕ) → ((k : ℕ) → k < n → p k ≡ r k) → some_below r n ≡ some_below p n
  some_same zero same = refl
  some_same (suc n) same = λ i. sym (same n (omega arith)) i || some_same n (λ k h. same k (omega arith)) i

  pub count_same : (n : ℕ) → ((k : ℕ) → k < n → p k ≡ r k) → count_below p n ≡ count_below r n
  count_same zero same = refl
  count_same (suc n) same = λ i. one_if (same n (omega arith) i) + count_same n (λ k h. same k (omega arith)) i

  pub count_more : (n k : ℕ) → k < n → p k ≡ false → r k ≡ true → ((q : ℕ) → q ≢ k → r q ≡ p q) → count_below r n ≡ count_below p n + 1
  count_more zero k h fails passes others = absurd (omega arith)
  count_more (suc n) k h fails passes others =
      elim (below_suc k n h) [
        | inl under ↦ let ne : n ≢ k = omega arith in let same : one_if (r n) ≡ one_if (p n) = ap one_if (others n ne) in omega (arith, count_more n k under fails passes others)
        | inr at ↦
            let one : one_if (r n) ≡ 1 = ap one_if (ap r (sym at) ∙ passes) in
            let none : one_if (p n) ≡ 0 = ap one_if (ap p (sym at) ∙ fails) in
            let rest : count_below p n ≡ count_below r n = count_same n (λ q l. let ne : q ≢ k = omega arith in sym (others q ne)) in
            omega arith
      ]

  -- the numbers first to first + m - 1 fail p and pass r, and p and r agree on each other number below n
  abbrev pub IsRun : ℕ → ℕ → ℕ → Type 0
  IsRun n first m = ((k : ℕ) → first ≤ k → k < first + m → p k ≡ false) × ((k : ℕ) → first ≤ k → k < first + m → r k ≡ true) × ((k : ℕ) → k < n → (k < first) ⊎ (first + m ≤ k) → r k ≡ p k)

  run_below : (n first m : ℕ) → IsRun (suc n) first m → IsRun n first m
  run_below n first m run = (run.0, run.1, λ k h away. run.2 k (omega arith) away)

  run_to : (n first m : ℕ) → first + suc m ≡ suc n → IsRun (suc n) first (suc m) → IsRun n first m
  run_to n first m at run = (λ k low high. run.0 k low (omega arith), λ k low high. run.1 k low (omega arith), λ k h away. elim away [ inl under ↦ run.2 k (omega arith) (inl under) | inr above ↦ absurd (omega arith) ])

  pub count_run : (n first m : ℕ) → first + m ≤ n → IsRun n first m → count_below r n ≡ count_below p n + m
  count_run zero first m h run = omega arith
  count_run (suc n) first m h run = elim (leb_tells (first + m) n) [
    | inl under ↦
        (let same : one_if (r n) ≡ one_if (p n) = ap one_if (run.2 n (omega arith) (inr under.1)) in
        omega (arith, count_run n first m under.1 (run_below n first m run)))
    | inr at ↦ by_length m (omega (arith, at.1)) run (λ k. count_run n first k)
  ] where
    by_length : (m : ℕ) → first + m ≡ suc n → IsRun (suc n) first m → ((k : ℕ) → first + k ≤ n → IsRun n first k → count_below r n ≡ count_below p n + k) → count_below r (suc n) ≡ count_below p (suc n) + m
    by_length zero at run rest = omega (arith, count_same (suc n) (λ k l. sym (run.2 k l (inl (omega arith)))))
    by_length (suc m) at run rest =
        let one : one_if (r n) ≡ 1 = ap one_if (run.1 n (omega arith) (omega arith)) in
        let none : one_if (p n) ≡ 0 = ap one_if (run.0 n (omega arith) (omega arith)) in
        omega (arith, rest m (omega arith) (run_to n first m at run))

  -- whether some number passes stays the same where one more number may pass
  pub some_more : (n k : ℕ) → k < n → p k ≡ false → ((q : ℕ) → q ≢ k → r q ≡ p q) → some_below r n ≡ (some_below p n || r k)
  some_more zero k h fails others = absurd (omega arith)
  some_more (suc n) k h fails others =
      elim (below_suc k n h) [
        | inl under ↦ (let ne : n ≢ k = omega arith in (λ i. others n ne i || some_more n k under fails others i) ∙ sym (or_assoc (p n) (some_below p n) (r k)))
        | inr at ↦
            (let same : some_below r n ≡ some_below p n = some_same n (λ q l. let ne : q ≢ k = omega arith in sym (others q ne)) in
            let none : p n ≡ false = ap p (sym at) ∙ fails in
            (λ i. r (sym at i) || same i) ∙ or_comm (r k) (some_below p n) ∙ sym (λ i. (none i || some_below p n) || r k))
      ]

module _ (f g : ℕ → ℕ) where
  pub sum_same : (n : ℕ) → ((k : ℕ) → k < n → f k ≡ g k) → sum_below f n ≡ sum_below g n
  sum_same zero same = refl
  sum_same (suc n) same = λ i. same n (omega arith) i + sum_same n (λ k h. same k (omega arith)) i

  -- a sum is one more where one of its terms is one more
  pub sum_more : (n k : ℕ) → k < n → g k ≡ f k + 1 → ((q : ℕ) → q ≢ k → f q ≡ g q) → sum_below g n ≡ sum_below f n + 1
  sum_more zero k h more others = absurd (omega arith)
  sum_more (suc n) k h more others =
      elim (below_suc k n h) [
        | inl under ↦ let ne : n ≢ k = omega arith in let same : f n ≡ g n = others n ne in omega (arith, sum_more n k under more others)
        | inr at ↦
            let here : g n ≡ f n + 1 = ap g (sym at) ∙ more ∙ ap (λ (m : ℕ). f m + 1) at in
            let rest : sum_below f n ≡ sum_below g n = sum_same n (λ q l. let ne : q ≢ k = omega arith in others q ne) in
            omega arith
      ]

sum_some : (f : ℕ → ℕ) (n k : ℕ) → k < n → 0 < f k → 0 < sum_below f n
sum_some f zero k h some = absurd (omega arith)
sum_some f (suc n) k h some =
    elim (below_suc k n h) [
      | inl under ↦ omega (arith, sum_some f n k under some)
      | inr at ↦ let here : f k ≡ f n = ap f at in omega arith
    ]

pub sum_none : (f : ℕ → ℕ) (n : ℕ) → ((k : ℕ) → k < n → f k ≡ 0) → sum_below f n ≡ 0
sum_none f zero none = refl
sum_none f (suc n) none = omega (arith, none n (omega arith), sum_none f n (λ k h. none k (omega arith)))

pub count_from_most : (p : ℕ → Bool) (first n : ℕ) → count_from p first n ≤ n
unfolding count_from
count_from_most p first n = count_most (λ k. p (first + k)) n

pub count_from_full : (p : ℕ → Bool) (first n k : ℕ) → count_from p first n ≡ n → first ≤ k → k < first + n → p k ≡ true
unfolding count_from
count_from_full p first n k full low high =
    let at : first + (k - first) ≡ k = omega arith in
    ap p (sym at) ∙ count_full (λ i. p (first + i)) n (k - first) full (omega arith)

pub count_from_all : (p : ℕ → Bool) (first n : ℕ) → ((k : ℕ) → first ≤ k → k < first + n → p k ≡ true) → count_from p first n ≡ n
unfolding count_from
count_from_all p first n all = count_all (λ k. p (first + k)) n (λ k h. all (first + k) (omega arith) (omega arith))

pub count_from_same : (p r : ℕ → Bool) (first n : ℕ) → ((k : ℕ) → first ≤ k → k < first + n → p k ≡ r k) → count_from p first n ≡ count_from r first n
unfolding count_from
count_from_same p r first n same = count_same (λ k. p (first + k)) (λ k. r (first + k)) n (λ k h. same (first + k) (omega arith) (omega arith))

pub count_from_more : (p r : ℕ → Bool) (first n k : ℕ) → first ≤ k → k < first + n → p k ≡ false → r k ≡ true → ((q : ℕ) → q ≢ k → r q ≡ p q) → count_from r first n ≡ count_from p first n + 1
unfolding count_from
count_from_more p r first n k low high fails passes others =
    let at : first + (k - first) ≡ k = omega arith in
    count_more (λ i. p (first + i)) (λ i. r (first + i)) n (k - first) (omega arith) (ap p at ∙ fails) (ap r at ∙ passes)
    (λ q ne. let away : first + q ≢ k = omega arith in others (first + q) away)

module _ (p r : ℕ → ℕ → Bool) where
  pub pairs_same : (m n : ℕ) → ((i j : ℕ) → p i j ≡ r i j) → count_pairs p m n ≡ count_pairs r m n
  unfolding count_pairs
  pairs_same m n same = sum_same _ _ m (λ i h. count_same (p i) (r i) n (λ j l. same i j))

  pub pairs_same_below : (m n : ℕ) → ((i j : ℕ) → i < m → j < n → p i j ≡ r i j) → count_pairs p m n ≡ count_pairs r m n
  unfolding count_pairs
  pairs_same_below m n same = sum_same _ _ m (λ i h. count_same (p i) (r i) n (λ j l. same i j h l))

  -- a count of pairs is one more where one more pair passes
  pub pairs_more : (m n i j : ℕ) → i < m → j < n → p i j ≡ false → r i j ≡ true → ((k l : ℕ) → (k ≢ i) ⊎ (l ≢ j) → r k l ≡ p k l) → count_pairs r m n ≡ count_pairs p m n + 1
  unfolding count_pairs
  pairs_more m n i j h l fails passes others =
      sum_more (λ k. count_below (p k) n) (λ k. count_below (r k) n) m i h
      (count_more (p i) (r i) n j l fails passes (λ q ne. others i q (inr ne)))
      (λ q ne. count_same (p q) (r q) n (λ k b. sym (others q k (inl ne))))

pub pairs_none : (p : ℕ → ℕ → Bool) (m n : ℕ) → ((i j : ℕ) → p i j ≡ false) → count_pairs p m n ≡ 0
unfolding count_pairs
pairs_none p m n fails = sum_none _ m (λ i h. count_none (p i) n (λ j l. fails i j))

pub pairs_some : (p : ℕ → ℕ → Bool) (m n i j : ℕ) → i < m → j < n → p i j ≡ true → 0 < count_pairs p m n
unfolding count_pairs
pairs_some p m n i j h l passes = sum_some (λ k. count_below (p k) n) m i h (count_some (p i) n j l passes)
