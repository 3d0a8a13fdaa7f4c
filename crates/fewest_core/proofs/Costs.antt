-- The least that n of some runs cost together is the sum of the n least costs.
use Rattle.std.proofs.Common.{◌≡◌, ◌≢◌, ℕ, zero, suc, ◌+◌, ◌*◌, ◌<◌, ◌≤◌, Bool, true, false, cond, leb, eqb, List, [], ◌∷◌, length, take, sum, ◌⊎◌, inl, inr, refl, sym, ap, subst, ◌∙◌, arith}
use Rattle.std.proofs.lemmas.Bool.{cond-true, cond-false, eq-eqb, ne_eqb, both_ways}
use Rattle.std.proofs.lemmas.Bool.Decides.{eqb_tells, leb_tells}
use Rattle.std.proofs.lemmas.List.Sums.{sum_by-cons}
use Rattle.frame_core.proofs.Searches.{count_same}
use Rattle.frame_core.specs.Below.{one_if, count_below}
use Rattle.fewest_core.specs.FewestMoves.{inserted, costs_below, cost_below}

-- the sum of the first n numbers of a list
abbrev first : ℕ → List ℕ → ℕ
first zero xs = 0
first (suc n) [] = 0
first (suc n) (x ∷ xs) = x + first n xs

first_is : (n : ℕ) (xs : List ℕ) → sum (take n xs) ≡ first n xs
first_is zero xs = refl
first_is (suc n) [] = refl
first_is (suc n) (x ∷ xs) = omega (arith, sum_by-cons (λ y. y) x (take n xs), first_is n xs)

first_more : (n m : ℕ) (xs : List ℕ) → n ≤ m → first n xs ≤ first m xs
first_more zero m xs h = omega arith
first_more (suc n) zero xs h = absurd (omega arith)
first_more (suc n) (suc m) [] h = omega arith
first_more (suc n) (suc m) (x ∷ xs) h = omega (arith, first_more n m xs (omega arith))

by_le : {A : Type 0} (P : A → Type 0) (c x : ℕ) (a b : A) → (c ≤ x → P a) → (x < c → P b) → P (cond (leb c x) a b)
by_le P c x a b low high = elim (leb_tells c x) [
  | inl h ↦ subst P (sym (cond-true (leb c x) a b h.0)) (low h.1)
  | inr h ↦ subst P (sym (cond-false (leb c x) a b h.0)) (high h.1)
]

-- a list in order, from a number on
abbrev IsRising : ℕ → List ℕ → Type 0
IsRising low [] = Unit {0}
IsRising low (x ∷ xs) = (low ≤ x) × IsRising x xs

rising_inserted : (c low : ℕ) (xs : List ℕ) → IsRising low xs → low ≤ c → IsRising low (inserted c xs)
rising_inserted c low [] up h = (h, tt)
rising_inserted c low (x ∷ xs) up h = by_le (IsRising low) c x (c ∷ x ∷ xs) (x ∷ inserted c xs) (λ le. (h, (le, up.1))) (λ lt. (up.0, rising_inserted c x xs up.1 (omega arith)))

length_inserted : (c : ℕ) (xs : List ℕ) → length (inserted c xs) ≡ suc (length xs)
length_inserted c [] = refl
length_inserted c (x ∷ xs) = by_le (λ (ys : List ℕ). length ys ≡ suc (suc (length xs))) c x (c ∷ x ∷ xs) (x ∷ inserted c xs) (λ le. refl) (λ lt. ap suc (length_inserted c xs))

-- there are as many costs as runs that pass
one_counted : (passes : ℕ → Bool) (cost_at : ℕ → ℕ) (run : ℕ) (b : Bool) → length (costs_below passes cost_at run) ≡ count_below passes run → length (cond b (inserted (cost_at run) (costs_below passes cost_at run)) (costs_below passes cost_at run)) ≡ one_if b + count_below passes run
one_counted passes cost_at run true before = omega (arith, length_inserted (cost_at run) (costs_below passes cost_at run), before)
one_counted passes cost_at run false before = omega (arith, before)

pub costs_counted : (passes : ℕ → Bool) (cost_at : ℕ → ℕ) (runs : ℕ) → length (costs_below passes cost_at runs) ≡ count_below passes runs
costs_counted passes cost_at zero = refl
costs_counted passes cost_at (suc run) = one_counted passes cost_at run (passes run) (costs_counted passes cost_at run)

ahead : (c x m : ℕ) (xs : List ℕ) → IsRising x xs → c ≤ x → m ≤ length xs → c + first m (x ∷ xs) ≤ x + first m xs
ahead c x zero xs up h within = omega arith
ahead c x (suc m) [] up h within = absurd (omega arith)
ahead c x (suc m) (y ∷ ys) up h within = omega (arith, ahead c y m ys up.1 (omega (arith, up.0)) (omega arith))

-- one more number makes the sum of the least n no greater
first_kept : (c low n : ℕ) (xs : List ℕ) → IsRising low xs → n ≤ length xs → first n (inserted c xs) ≤ first n xs
first_kept c low zero xs up within = omega arith
first_kept c low (suc n) [] up within = absurd (omega arith)
first_kept c low (suc n) (x ∷ xs) up within = by_le (λ (ys : List ℕ). first (suc n) ys ≤ x + first n xs) c x (c ∷ x ∷ xs) (x ∷ inserted c xs) (λ le. ahead c x n xs up.1 le (omega arith)) (λ lt. omega (arith, first_kept c x n xs up.1 (omega arith)))

-- with one more number, the least n + 1 are no more than it and the least n
first_taken : (c n : ℕ) (xs : List ℕ) → first (suc n) (inserted c xs) ≤ c + first n xs
first_taken c n [] = omega arith
first_taken c zero (x ∷ xs) = by_le (λ (ys : List ℕ). first 1 ys ≤ c + 0) c x (c ∷ x ∷ xs) (x ∷ inserted c xs) (λ le. omega arith) (λ lt. omega arith)
first_taken c (suc n) (x ∷ xs) = by_le (λ (ys : List ℕ). first (suc (suc n)) ys ≤ c + (x + first n xs)) c x (c ∷ x ∷ xs) (x ∷ inserted c xs) (λ le. omega arith) (λ lt. omega (arith, first_taken c n xs))

-- Law B: no n open runs cost less together than the n least costs
module _ (passes : ℕ → Bool) (cost_at : ℕ → ℕ) where
  rise_next : (run : ℕ) (o : Bool) → IsRising 0 (costs_below passes cost_at run) → IsRising 0 (cond o (inserted (cost_at run) (costs_below passes cost_at run)) (costs_below passes cost_at run))
  rise_next run true rises = rising_inserted (cost_at run) 0 (costs_below passes cost_at run) rises (omega arith)
  rise_next run false rises = rises

  costs_rise : (runs : ℕ) → IsRising 0 (costs_below passes cost_at runs)
  costs_rise zero = tt
  costs_rise (suc run) = rise_next run (passes run) (costs_rise run)

  module _ (chosen : ℕ → Bool) (opened : (run : ℕ) → chosen run ≡ true → passes run ≡ true) where
    record IsUpto (runs : ℕ) : Type 0 where
      enough : count_below chosen runs ≤ length (costs_below passes cost_at runs)
      cheap : first (count_below chosen runs) (costs_below passes cost_at runs) ≤ cost_below chosen cost_at runs

    upto_next : (run : ℕ) → IsUpto run → (b o : Bool) → chosen run ≡ b → passes run ≡ o → IsUpto (suc run)
    upto_next run old true false is at = absurd (both_ways _ at (opened run is))
    upto_next run old true true is at =
        let c = cost_at run in
        let rest = costs_below passes cost_at run in
        let more : count_below chosen (suc run) ≡ suc (count_below chosen run) = omega (arith, ap one_if is) in
        let list : costs_below passes cost_at (suc run) ≡ inserted c rest = cond-true (passes run) (inserted c rest) rest at in
        let paid : cost_below chosen cost_at (suc run) ≡ c + cost_below chosen cost_at run = ap (λ (b : Bool). cond b c 0 + cost_below chosen cost_at run) is in
        let same : first (count_below chosen (suc run)) (costs_below passes cost_at (suc run)) ≡ first (suc (count_below chosen run)) (inserted c rest) = λ i. first (more i) (list i) in
        record {
          enough = omega (arith, more, ap length list, length_inserted c rest, old.enough);
          cheap = omega (arith, same, paid, first_taken c (count_below chosen run) rest, old.cheap);
        }
    upto_next run old false true is at =
        let c = cost_at run in
        let rest = costs_below passes cost_at run in
        let stay : count_below chosen (suc run) ≡ count_below chosen run = omega (arith, ap one_if is) in
        let list : costs_below passes cost_at (suc run) ≡ inserted c rest = cond-true (passes run) (inserted c rest) rest at in
        let paid : cost_below chosen cost_at (suc run) ≡ 0 + cost_below chosen cost_at run = ap (λ (b : Bool). cond b c 0 + cost_below chosen cost_at run) is in
        let same : first (count_below chosen (suc run)) (costs_below passes cost_at (suc run)) ≡ first (count_below chosen run) (inserted c rest) = λ i. first (stay i) (list i) in
        record {
          enough = omega (arith, stay, ap length list, length_inserted c rest, old.enough);
          cheap = omega (arith, same, paid, first_kept c 0 (count_below chosen run) rest (costs_rise run) old.enough, old.cheap);
        }
    upto_next run old false false is at =
        let c = cost_at run in
        let rest = costs_below passes cost_at run in
        let stay : count_below chosen (suc run) ≡ count_below chosen run = omega (arith, ap one_if is) in
        let list : costs_below passes cost_at (suc run) ≡ rest = cond-false (passes run) (inserted c rest) rest at in
        let paid : cost_below chosen cost_at (suc run) ≡ 0 + cost_below chosen cost_at run = ap (λ (b : Bool). cond b c 0 + cost_below chosen cost_at run) is in
        let same : first (count_below chosen (suc run)) (costs_below passes cost_at (suc run)) ≡ first (count_below chosen run) rest = λ i. first (stay i) (list i) in
        record {
          enough = omega (arith, stay, ap length list, old.enough);
          cheap = omega (arith, same, paid, old.cheap);
        }

    upto : (runs : ℕ) → IsUpto runs
    upto zero = record { enough = omega arith; cheap = omega arith }
    upto (suc run) = upto_next run (upto run) (chosen run) (passes run) refl refl

    pub enough_open : (runs : ℕ) → count_below chosen runs ≤ length (costs_below passes cost_at runs)
    enough_open runs = (upto runs).enough

    pub cheapest : (n runs : ℕ) → n ≤ count_below chosen runs → sum (take n (costs_below passes cost_at runs)) ≤ cost_below chosen cost_at runs
    cheapest n runs fewer = omega (arith, first_is n (costs_below passes cost_at runs), first_more n (count_below chosen runs) (costs_below passes cost_at runs) fewer, (upto runs).cheap)

-- some n open runs cost just the n least costs
IsSplit : ℕ → ℕ → List ℕ → Type 0
IsSplit c n xs = ((n ≤ length xs) × (first n (inserted c xs) ≡ first n xs)) ⊎ ((m : ℕ) × (n ≡ suc m) × (m ≤ length xs) × (first n (inserted c xs) ≡ c + first m xs))

split_low : (c x n : ℕ) (xs : List ℕ) → n ≤ suc (length xs) → leb c x ≡ true → IsSplit c (suc n) (x ∷ xs)
unfolding IsSplit
split_low c x n xs h at = inr (n, refl, h, ap (first (suc n)) (cond-true (leb c x) (c ∷ x ∷ xs) (x ∷ inserted c xs) at))

split_high : (c x n : ℕ) (xs : List ℕ) → leb c x ≡ false → IsSplit c n xs → IsSplit c (suc n) (x ∷ xs)
unfolding IsSplit
split_high c x n xs at (inl same) =
    let list = ap (first (suc n)) (cond-false (leb c x) (c ∷ x ∷ xs) (x ∷ inserted c xs) at) in
    inl (omega (arith, same.0), omega (arith, list, same.1))
split_high c x n xs at (inr taken) =
    let list = ap (first (suc n)) (cond-false (leb c x) (c ∷ x ∷ xs) (x ∷ inserted c xs) at) in
    inr (suc taken.0, ap suc taken.1, omega (arith, taken.2), omega (arith, list, taken.3))

split : (c n : ℕ) (xs : List ℕ) → n ≤ suc (length xs) → IsSplit c n xs
unfolding IsSplit
split c zero xs h = inl (omega arith, refl)
split c (suc zero) [] h = inr (0, refl, omega arith, refl)
split c (suc (suc n)) [] h = absurd (omega arith)
split c (suc n) (x ∷ xs) h = elim (leb_tells c x) [
  | inl low ↦ split_low c x n xs (omega arith) low.0
  | inr high ↦ split_high c x n xs high.0 (split c n xs (omega arith))
]

module _ (passes : ℕ → Bool) (cost_at : ℕ → ℕ) where
  pub cost_of_same : (p q : ℕ → Bool) (runs : ℕ) → ((k : ℕ) → k < runs → p k ≡ q k) → cost_below p cost_at runs ≡ cost_below q cost_at runs
  cost_of_same p q zero same = refl
  cost_of_same p q (suc run) same = omega (arith, ap (λ (b : Bool). cond b (cost_at run) 0) (same run (omega arith)), cost_of_same p q run (λ k h. same k (omega arith)))

  record Choice (n runs : ℕ) : Type 0 where
    pick : ℕ → Bool
    opened : (run : ℕ) → pick run ≡ true → (run < runs) × (passes run ≡ true)
    many : count_below pick runs ≡ n
    paid : cost_below pick cost_at runs ≡ first n (costs_below passes cost_at runs)

  with_run : ℕ → Bool → (ℕ → Bool) → ℕ → Bool
  with_run run b pick k = cond (eqb k run) b (pick k)

  with_other : (run : ℕ) (b : Bool) (pick : ℕ → Bool) (k : ℕ) → k < run → with_run run b pick k ≡ pick k
  unfolding with_run
  with_other run b pick k h = let ne : k ≢ run = omega arith in cond-false (eqb k run) b (pick k) (ne_eqb k run ne)

  with_it : (run : ℕ) (b : Bool) (pick : ℕ → Bool) → with_run run b pick run ≡ b
  unfolding with_run
  with_it run b pick = cond-true (eqb run run) b (pick run) (eq-eqb run run refl)

  with_open : (run : ℕ) (b : Bool) (pick : ℕ → Bool) → (b ≡ true → passes run ≡ true) → ((k : ℕ) → pick k ≡ true → (k < run) × (passes k ≡ true)) → (k : ℕ) → with_run run b pick k ≡ true → (k < suc run) × (passes k ≡ true)
  unfolding with_run
  with_open run b pick here others k is = elim (eqb_tells k run) [
    | inl at ↦ (omega (arith, at.1), ap passes at.1 ∙ here (sym (cond-true (eqb k run) b (pick k) at.0) ∙ is))
    | inr other ↦ (let old = others k (sym (cond-false (eqb k run) b (pick k) other.0) ∙ is) in (omega (arith, old.0), old.1))
  ]

  -- the choice, with one more run taken or left out
  widened : (n m run : ℕ) (b : Bool) (old : Choice m run) → (b ≡ true → passes run ≡ true) → n ≡ one_if b + m → first n (costs_below passes cost_at (suc run)) ≡ cond b (cost_at run) 0 + first m (costs_below passes cost_at run) → Choice n (suc run)
  widened n m run b old is_so many paid =
      let pick = with_run run b old.pick in
      record {
        pick = with_run run b old.pick;
        opened = with_open run b old.pick is_so old.opened;
        many = omega (arith, many, ap one_if (with_it run b old.pick), count_same pick old.pick run (with_other run b old.pick), old.many);
        paid = omega (arith, paid, ap (λ (t : Bool). cond t (cost_at run) 0) (with_it run b old.pick), cost_of_same pick old.pick run (with_other run b old.pick), old.paid);
      }

  chosen_next : (n run : ℕ) → ((m : ℕ) → m ≤ length (costs_below passes cost_at run) → Choice m run) → IsSplit (cost_at run) n (costs_below passes cost_at run) → passes run ≡ true → Choice n (suc run)
  unfolding IsSplit
  chosen_next n run old (inl same) is_so =
      let list = ap (first n) (cond-true (passes run) (inserted (cost_at run) (costs_below passes cost_at run)) (costs_below passes cost_at run) is_so) in
      widened n n run false (old n same.0) (λ e. is_so) (omega arith) (omega (arith, list, same.1))
  chosen_next n run old (inr taken) is_so =
      let list = ap (first n) (cond-true (passes run) (inserted (cost_at run) (costs_below passes cost_at run)) (costs_below passes cost_at run) is_so) in
      widened n taken.0 run true (old taken.0 taken.2) (λ e. is_so) (omega (arith, taken.1)) (omega (arith, list, taken.3))

  choose_next : (n run : ℕ) (o : Bool) → passes run ≡ o → ((m : ℕ) → m ≤ length (costs_below passes cost_at run) → Choice m run) → n ≤ length (costs_below passes cost_at (suc run)) → Choice n (suc run)
  choose_next n run true at old within =
      let list = ap length (cond-true (passes run) (inserted (cost_at run) (costs_below passes cost_at run)) (costs_below passes cost_at run) at) in
      chosen_next n run old (split (cost_at run) n (costs_below passes cost_at run) (omega (arith, list, length_inserted (cost_at run) (costs_below passes cost_at run), within))) at
  choose_next n run false at old within =
      let same = cond-false (passes run) (inserted (cost_at run) (costs_below passes cost_at run)) (costs_below passes cost_at run) at in
      widened n n run false (old n (omega (arith, ap length same, within))) (λ e. cc) (omega arith) (omega (arith, ap (first n) same))

  choose : (n runs : ℕ) → n ≤ length (costs_below passes cost_at runs) → Choice n runs
  choose n zero within = record { pick = λ run. false; opened = λ run e. cc; many = omega arith; paid = by_none n (omega arith) } where
    by_none : (m : ℕ) → m ≡ 0 → 0 ≡ first m []
    by_none zero e = refl
    by_none (suc m) e = absurd (omega arith)
  choose n (suc run) within = choose_next n run (passes run) refl (λ m. choose m run) within

pub choice_attains : (passes : ℕ → Bool) (cost_at : ℕ → ℕ) (runs n : ℕ) → n ≤ length (costs_below passes cost_at runs) → (chosen : ℕ → Bool) × ((run : ℕ) → chosen run ≡ true → (run < runs) × (passes run ≡ true)) × (count_below chosen runs ≡ n) × (cost_below chosen cost_at runs ≡ sum (take n (costs_below passes cost_at runs)))
choice_attains passes cost_at runs n within =
    let found = choose passes cost_at n runs within in
    (found.pick, found.opened, found.many, omega (arith, found.paid, first_is n (costs_below passes cost_at runs)))

-- runs that cost at most t, where the others cost at least t, cost no more than as many others
exchange_one : (a b : Bool) (c t : ℕ) → (a ≡ true → c ≤ t) → (a ≡ false → b ≡ true → t ≤ c) → cond a c 0 + t * one_if b ≤ cond b c 0 + t * one_if a
exchange_one true true c t low high = omega arith
exchange_one true false c t low high = omega (arith, low refl)
exchange_one false true c t low high = omega (arith, high refl refl)
exchange_one false false c t low high = omega arith

exchange : (cost_at : ℕ → ℕ) (p q : ℕ → Bool) (t runs : ℕ) → ((run : ℕ) → p run ≡ true → cost_at run ≤ t) → ((run : ℕ) → run < runs → p run ≡ false → q run ≡ true → t ≤ cost_at run) → cost_below p cost_at runs + t * count_below q runs ≤ cost_below q cost_at runs + t * count_below p runs
exchange cost_at p q t zero low high = omega arith
exchange cost_at p q t (suc run) low high = omega (
  arith,
  exchange_one (p run) (q run) (cost_at run) t (low run) (high run (omega arith)),
  exchange cost_at p q t run low (λ k h. high k (omega arith)),
)

pub picked_least : (passes : ℕ → Bool) (cost_at : ℕ → ℕ) (chosen : ℕ → Bool) (t runs : ℕ) → ((run : ℕ) → chosen run ≡ true → (passes run ≡ true) × (cost_at run ≤ t)) → ((run : ℕ) → run < runs → chosen run ≡ false → passes run ≡ true → t ≤ cost_at run) → cost_below chosen cost_at runs ≡ sum (take (count_below chosen runs) (costs_below passes cost_at runs))
picked_least passes cost_at chosen t runs low high =
    let opened = λ (run : ℕ) (is : chosen run ≡ true). (low run is).0 in
    let best = choice_attains passes cost_at runs (count_below chosen runs) (enough_open passes cost_at chosen opened runs) in
    let no_more = exchange cost_at chosen best.0 t runs (λ run is. (low run is).1) (λ run h out in_best. high run h out (best.1 run in_best).1) in
    let same : t * count_below best.0 runs ≡ t * count_below chosen runs = ap (λ (k : ℕ). t * k) best.2 in
    omega (arith, no_more, same, best.3, cheapest passes cost_at chosen opened (count_below chosen runs) runs (omega arith))
