-- How many aligned runs have only numbers that pass.
use Rattle.std.proofs.Common.{◌≡◌, ◌≢◌, ℕ, zero, suc, ◌+◌, ◌-◌, ◌*◌, ◌/◌, ◌<◌, ◌≤◌, Bool, true, false, ◌⊎◌, inl, inr, refl, sym, ap, subst, ◌∙◌, arith}
use Rattle.std.specs.Prelude.{nat_eq, ◌&&◌, ◌↔◌}
use Rattle.std.proofs.lemmas.Bool.{eq-eqb, ne_eqb, both_ways}
use Rattle.std.proofs.lemmas.Bool.Decides.{eqb_tells, leb_tells}
use Rattle.std.proofs.Math.Nat.{mul-le-mul_left}
use Rattle.std.proofs.lemmas.Nat.{div-mul-add}
use Rattle.frame_core.proofs.Searches.{count_none, count_from_all}
use Rattle.frame_core.specs.Below.{one_if, count_below, count_from}
use Rattle.state_core.specs.Packed.{whole_runs}

pub count_split : (p : ℕ → Bool) (first n : ℕ) → count_below p (first + n) ≡ count_below p first + count_from p first n
unfolding count_from
count_split p first zero = let same : first + 0 ≡ first = omega arith in ap (count_below p) same ∙ omega arith
count_split p first (suc n) =
    let same : first + suc n ≡ suc (first + n) = omega arith in
    let next : count_below p (first + suc n) ≡ one_if (p (first + n)) + count_below p (first + n) = ap (count_below p) same in
    omega (arith, next, count_split p first n)

pub count_from_none : (p : ℕ → Bool) (first n : ℕ) → ((k : ℕ) → k < n → p (first + k) ≡ false) → count_from p first n ≡ 0
unfolding count_from
count_from_none p first n none = count_none (λ k. p (first + k)) n none

module _ (p : ℕ → Bool) (size : ℕ) where
  abbrev pub is_run : ℕ → Bool
  is_run i = nat_eq (count_from p (size * i) size) size

  pub one_more_run : (i : ℕ) → count_below p (size * suc i) ≡ count_below p (size * i) + count_from p (size * i) size
  one_more_run i =
      let same : size * suc i ≡ size * i + size = omega arith in
      ap (count_below p) same ∙ count_split p (size * i) size

  pub run_whole : (i : ℕ) → count_from p (size * i) size ≡ size → whole_runs p size (suc i) ≡ whole_runs p size i + 1
  run_whole i all = omega (arith, ap one_if (eq-eqb _ size all))

  pub run_broken : (i : ℕ) → count_from p (size * i) size ≢ size → whole_runs p size (suc i) ≡ whole_runs p size i
  run_broken i less = omega (arith, ap one_if (ne_eqb _ size less))

  -- at least as many numbers pass as the whole runs have
  pub runs_most : (n : ℕ) → size * whole_runs p size n ≤ count_below p (size * n)
  runs_most zero = omega arith
  runs_most (suc i) = elim (eqb_tells (count_from p (size * i) size) size) [
    | inl whole ↦ (let more : size * whole_runs p size (suc i) ≡ size * whole_runs p size i + size = ap (λ (k : ℕ). size * k) (run_whole i whole.1) ∙ omega arith in
        omega (arith, more, one_more_run i, runs_most i, whole.1))
    | inr other ↦ (let same : size * whole_runs p size (suc i) ≡ size * whole_runs p size i = ap (λ (k : ℕ). size * k) (run_broken i other.1) in
        omega (arith, same, one_more_run i, runs_most i))
  ]

pub quotient : (n size q : ℕ) → size * q ≤ n → n < size * q + size → n / size ≡ q
quotient n size q low high =
    let split : n ≡ q * size + (n - size * q) = omega arith in
    ap (λ (m : ℕ). m / size) split ∙ div-mul-add q size (n - size * q) (omega arith)

-- the counted numbers are free exactly where their place is below a limit
module _ (counted free : ℕ → Bool) (size n limit : ℕ) (some : 0 < size)
    (each : (k : ℕ) → k < size * n → counted k ≡ true → (free k ≡ true) ↔ (count_below counted k < limit))
    (even : (i k : ℕ) → k < size → counted (size * i + k) ≡ counted (size * i)) where
  abbrev both : ℕ → Bool
  both k = counted k && free k

  -- up to a number, as many are free as are counted, but no more than the limit
  record IsFilled (k : ℕ) : Type 0 where
    under : count_below counted k ≤ limit → count_below both k ≡ count_below counted k
    over : limit ≤ count_below counted k → count_below both k ≡ limit

  filled_next : (k : ℕ) → k < size * n → IsFilled k → (c f : Bool) → counted k ≡ c → free k ≡ f → IsFilled (suc k)
  filled_next k within old false f is at =
      let none : one_if (counted k) ≡ 0 = ap one_if is in
      let neither : one_if (both k) ≡ 0 = ap (λ (c : Bool). one_if (c && free k)) is in
      record { under = λ h. omega (arith, old.under (omega arith)); over = λ h. omega (arith, old.over (omega arith)) }
  filled_next k within old true true is at =
      let one : one_if (counted k) ≡ 1 = ap one_if is in
      let also : one_if (both k) ≡ 1 = λ i. one_if (is i && at i) in
      let less = (each k within is).0 at in
      record { under = λ h. omega (arith, old.under (omega arith)); over = λ h. omega (arith, old.under (omega arith)) }
  filled_next k within old true false is at =
      let one : one_if (counted k) ≡ 1 = ap one_if is in
      let neither : one_if (both k) ≡ 0 = λ i. one_if (is i && at i) in
      let past : limit ≤ count_below counted k = elim (leb_tells limit (count_below counted k)) [
        | inl past ↦ past.1
        | inr less ↦ absurd (both_ways (free k) at ((each k within is).1 less.1))
      ] in
      record { under = λ h. absurd (omega arith); over = λ h. omega (arith, old.over past) }

  filled : (k : ℕ) → k ≤ size * n → IsFilled k
  filled zero within = record { under = λ h. refl; over = λ h. omega arith }
  filled (suc k) within = filled_next k (omega arith) (filled k (omega arith)) (counted k) (free k) refl refl

  -- of the first i runs, the counted ones are free up to the limit, and whole but for one at most
  record IsUpto (i : ℕ) : Type 0 where
    runs : ℕ
    places : count_below counted (size * i) ≡ size * runs
    whole : ((whole_runs both size i ≡ runs) × (size * runs ≤ limit))
        ⊎ ((size * whole_runs both size i ≤ limit) × (limit < size * whole_runs both size i + size) × (limit ≤ size * runs))

  upto_shut : (i : ℕ) → IsUpto i → counted (size * i) ≡ false → IsUpto (suc i)
  upto_shut i old is =
      let none : count_from counted (size * i) size ≡ 0 = count_from_none counted (size * i) size (λ k h. even i k h ∙ is) in
      let neither : count_from both (size * i) size ≡ 0 = count_from_none both (size * i) size (λ k h. ap (λ (c : Bool). c && free (size * i + k)) (even i k h ∙ is)) in
      let same = run_broken both size i (λ e. omega (arith, e, neither, some)) in
      record {
        runs = old.runs;
        places = omega (arith, one_more_run counted size i, none, old.places);
        whole = subst (λ (r : ℕ). ((r ≡ old.runs) × (size * old.runs ≤ limit)) ⊎ ((size * r ≤ limit) × (limit < size * r + size) × (limit ≤ size * old.runs))) (sym same) old.whole;
      }

  upto_open : (i : ℕ) → size * suc i ≤ size * n → IsUpto i → counted (size * i) ≡ true → IsUpto (suc i)
  upto_open i within old is = by_limit old.whole where
    here : count_from counted (size * i) size ≡ size
    here = count_from_all counted (size * i) size (λ k low high.
        let at : size * i + (k - size * i) ≡ k = omega arith in
        sym (ap counted at) ∙ even i (k - size * i) (omega arith) ∙ is)

    more : count_below counted (size * suc i) ≡ size * old.runs + size
    more = omega (arith, one_more_run counted size i, here, old.places)

    places : count_below counted (size * suc i) ≡ size * suc old.runs
    places = omega (arith, more)

    before : IsFilled (size * i)
    before = filled (size * i) (omega arith)

    after : IsFilled (size * suc i)
    after = filled (size * suc i) within

    one_run : count_below both (size * suc i) ≡ count_below both (size * i) + count_from both (size * i) size
    one_run = one_more_run both size i

    by_limit : ((whole_runs both size i ≡ old.runs) × (size * old.runs ≤ limit))
        ⊎ ((size * whole_runs both size i ≤ limit) × (limit < size * whole_runs both size i + size) × (limit ≤ size * old.runs)) → IsUpto (suc i)
    by_limit (inl all) = elim (leb_tells (size * old.runs + size) limit) [
      | inl fits ↦
          (let low = before.under (omega (arith, all.1, old.places)) in
          let high = after.under (omega (arith, fits.1, more)) in
          let full : count_from both (size * i) size ≡ size = omega (arith, low, high, one_run, more, old.places) in
          let next = run_whole both size i full in
          record { runs = suc old.runs; places = places; whole = inl (omega (arith, next, all.0), omega (arith, fits.1)) })
      | inr breaks ↦
          (let low = before.under (omega (arith, all.1, old.places)) in
          let high = after.over (omega (arith, breaks.1, more)) in
          let next = run_broken both size i (λ e. omega (arith, e, low, high, one_run, old.places, breaks.1)) in
          let same : size * whole_runs both size (suc i) ≡ size * old.runs = ap (λ (r : ℕ). size * r) (next ∙ all.0) in
          record { runs = suc old.runs; places = places; whole = inr (omega (arith, same, all.1), omega (arith, same, breaks.1), omega (arith, breaks.1)) })
    ]
    by_limit (inr part) =
        let low = before.over (omega (arith, part.2, old.places)) in
        let high = after.over (omega (arith, part.2, more)) in
        let next = run_broken both size i (λ e. omega (arith, e, low, high, one_run, some)) in
        let same : size * whole_runs both size (suc i) ≡ size * whole_runs both size i = ap (λ (r : ℕ). size * r) next in
        record { runs = suc old.runs; places = places; whole = inr (omega (arith, same, part.0), omega (arith, same, part.1), omega (arith, part.2)) }

  upto_next : (i : ℕ) → size * suc i ≤ size * n → IsUpto i → (c : Bool) → counted (size * i) ≡ c → IsUpto (suc i)
  upto_next i within old false is = upto_shut i old is
  upto_next i within old true is = upto_open i within old is

  upto : (i : ℕ) → i ≤ n → IsUpto i
  upto zero within =
      let none : size * 0 ≡ 0 = omega arith in
      record { runs = 0; places = ap (count_below counted) none ∙ sym none; whole = inl (refl, omega arith) }
  upto (suc i) within = upto_next i (mul-le-mul_left size within) (upto i (omega arith)) (counted (size * i)) refl

  pub filled_runs : count_below both (size * n) ≡ limit → whole_runs both size n ≡ limit / size
  filled_runs all = by_whole (upto n (omega arith)).whole where
    by_whole : ((whole_runs both size n ≡ (upto n (omega arith)).runs) × (size * (upto n (omega arith)).runs ≤ limit))
        ⊎ ((size * whole_runs both size n ≤ limit) × (limit < size * whole_runs both size n + size) × (limit ≤ size * (upto n (omega arith)).runs)) → whole_runs both size n ≡ limit / size
    by_whole (inl e) =
        let last = upto n (omega arith) in
        let under = (filled (size * n) (omega arith)).under (omega (arith, e.1, last.places)) in
        let same : size * whole_runs both size n ≡ size * last.runs = ap (λ (r : ℕ). size * r) e.0 in
        sym (quotient limit size (whole_runs both size n) (omega (arith, same, e.1)) (omega (arith, same, under, all, last.places, some)))
    by_whole (inr e) = sym (quotient limit size (whole_runs both size n) e.0 e.1)
