-- Counts of two tests compared, and what runs cost by two tests of frames.
use Rattle.std.proofs.Common.{◌≡◌, ◌≢◌, ℕ, zero, suc, ◌+◌, ◌-◌, ◌*◌, ◌<◌, ◌≤◌, Bool, true, false, cond, eqb, ◌&&◌, not, inl, inr, refl, sym, ap, ◌∙◌, arith}
use Rattle.std.proofs.lemmas.Bool.{and_parts, and_from, and_left, not-true, eq-eqb, ne_eqb, both_ways, cases_Bool}
use Rattle.std.proofs.lemmas.Bool.Decides.{eqb_tells, leb_tells}
use Rattle.frame_core.proofs.Searches.{count_some}
use Rattle.frame_core.specs.Below.{one_if, count_below, count_from}
use Rattle.fewest_core.specs.FewestMoves.{cost_below}

pub one_most : (b : Bool) → one_if b ≤ 1
one_most true = omega arith
one_most false = omega arith

one_within : (a b : Bool) → (a ≡ true → b ≡ true) → one_if a ≤ one_if b
one_within false b h = omega arith
one_within true b h = omega (arith, ap one_if (h refl))

one_apart : (a b : Bool) → (b ≡ true → a ≡ false) → one_if a + one_if b ≤ 1
one_apart a true h = omega (arith, ap one_if (h refl))
one_apart a false h = omega (arith, one_most a)

pub count_within : (p q : ℕ → Bool) (n : ℕ) → ((k : ℕ) → k < n → p k ≡ true → q k ≡ true) → count_below p n ≤ count_below q n
count_within p q zero each = omega arith
count_within p q (suc n) each = omega (arith, one_within (p n) (q n) (each n (omega arith)), count_within p q n (λ k h. each k (omega arith)))

pub count_but_one : (p q : ℕ → Bool) (n s : ℕ) → ((k : ℕ) → k < n → k ≢ s → p k ≡ true → q k ≡ true) → count_below p n ≤ count_below q n + 1
count_but_one p q zero s each = omega arith
count_but_one p q (suc n) s each = elim (eqb_tells n s) [
  | inl at ↦ omega (arith, one_most (p n), count_within p q n (λ k h. let ne : k ≢ s = omega (arith, at.1) in each k (omega arith) ne))
  | inr other ↦ omega (arith, one_within (p n) (q n) (each n (omega arith) other.1), count_but_one p q n s (λ k h. each k (omega arith)))
]

pub count_apart : (p q : ℕ → Bool) (n : ℕ) → ((k : ℕ) → q k ≡ true → p k ≡ false) → count_below p n + count_below q n ≤ n
count_apart p q zero each = omega arith
count_apart p q (suc n) each = omega (arith, one_apart (p n) (q n) (each n), count_apart p q n each)

-- where one number more passes the second test, it counts one more
pub count_strict : (p q : ℕ → Bool) (n t : ℕ) → t < n → p t ≡ false → q t ≡ true → ((k : ℕ) → k < n → p k ≡ true → q k ≡ true) → count_below p n + 1 ≤ count_below q n
count_strict p q zero t h out in_it each = absurd (omega arith)
count_strict p q (suc n) t h out in_it each = elim (eqb_tells t n) [
  | inl same ↦ omega (arith, ap one_if (ap p (sym same.1) ∙ out), ap one_if (ap q (sym same.1) ∙ in_it), count_within p q n (λ k l. each k (omega arith)))
  | inr other ↦ omega (arith, one_within (p n) (q n) (each n (omega arith)), count_strict p q n t (omega (arith, other.1)) out in_it (λ k l. each k (omega arith)))
]

-- a count where one number comes in and another goes is no higher
pub count_swapped : (p q : ℕ → Bool) (n s t : ℕ) → t < n → t ≢ s → p t ≡ false → q t ≡ true → ((k : ℕ) → k ≢ s → p k ≡ true → q k ≡ true) → count_below p n ≤ count_below q n
count_swapped p q n s t h ne out in_it each =
    let r = λ (k : ℕ). p k && not (eqb k s) in
    let one = count_but_one p r n s (λ k l other is. and_from (p k) (not (eqb k s)) is (ap not (ne_eqb k s other))) in
    let less = count_strict r q n t h (and_left (p t) (not (eqb t s)) out) in_it (λ k l is. let parts = and_parts (p k) (not (eqb k s)) is in each k (λ e. both_ways (eqb k s) (not-true (eqb k s) parts.1) (eq-eqb k s e)) parts.0) in
    omega (arith, one, less)

-- where some numbers pass, there is one
pub some_counted : (p : ℕ → Bool) (n : ℕ) → 0 < count_below p n → (k : ℕ) × (k < n) × (p k ≡ true)
some_counted p zero some = absurd (omega arith)
some_counted p (suc n) some = elim (cases_Bool (p n)) [
  | inl is ↦ (n, omega arith, is)
  | inr not_it ↦ (let found = some_counted p n (omega (arith, ap one_if not_it, some)) in (found.0, omega (arith, found.1), found.2))
]

-- where none of n numbers passes, each of them fails
pub none_counted : (p : ℕ → Bool) (first n k : ℕ) → count_from p first n ≡ 0 → first ≤ k → k < first + n → p k ≡ false
unfolding count_from
none_counted p first n k none low high = elim (cases_Bool (p k)) [
  | inl is ↦
      (let at : first + (k - first) ≡ k = omega arith in
      absurd (omega (arith, none, count_some (λ i. p (first + i)) n (k - first) (omega arith) (ap p at ∙ is))))
  | inr fails ↦ fails
]

-- where all numbers of a run pass one test, none of them passes a test that is apart from it
pub none_beside : (p q : ℕ → Bool) (first n : ℕ) → ((k : ℕ) → q k ≡ true → p k ≡ false) → count_from q first n ≡ n → count_from p first n ≡ 0
unfolding count_from
none_beside p q first n apart all = omega (arith, all, count_apart (λ k. p (first + k)) (λ k. q (first + k)) n (λ k. apart (first + k)))

pub pick_within : (t : Bool) (a b d : ℕ) → (t ≡ true → a ≤ b + d) → cond t a 0 ≤ cond t b 0 + d
pick_within true a b d h = h refl
pick_within false a b d h = omega arith

-- what runs of `size` frames cost where a frame passes a test
abbrev pub taken : (ℕ → Bool) → ℕ → ℕ → ℕ
taken p size run = count_from p (size * run) size

pub taken_within : (p q : ℕ → Bool) (size run : ℕ) → ((frame : ℕ) → size * run ≤ frame → frame < size * run + size → p frame ≡ true → q frame ≡ true) → taken p size run ≤ taken q size run
unfolding count_from
taken_within p q size run each = count_within (λ k. p (size * run + k)) (λ k. q (size * run + k)) size (λ k h. each (size * run + k) (omega arith) (omega arith))

pub cost_within : (chosen : ℕ → Bool) (cost_at other : ℕ → ℕ) (runs : ℕ) → ((run : ℕ) → chosen run ≡ true → cost_at run ≤ other run) → cost_below chosen cost_at runs ≤ cost_below chosen other runs
cost_within chosen cost_at other zero each = omega arith
cost_within chosen cost_at other (suc run) each = omega (arith, pick_within (chosen run) (cost_at run) (other run) 0 (λ is. omega (arith, each run is)), cost_within chosen cost_at other run each)

pub taken_strict : (p q : ℕ → Bool) (size run t : ℕ) → size * run ≤ t → t < size * run + size → p t ≡ false → q t ≡ true → ((frame : ℕ) → size * run ≤ frame → frame < size * run + size → p frame ≡ true → q frame ≡ true) → taken p size run + 1 ≤ taken q size run
unfolding count_from
taken_strict p q size run t low high out in_it each =
    let at : size * run + (t - size * run) ≡ t = omega arith in
    count_strict (λ k. p (size * run + k)) (λ k. q (size * run + k)) size (t - size * run) (omega arith) (ap p at ∙ out) (ap q at ∙ in_it) (λ k h. each (size * run + k) (omega arith) (omega arith))

pub none_chosen : (p chosen : ℕ → Bool) (size runs : ℕ) → ((run : ℕ) → chosen run ≡ true → taken p size run ≡ 0) → cost_below chosen (taken p size) runs ≡ 0
none_chosen p chosen size zero none = refl
none_chosen p chosen size (suc run) none = omega (arith, by_choice (chosen run) refl, none_chosen p chosen size run none) where
  by_choice : (b : Bool) → chosen run ≡ b → cond b (taken p size run) 0 ≡ 0
  by_choice true is = none run is
  by_choice false is = refl

pub cost_strict : (chosen : ℕ → Bool) (cost_at other : ℕ → ℕ) (runs r : ℕ) → r < runs → chosen r ≡ true → cost_at r + 1 ≤ other r → ((run : ℕ) → chosen run ≡ true → cost_at run ≤ other run) → cost_below chosen cost_at runs + 1 ≤ cost_below chosen other runs
cost_strict chosen cost_at other zero r h is less each = absurd (omega arith)
cost_strict chosen cost_at other (suc run) r h is less each = elim (eqb_tells r run) [
  | inl same ↦
      (let here : chosen run ≡ true = ap chosen (sym same.1) ∙ is in
      let less_here : cost_at run + 1 ≤ other run = omega (arith, less, ap cost_at same.1, ap other same.1) in
      let a : cond (chosen run) (cost_at run) 0 ≡ cost_at run = ap (λ (b : Bool). cond b (cost_at run) 0) here in
      let b : cond (chosen run) (other run) 0 ≡ other run = ap (λ (b : Bool). cond b (other run) 0) here in
      omega (arith, a, b, less_here, cost_within chosen cost_at other run each))
  | inr not_it ↦ omega (
    arith,
    pick_within (chosen run) (cost_at run) (other run) 0 (λ at. omega (arith, each run at)),
    cost_strict chosen cost_at other run r (omega (arith, not_it.1)) is less each,
  )
]

-- a chosen run costs no more than all of them
pub cost_part : (chosen : ℕ → Bool) (cost_at : ℕ → ℕ) (runs r : ℕ) → r < runs → chosen r ≡ true → cost_at r ≤ cost_below chosen cost_at runs
cost_part chosen cost_at zero r h is = absurd (omega arith)
cost_part chosen cost_at (suc run) r h is = elim (eqb_tells r run) [
  | inl same ↦
      (let a : cond (chosen run) (cost_at run) 0 ≡ cost_at run = ap (λ (b : Bool). cond b (cost_at run) 0) (ap chosen (sym same.1) ∙ is) in
      omega (arith, a, ap cost_at same.1))
  | inr not_it ↦ omega (arith, cost_part chosen cost_at run r (omega (arith, not_it.1)) is)
]

-- where the chosen runs cost something, one of them does
pub some_paid : (chosen : ℕ → Bool) (cost_at : ℕ → ℕ) (runs : ℕ) → 0 < cost_below chosen cost_at runs → (r : ℕ) × (r < runs) × (chosen r ≡ true) × (0 < cost_at r)
some_paid chosen cost_at zero some = absurd (omega arith)
some_paid chosen cost_at (suc run) some = elim (leb_tells 1 (cond (chosen run) (cost_at run) 0)) [
  | inl here ↦ (let found = is_chosen (chosen run) refl here.1 in (run, omega arith, found.0, found.1))
  | inr none ↦ (let found = some_paid chosen cost_at run (omega (arith, none.1, some)) in (found.0, omega (arith, found.1), found.2, found.3))
] where
  is_chosen : (b : Bool) → chosen run ≡ b → 1 ≤ cond b (cost_at run) 0 → (chosen run ≡ true) × (0 < cost_at run)
  is_chosen true is some = (is, some)
  is_chosen false is some = absurd (omega arith)

-- where each frame of the chosen runs that passes one test but `s` passes the other, the runs cost at most one more by the one than by the other
module _ (chosen p q : ℕ → Bool) (s size : ℕ) (kept : (run frame : ℕ) → chosen run ≡ true → size * run ≤ frame → frame < size * run + size → frame ≢ s → p frame ≡ true → q frame ≡ true) where
  same_run : (run : ℕ) → chosen run ≡ true → ((frame : ℕ) → size * run ≤ frame → frame < size * run + size → frame ≢ s) → taken p size run ≤ taken q size run
  same_run run is away = taken_within p q size run (λ frame low high. kept run frame is low high (away frame low high))

  one_run : (run : ℕ) → chosen run ≡ true → taken p size run ≤ taken q size run + 1
  unfolding count_from
  one_run run is = elim (leb_tells (size * run) s) [
    | inl above ↦ count_but_one (λ k. p (size * run + k)) (λ k. q (size * run + k)) size (s - size * run) (λ k h ne. kept run (size * run + k) is (omega arith) (omega arith) (λ e. ne (omega (arith, e, above.1))))
    | inr below ↦ omega (arith, same_run run is (λ frame low high. let ne : frame ≢ s = omega (arith, below.1) in ne))
  ]

  none_past : (runs : ℕ) → size * runs ≤ s → cost_below chosen (taken p size) runs ≤ cost_below chosen (taken q size) runs
  none_past zero past = omega arith
  none_past (suc run) past =
      let here = pick_within (chosen run) (taken p size run) (taken q size run) 0 (λ is. omega (arith, same_run run is (λ frame low high. let ne : frame ≢ s = omega arith in ne))) in
      omega (arith, here, none_past run (omega arith))

  pub one_less : (runs : ℕ) → cost_below chosen (taken p size) runs ≤ cost_below chosen (taken q size) runs + 1
  one_less zero = omega arith
  one_less (suc run) = elim (leb_tells (size * run) s) [
    | inl above ↦ omega (arith, pick_within (chosen run) (taken p size run) (taken q size run) 1 (one_run run), none_past run above.1)
    | inr below ↦ omega (arith, pick_within (chosen run) (taken p size run) (taken q size run) 0 (λ is. omega (arith, same_run run is (λ frame low high. let ne : frame ≢ s = omega (arith, below.1) in ne))), one_less run)
  ]
