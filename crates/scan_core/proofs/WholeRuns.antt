-- The blocks of each order whose frames all pass, numbered as a heap's.
use Rattle.std.proofs.Common.{◌≡◌, ℕ, suc, ◌+◌, ◌-◌, ◌*◌, ◌/◌, ◌^◌, ◌<◌, ◌≤◌, Bool, true, false, ◌⊎◌, inl, inr, refl, sym, ap, ◌∙◌, arith}
use Rattle.std.specs.Prelude.{nat_eq, nat_lt, if◌then◌else◌, ◌&&◌}
use Rattle.std.proofs.lemmas.Bool.{lt-ltb, le-ltb, cond-true as taken, cond-false as skipped}
use Rattle.std.proofs.lemmas.Bool.Decides.{leb_tells}
use Rattle.frame_core.proofs.Searches.{count_from_same}
use Rattle.scan_core.specs.NumberSet.{all_from, in_run}
use Rattle.scan_core.proofs.FrameSets.{all_pass}
use Rattle.scan_core.proofs.Orders.{by_order}
use Rattle.scan_core.proofs.Spanning.{all_members, both, in_run_is, is_in_run, same_by}

pub true_or_false : (b : Bool) → (b ≡ true) ⊎ (b ≡ false)
true_or_false true = inl refl
true_or_false false = inr refl

pub not_in_run : (first count n : ℕ) → (first ≤ n → n < first + count → ⊥) → in_run first count n ≡ false
not_in_run first count n away = same_by (in_run first count n) false (λ e. let is = in_run_is first count n e in absurd (away is.0 is.1)) (λ e. cc)

-- a run passes where both of its halves do
pub halves : (p : ℕ → Bool) (first m : ℕ) → all_from p first (m + m) ≡ (all_from p first m && all_from p (first + m) m)
halves p first m = same_by (all_from p first (m + m)) (all_from p first m && all_from p (first + m) m)
    (λ e. let each = all_pass p first (m + m) e in
    λ i. sym (all_members p first m (λ n inside. let is = in_run_is first m n inside in each n (is_in_run first (m + m) n is.0 (omega (arith, is.1))))) i
    && sym (all_members p (first + m) m (λ n inside. let is = in_run_is (first + m) m n inside in each n (is_in_run first (m + m) n (omega (arith, is.0)) (omega (arith, is.1))))) i)
    (λ e. let parts = both (all_from p first m) (all_from p (first + m) m) e in
    sym (all_members p first (m + m) (λ n inside. let is = in_run_is first (m + m) n inside in elim (leb_tells (first + m) n) [
      | inl high ↦ all_pass p (first + m) m parts.1 n (is_in_run (first + m) m n high.1 (omega (arith, is.1)))
      | inr low ↦ all_pass p first m parts.0 n (is_in_run first m n is.0 low.1)
    ])))

pub all_same : (p r : ℕ → Bool) (first m : ℕ) → ((k : ℕ) → first ≤ k → k < first + m → p k ≡ r k) → all_from p first m ≡ all_from r first m
all_same p r first m same = ap (λ n. nat_eq n m) (count_from_same p r first m same)

-- whether a block should be a member: one of eight frames where they pass, and a larger one where both of its halves are members
unfoldable pub should : ℕ → (ℕ → Bool) → (ℕ → Bool) → ℕ → Bool
should blocks p c n = if nat_lt n (64 * blocks) then c (2 * n) && c (2 * n + 1) else all_from p (8 * n - 512 * blocks) 8

-- each block is a member where it should be one
abbrev pub IsHeap : ℕ → (ℕ → Bool) → (ℕ → Bool) → Type 0
IsHeap blocks p c = (n : ℕ) → blocks ≤ n → n < 128 * blocks → c n ≡ should blocks p c n

-- the blocks of an order are members where all of their frames pass
abbrev pub HasOrder : ℕ → (ℕ → Bool) → (ℕ → Bool) → ℕ → Type 0
HasOrder blocks p c order = (run : ℕ) → run < 512 * blocks / 2 ^ order → c (512 * blocks / 2 ^ order + run) ≡ all_from p (run * 2 ^ order) (2 ^ order)

abbrev pub HasOrders : ℕ → (ℕ → Bool) → (ℕ → Bool) → Type 0
HasOrders blocks p c = (order run : ℕ) → 3 ≤ order → order ≤ 9 → run < 512 * blocks / 2 ^ order → c (512 * blocks / 2 ^ order + run) ≡ all_from p (run * 2 ^ order) (2 ^ order)

module _ (blocks : ℕ) where
  pub inner : (p c : ℕ → Bool) (n : ℕ) → n < 64 * blocks → should blocks p c n ≡ (c (2 * n) && c (2 * n + 1))
  unfolding should
  inner p c n less = taken (nat_lt n (64 * blocks)) _ _ (lt-ltb n (64 * blocks) less)

  pub leaf : (p c : ℕ → Bool) (n : ℕ) → 64 * blocks ≤ n → should blocks p c n ≡ all_from p (8 * n - 512 * blocks) 8
  unfolding should
  leaf p c n most = skipped (nat_lt n (64 * blocks)) _ _ (le-ltb n (64 * blocks) most)

  -- there are twice as many blocks of the order below
  twice : (order : ℕ) → 3 ≤ order → order ≤ 9 → order < 9 → 512 * blocks / 2 ^ order ≡ 2 * (512 * blocks / 2 ^ suc order)
  twice = by_order (λ o. o < 9 → 512 * blocks / 2 ^ o ≡ 2 * (512 * blocks / 2 ^ suc o))
      (λ h. omega arith) (λ h. omega arith) (λ h. omega arith) (λ h. omega arith) (λ h. omega arith) (λ h. omega arith) (λ h. absurd (omega (arith, h)))

  module _ (p c : ℕ → Bool) where
    -- the halves of a block of an order are two of the order below
    split : (order size runs run : ℕ) → 2 ^ suc order ≡ size + size → 2 ^ order ≡ size → 512 * blocks / 2 ^ order ≡ 2 * runs → HasOrder blocks p c order → run < runs → (c (2 * (runs + run)) && c (2 * (runs + run) + 1)) ≡ all_from p (run * (size + size)) (size + size)
    split order size runs run big small twice has within =
        let low : 2 * (runs + run) ≡ 512 * blocks / 2 ^ order + 2 * run = omega (arith, twice) in
        let high : 2 * (runs + run) + 1 ≡ 512 * blocks / 2 ^ order + (2 * run + 1) = omega (arith, twice) in
        let first : 2 * run * 2 ^ order ≡ run * (size + size) = ap (λ m. 2 * run * m) small ∙ omega arith in
        let second : (2 * run + 1) * 2 ^ order ≡ run * (size + size) + size = ap (λ m. (2 * run + 1) * m) small ∙ omega arith in
        (λ i. (ap c low ∙ has (2 * run) (omega (arith, twice, within)) ∙ (λ j. all_from p (first j) (small j))) i
        && (ap c high ∙ has (2 * run + 1) (omega (arith, twice, within)) ∙ (λ j. all_from p (second j) (small j))) i)
        ∙ sym (halves p (run * (size + size)) size)

    module _ (order : ℕ) (low : 3 ≤ order) (high : order < 9) where
      doubled : 2 ^ suc order ≡ 2 ^ order + 2 ^ order
      doubled = omega arith

      runs_twice : 512 * blocks / 2 ^ order ≡ 2 * (512 * blocks / 2 ^ suc order)
      runs_twice = twice order low (omega (arith, high)) high

      of_halves : HasOrder blocks p c order → (run : ℕ) → run < 512 * blocks / 2 ^ suc order → (c (2 * (512 * blocks / 2 ^ suc order + run)) && c (2 * (512 * blocks / 2 ^ suc order + run) + 1)) ≡ all_from p (run * 2 ^ suc order) (2 ^ suc order)
      of_halves has run within = split order (2 ^ order) (512 * blocks / 2 ^ suc order) run doubled refl runs_twice has within ∙ (λ i. all_from p (run * sym doubled i) (sym doubled i))

      up : IsHeap blocks p c → 512 * blocks / 2 ^ suc order + 512 * blocks / 2 ^ suc order ≤ 64 * blocks → blocks ≤ 512 * blocks / 2 ^ suc order → HasOrder blocks p c order → HasOrder blocks p c (suc order)
      up heap most least has run within =
          heap (512 * blocks / 2 ^ suc order + run) (omega (arith, least)) (omega (arith, most, within)) ∙ inner p c (512 * blocks / 2 ^ suc order + run) (omega (arith, most, within)) ∙ of_halves has run within

      down : HasOrder blocks p c order → HasOrder blocks p c (suc order) → (n : ℕ) → n < 64 * blocks → 512 * blocks / 2 ^ suc order ≤ n → n < 512 * blocks / 2 ^ suc order + 512 * blocks / 2 ^ suc order → c n ≡ should blocks p c n
      down has above n less from to =
          let at : 512 * blocks / 2 ^ suc order + (n - 512 * blocks / 2 ^ suc order) ≡ n = omega (arith, from) in
          let within : n - 512 * blocks / 2 ^ suc order < 512 * blocks / 2 ^ suc order = omega (arith, from, to) in
          ap c (sym at) ∙ above (n - 512 * blocks / 2 ^ suc order) within ∙ sym (of_halves has (n - 512 * blocks / 2 ^ suc order) within)
          ∙ ap (λ k. c (2 * k) && c (2 * k + 1)) at ∙ sym (inner p c n less)

    pub to_orders : IsHeap blocks p c → HasOrders blocks p c
    to_orders heap order run low high =
        let o3 : HasOrder blocks p c 3 = λ k within.
        let at : 512 * blocks / 2 ^ 3 + k ≡ 64 * blocks + k = omega arith in
        let first : 8 * (64 * blocks + k) - 512 * blocks ≡ k * 2 ^ 3 = omega arith in
        ap c at ∙ heap (64 * blocks + k) (omega arith) (omega (arith, within)) ∙ leaf p c (64 * blocks + k) (omega arith) ∙ ap (λ f. all_from p f 8) first in
        let o4 = up 3 (omega arith) (omega arith) heap (omega arith) (omega arith) o3 in
        let o5 = up 4 (omega arith) (omega arith) heap (omega arith) (omega arith) o4 in
        let o6 = up 5 (omega arith) (omega arith) heap (omega arith) (omega arith) o5 in
        let o7 = up 6 (omega arith) (omega arith) heap (omega arith) (omega arith) o6 in
        let o8 = up 7 (omega arith) (omega arith) heap (omega arith) (omega arith) o7 in
        let o9 = up 8 (omega arith) (omega arith) heap (omega arith) (omega arith) o8 in
        by_order (HasOrder blocks p c) o3 o4 o5 o6 o7 o8 o9 order low high run

    pub of_orders : HasOrders blocks p c → IsHeap blocks p c
    of_orders has n least most =
        let at : (order : ℕ) → 3 ≤ order → order ≤ 9 → HasOrder blocks p c order = λ order low high run. has order run low high in
        let between : (order : ℕ) (low : 3 ≤ order) (high : order < 9) (n : ℕ) → n < 64 * blocks → 512 * blocks / 2 ^ suc order ≤ n → n < 512 * blocks / 2 ^ suc order + 512 * blocks / 2 ^ suc order → c n ≡ should blocks p c n
        = λ order low high. down order low high (at order low (omega (arith, high))) (at (suc order) (omega (arith, low)) (omega (arith, high))) in
        elim (leb_tells (64 * blocks) n) [
          | inl high ↦
              (let place : 512 * blocks / 2 ^ 3 + (n - 64 * blocks) ≡ n = omega (arith, high.1) in
              let first : (n - 64 * blocks) * 2 ^ 3 ≡ 8 * n - 512 * blocks = omega (arith, high.1) in
              ap c (sym place) ∙ at 3 (omega arith) (omega arith) (n - 64 * blocks) (omega (arith, high.1, most)) ∙ ap (λ f. all_from p f 8) first ∙ sym (leaf p c n high.1))
          | inr under6 ↦ elim (leb_tells (32 * blocks) n) [
            | inl high ↦ between 3 (omega arith) (omega arith) n under6.1 (omega (arith, high.1)) (omega (arith, under6.1))
            | inr under5 ↦ elim (leb_tells (16 * blocks) n) [
              | inl high ↦ between 4 (omega arith) (omega arith) n under6.1 (omega (arith, high.1)) (omega (arith, under5.1))
              | inr under4 ↦ elim (leb_tells (8 * blocks) n) [
                | inl high ↦ between 5 (omega arith) (omega arith) n under6.1 (omega (arith, high.1)) (omega (arith, under4.1))
                | inr under3 ↦ elim (leb_tells (4 * blocks) n) [
                  | inl high ↦ between 6 (omega arith) (omega arith) n under6.1 (omega (arith, high.1)) (omega (arith, under3.1))
                  | inr under2 ↦ elim (leb_tells (2 * blocks) n) [
                    | inl high ↦ between 7 (omega arith) (omega arith) n under6.1 (omega (arith, high.1)) (omega (arith, under2.1))
                    | inr under1 ↦ between 8 (omega arith) (omega arith) n under6.1 (omega (arith, least)) (omega (arith, under1.1))
                  ]
                ]
              ]
            ]
          ]
        ]

pub same_wholes : (blocks : ℕ) (p r c : ℕ → Bool) → ((k : ℕ) → p k ≡ r k) → HasOrders blocks p c → HasOrders blocks r c
same_wholes blocks p r c each has order run low high within = has order run low high within ∙ all_same p r (run * 2 ^ order) (2 ^ order) (λ k l h. each k)
