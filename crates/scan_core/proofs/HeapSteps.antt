-- A heap of blocks stays right through each change.
use Rattle.std.proofs.Common.{not, ◌≡◌, ℕ, zero, suc, ◌+◌, ◌-◌, ◌*◌, ◌/◌, ◌%◌, ◌^◌, ◌<◌, ◌≤◌, Bool, true, false, ◌⊎◌, inl, inr, refl, sym, ap, ◌∙◌, arith}
use Rattle.std.specs.Prelude.{nat_eq, ◌||◌, nat_lt, if◌then◌else◌, ◌&&◌}
use Rattle.std.proofs.lemmas.Bool.{eq-eqb, ne_eqb, or_right, eqb-true, cond-true as taken, cond-false as skipped}
use Rattle.std.proofs.lemmas.Bool.Decides.{leb_tells}
use Rattle.frame_core.specs.Order.{is_aligned}
use Rattle.scan_core.specs.NumberSet.{all_from, in_run}
use Rattle.scan_core.specs.WholeRuns.{Empties, Fills}
use Rattle.scan_core.proofs.FrameSets.{all_pass}
use Rattle.scan_core.proofs.Masking.{clash}
use Rattle.scan_core.proofs.Orders.{by_order}
use Rattle.scan_core.proofs.Spanning.{same_by, both, all_members, in_run_is, is_in_run}
use Rattle.scan_core.proofs.WholeRuns.{IsHeap, all_same, inner, leaf, not_in_run, should, true_or_false}

-- a run of blocks, and how many halvings are left to one block
pub record IsAt (blocks number halvings : ℕ) : Type 0 where
  pub aligned : number % 2 ^ halvings ≡ 0
  pub within : number + 2 ^ halvings ≤ 128 * blocks
  pub low : 0 < halvings → blocks * 2 ^ halvings ≤ number
  pub few : halvings ≤ 6

-- the blocks of which a run has the halves: half as many, or the one that has a single block
abbrev pub IsHalved : ℕ → ℕ → ℕ → ℕ → Type 0
IsHalved blocks number size next = ((size ≡ next + next) × (number ≡ 2 * (number / 2)) × (blocks ≤ number / 2) × (next ≤ number / 2)) ⊎ ((size ≡ 1) × (next ≡ 1))

-- each block is a member where it should be one, but for those of a run, of which all or none should be
pub record IsStale (blocks : ℕ) (p c : ℕ → Bool) (number size : ℕ) (value : Bool) : Type 0 where
  pub others : (n : ℕ) → blocks ≤ n → n < 128 * blocks → in_run number size n ≡ false → c n ≡ should blocks p c n
  pub run : (n : ℕ) → blocks ≤ n → in_run number size n ≡ true → should blocks p c n ≡ value

abbrev pub AllMembers : ℕ → (ℕ → Bool) → ℕ → ℕ → Type 0
AllMembers blocks c number size = (n : ℕ) → blocks ≤ n → in_run number size n ≡ true → c n ≡ true

by_halvings : (P : ℕ → Type 0) → P 0 → P 1 → P 2 → P 3 → P 4 → P 5 → P 6 → (halvings : ℕ) → halvings ≤ 6 → P halvings
by_halvings P p0 p1 p2 p3 p4 p5 p6 zero h = p0
by_halvings P p0 p1 p2 p3 p4 p5 p6 (suc zero) h = p1
by_halvings P p0 p1 p2 p3 p4 p5 p6 (suc (suc zero)) h = p2
by_halvings P p0 p1 p2 p3 p4 p5 p6 (suc (suc (suc zero))) h = p3
by_halvings P p0 p1 p2 p3 p4 p5 p6 (suc (suc (suc (suc zero)))) h = p4
by_halvings P p0 p1 p2 p3 p4 p5 p6 (suc (suc (suc (suc (suc zero))))) h = p5
by_halvings P p0 p1 p2 p3 p4 p5 p6 (suc (suc (suc (suc (suc (suc zero)))))) h = p6
by_halvings P p0 p1 p2 p3 p4 p5 p6 _ h = absurd (omega arith)

module _ (blocks number : ℕ) (some : 0 < blocks) where
  next_aligned : (halvings : ℕ) → halvings ≤ 6 → number % 2 ^ halvings ≡ 0 → number / 2 % 2 ^ (halvings - 1) ≡ 0
  next_aligned = by_halvings (λ h. number % 2 ^ h ≡ 0 → number / 2 % 2 ^ (h - 1) ≡ 0)
      (λ e. omega (arith, e)) (λ e. omega (arith, e)) (λ e. omega (arith, e)) (λ e. omega (arith, e)) (λ e. omega (arith, e)) (λ e. omega (arith, e)) (λ e. omega (arith, e))

  next_within : (halvings : ℕ) → halvings ≤ 6 → number + 2 ^ halvings ≤ 128 * blocks → number / 2 + 2 ^ (halvings - 1) ≤ 128 * blocks
  next_within = by_halvings (λ h. number + 2 ^ h ≤ 128 * blocks → number / 2 + 2 ^ (h - 1) ≤ 128 * blocks)
      (λ e. omega (arith, e)) (λ e. omega (arith, e)) (λ e. omega (arith, e)) (λ e. omega (arith, e)) (λ e. omega (arith, e)) (λ e. omega (arith, e)) (λ e. omega (arith, e))

  next_low : (halvings : ℕ) → halvings ≤ 6 → 0 < halvings → blocks * 2 ^ halvings ≤ number → blocks * 2 ^ (halvings - 1) ≤ number / 2
  next_low = by_halvings (λ h. 0 < h → blocks * 2 ^ h ≤ number → blocks * 2 ^ (h - 1) ≤ number / 2)
      (λ l e. absurd (omega (arith, l))) (λ l e. omega (arith, e)) (λ l e. omega (arith, e)) (λ l e. omega (arith, e)) (λ l e. omega (arith, e)) (λ l e. omega (arith, e)) (λ l e. omega (arith, e))

  pub at_next : (halvings : ℕ) → IsAt blocks number halvings → IsAt blocks (number / 2) (halvings - 1)
  at_next halvings at = record {
    aligned = next_aligned halvings at.few at.aligned;
    within = next_within halvings at.few at.within;
    low = λ l. let less : 0 < halvings = omega (arith, l) in next_low halvings at.few less (at.low less);
    few = omega (arith, at.few);
  }

  next_halved : (halvings : ℕ) → halvings ≤ 6 → number % 2 ^ halvings ≡ 0 → (0 < halvings → blocks * 2 ^ halvings ≤ number) → IsHalved blocks number (2 ^ halvings) (2 ^ (halvings - 1))
  next_halved = by_halvings (λ h. number % 2 ^ h ≡ 0 → (0 < h → blocks * 2 ^ h ≤ number) → IsHalved blocks number (2 ^ h) (2 ^ (h - 1)))
      (λ e l. inr (omega arith, omega arith))
      (λ e l. let m = l (omega arith) in inl (omega arith, omega (arith, e), omega (arith, m), omega (arith, some, m)))
      (λ e l. let m = l (omega arith) in inl (omega arith, omega (arith, e), omega (arith, m), omega (arith, some, m)))
      (λ e l. let m = l (omega arith) in inl (omega arith, omega (arith, e), omega (arith, m), omega (arith, some, m)))
      (λ e l. let m = l (omega arith) in inl (omega arith, omega (arith, e), omega (arith, m), omega (arith, some, m)))
      (λ e l. let m = l (omega arith) in inl (omega arith, omega (arith, e), omega (arith, m), omega (arith, some, m)))
      (λ e l. let m = l (omega arith) in inl (omega arith, omega (arith, e), omega (arith, m), omega (arith, some, m)))

  pub halved : (halvings : ℕ) → IsAt blocks number halvings → IsHalved blocks number (2 ^ halvings) (2 ^ (halvings - 1))
  halved halvings at = next_halved halvings at.few at.aligned at.low

  one_left : (halvings : ℕ) → halvings ≤ 6 → (0 < halvings → blocks * 2 ^ halvings ≤ number) → number < blocks → 2 ^ halvings ≡ 1
  one_left = by_halvings (λ h. (0 < h → blocks * 2 ^ h ≤ number) → number < blocks → 2 ^ h ≡ 1)
      (λ l e. omega arith)
      (λ l e. absurd (omega (arith, l (omega arith), e))) (λ l e. absurd (omega (arith, l (omega arith), e))) (λ l e. absurd (omega (arith, l (omega arith), e)))
      (λ l e. absurd (omega (arith, l (omega arith), e))) (λ l e. absurd (omega (arith, l (omega arith), e))) (λ l e. absurd (omega (arith, l (omega arith), e)))

  -- at the top no block is left over
  pub at_top : (p c : ℕ → Bool) (halvings : ℕ) (value : Bool) → IsAt blocks number halvings → number < blocks → IsStale blocks p c number (2 ^ halvings) value → IsHeap blocks p c
  at_top p c halvings value at under stale n least most =
      stale.others n least most (not_in_run number (2 ^ halvings) n (λ l h. omega (arith, one_left halvings at.few at.low under, under, least, h)))

-- after the blocks of a run were put in or taken out
module _ (blocks : ℕ) (p c d : ℕ → Bool) (number size next : ℕ) (value : Bool) (least : blocks ≤ number) (within : number + size ≤ 128 * blocks) (half : IsHalved blocks number size next) (set : (n : ℕ) → d n ≡ (if in_run number size n then value else c n)) where
  pub inside : (n : ℕ) → in_run number size n ≡ true → d n ≡ value
  inside n part = set n ∙ taken (in_run number size n) value (c n) part

  pub outside : (n : ℕ) → in_run number size n ≡ false → d n ≡ c n
  outside n out = set n ∙ skipped (in_run number size n) value (c n) out

  parent : (n k : ℕ) → 2 * n ≤ k → k ≤ 2 * n + 1 → number ≤ k → k < number + size → (number / 2 ≤ n) × (n < number / 2 + next)
  parent n k low high from to = elim half [
    | inl two ↦ (omega (arith, two.0, two.1, low, high, from, to), omega (arith, two.0, two.1, low, high, from, to))
    | inr one ↦ (omega (arith, one.0, one.1, low, high, from, to), omega (arith, one.0, one.1, low, high, from, to))
  ]

  child_out : (n k : ℕ) → 2 * n ≤ k → k ≤ 2 * n + 1 → in_run (number / 2) next n ≡ false → in_run number size k ≡ false
  child_out n k low high away = not_in_run number size k (λ from to. let at = parent n k low high from to in clash (in_run (number / 2) next n) (is_in_run (number / 2) next n at.0 at.1) away)

  same_should : (n : ℕ) → in_run (number / 2) next n ≡ false → should blocks p d n ≡ should blocks p c n
  unfolding should
  same_should n away =
      λ i. if nat_lt n (64 * blocks) then outside (2 * n) (child_out n (2 * n) (omega arith) (omega arith) away) i && outside (2 * n + 1) (child_out n (2 * n + 1) (omega arith) (omega arith) away) i else all_from p (8 * n - 512 * blocks) 8

  -- only the blocks of which the run has the halves may be wrong now
  others_next : IsStale blocks p c number size value → (n : ℕ) → blocks ≤ n → n < 128 * blocks → in_run (number / 2) next n ≡ false → d n ≡ should blocks p d n
  others_next stale n low high away = elim (true_or_false (in_run number size n)) [
    | inl part ↦ inside n part ∙ sym (stale.run n low part) ∙ sym (same_should n away)
    | inr out ↦ outside n out ∙ stale.others n low high out ∙ sym (same_should n away)
  ]

  -- a block of which the run has a half
  parent_inner : (n : ℕ) → in_run (number / 2) next n ≡ true → n < 64 * blocks
  parent_inner n part = let is = in_run_is (number / 2) next n part in elim half [
    | inl two ↦ omega (arith, is.1, two.0, two.1, within)
    | inr one ↦ omega (arith, is.1, one.0, one.1, within)
  ]

  child_in : (n : ℕ) → in_run (number / 2) next n ≡ true → (in_run number size (2 * n) ≡ true) ⊎ (in_run number size (2 * n + 1) ≡ true)
  child_in n part = let is = in_run_is (number / 2) next n part in elim half [
    | inl two ↦ inl (is_in_run number size (2 * n) (omega (arith, is.0, two.1)) (omega (arith, is.1, two.0, two.1)))
    | inr one ↦ elim (leb_tells number (2 * n)) [
      | inl low ↦ inl (is_in_run number size (2 * n) low.1 (omega (arith, is.0, one.0)))
      | inr high ↦ inr (is_in_run number size (2 * n + 1) (omega (arith, is.1, one.1)) (omega (arith, high.1, one.0)))
    ]
  ]

  both_in : (n : ℕ) → size ≡ next + next → number ≡ 2 * (number / 2) → in_run (number / 2) next n ≡ true → (in_run number size (2 * n) ≡ true) × (in_run number size (2 * n + 1) ≡ true)
  both_in n twice even part = let is = in_run_is (number / 2) next n part in
      (is_in_run number size (2 * n) (omega (arith, is.0, even)) (omega (arith, is.1, twice, even)), is_in_run number size (2 * n + 1) (omega (arith, is.0, even)) (omega (arith, is.1, twice, even)))

  parent_is : (n : ℕ) → next ≡ 1 → in_run (number / 2) next n ≡ true → n ≡ number / 2
  parent_is n one part = let is = in_run_is (number / 2) next n part in omega (arith, is.0, is.1, one)

  -- blocks were put in: the search goes on where both halves are members
  pub fill_on : value ≡ true → IsStale blocks p c number size value → (d (2 * (number / 2)) && d (2 * (number / 2) + 1)) ≡ true → IsStale blocks p d (number / 2) next value
  fill_on is stale full = record {
    others = others_next stale;
    run = λ n low part. inner blocks p d n (parent_inner n part) ∙ elim half [
      | inl two ↦ (let children = both_in n two.0 two.1 part in (λ i. (inside (2 * n) children.0 ∙ is) i && (inside (2 * n + 1) children.1 ∙ is) i) ∙ sym is)
      | inr one ↦ (let at = parent_is n one.1 part in ap (λ k. d (2 * k) && d (2 * k + 1)) at ∙ full ∙ sym is)
    ];
  }

  kept : value ≡ true → (n : ℕ) → c n ≡ true → d n ≡ true
  kept is n member = elim (true_or_false (in_run number size n)) [ inl part ↦ inside n part ∙ is | inr out ↦ outside n out ∙ member ]

  both_less : (a b x y : Bool) → (a ≡ true → x ≡ true) → (b ≡ true → y ≡ true) → (x && y) ≡ false → (a && b) ≡ false
  both_less a b x y f g e = grind (arith, f, g, e)

  -- and ends where one isn't
  pub fill_stop : 0 < blocks → 0 < next → value ≡ true → IsStale blocks p c number size value → (d (2 * (number / 2)) && d (2 * (number / 2) + 1)) ≡ false → IsHeap blocks p d
  fill_stop some more is stale fails n low high = elim (true_or_false (in_run (number / 2) next n)) [
    | inr away ↦ others_next stale n low high away
    | inl part ↦ elim half [
      | inl two ↦
          (let here = is_in_run (number / 2) next (number / 2) (omega arith) (omega (arith, more)) in
          let children = both_in (number / 2) two.0 two.1 here in
          absurd (clash (d (2 * (number / 2)) && d (2 * (number / 2) + 1)) (λ i. (inside (2 * (number / 2)) children.0 ∙ is) i && (inside (2 * (number / 2) + 1) children.1 ∙ is) i) fails))
      | inr one ↦
          (let at : n ≡ number / 2 = parent_is n one.1 part in
          let out = not_in_run number size n (λ from to. omega (arith, at, from, least, some)) in
          let none = both_less (c (2 * n)) (c (2 * n + 1)) (d (2 * n)) (d (2 * n + 1)) (kept is (2 * n)) (kept is (2 * n + 1)) (ap (λ k. d (2 * k) && d (2 * k + 1)) at ∙ fails) in
          outside n out ∙ stale.others n low high out ∙ inner blocks p c n (parent_inner n part) ∙ none ∙ sym (inner blocks p d n (parent_inner n part) ∙ ap (λ k. d (2 * k) && d (2 * k + 1)) at ∙ fails))
    ]
  ]

  -- blocks were taken out, so each block of which the run has a half isn't whole
  none_whole : value ≡ false → (n : ℕ) → in_run (number / 2) next n ≡ true → should blocks p d n ≡ false
  none_whole is n part = inner blocks p d n (parent_inner n part) ∙ elim (child_in n part) [
    | inl left ↦ ap (λ b. b && d (2 * n + 1)) (inside (2 * n) left ∙ is)
    | inr right ↦ (ap (λ b. d (2 * n) && b) (inside (2 * n + 1) right ∙ is) ∙ and_none (d (2 * n)))
  ] where
    and_none : (b : Bool) → (b && false) ≡ false
    and_none true = refl
    and_none false = refl

  members_next : 0 < blocks → IsStale blocks p c number size value → AllMembers blocks c number size → d (number / 2) ≡ true → AllMembers blocks d (number / 2) next
  members_next some stale members member n low part = elim half [
    | inl two ↦
        (let children = both_in n two.0 two.1 part in
        let is = in_run_is (number / 2) next n part in
        let out = not_in_run number size n (λ from to. omega (arith, from, is.1, two.1, two.3)) in
        outside n out ∙ stale.others n low (omega (arith, parent_inner n part)) out ∙ inner blocks p c n (parent_inner n part)
        ∙ (λ i. members (2 * n) (omega (arith, low)) children.0 i && members (2 * n + 1) (omega (arith, low)) children.1 i))
    | inr one ↦ ap d (parent_is n one.1 part) ∙ member
  ]

  -- the search goes on where the next block is a member
  pub empty_on : 0 < blocks → value ≡ false → IsStale blocks p c number size value → AllMembers blocks c number size → d (number / 2) ≡ true → IsStale blocks p d (number / 2) next value × AllMembers blocks d (number / 2) next
  empty_on some is stale members member =
      (record { others = others_next stale; run = λ n low part. none_whole is n part ∙ sym is }, members_next some stale members member)

  -- and ends where it isn't
  pub empty_stop : 0 < blocks → 0 < next → value ≡ false → IsStale blocks p c number size value → AllMembers blocks c number size → d (number / 2) ≡ false → IsHeap blocks p d
  empty_stop some more is stale members fails n low high = elim (true_or_false (in_run (number / 2) next n)) [
    | inr away ↦ others_next stale n low high away
    | inl part ↦ elim half [
      | inl two ↦
          (let here = is_in_run (number / 2) next (number / 2) (omega arith) (omega (arith, more)) in
          let children = both_in (number / 2) two.0 two.1 here in
          let out = not_in_run number size (number / 2) (λ from to. omega (arith, from, least, some)) in
          absurd (clash (d (number / 2))
          (outside (number / 2) out ∙ stale.others (number / 2) two.2 (omega (arith, parent_inner (number / 2) here)) out ∙ inner blocks p c (number / 2) (parent_inner (number / 2) here)
          ∙ (λ i. members (2 * (number / 2)) (omega (arith, two.2)) children.0 i && members (2 * (number / 2) + 1) (omega (arith, two.2)) children.1 i)) fails))
      | inr one ↦ ap d (parent_is n one.1 part) ∙ fails ∙ sym (none_whole is n part)
    ]
  ]

-- where a change begins: at the eights of frames
module _ (blocks first order : ℕ) (low : 3 ≤ order) (high : order ≤ 9) (aligned : is_aligned order first ≡ true) where
  is_multiple : first / 2 ^ order * 2 ^ order ≡ first
  is_multiple = eqb-true (first / 2 ^ order * 2 ^ order) first aligned

  eights : 2 ^ order ≡ 8 * 2 ^ (order - 3)
  eights = by_order (λ o. 2 ^ o ≡ 8 * 2 ^ (o - 3)) (omega arith) (omega arith) (omega arith) (omega arith) (omega arith) (omega arith) (omega arith) order low high

  of_eight : first ≡ 8 * (first / 8)
  of_eight = by_order (λ o. first / 2 ^ o * 2 ^ o ≡ first → first ≡ 8 * (first / 8))
      (λ e. omega (arith, e)) (λ e. omega (arith, e)) (λ e. omega (arith, e)) (λ e. omega (arith, e)) (λ e. omega (arith, e)) (λ e. omega (arith, e)) (λ e. omega (arith, e)) order low high is_multiple

  pub at_first : first < 512 * blocks → IsAt blocks ((512 * blocks + first) / 8) (order - 3)
  at_first inside = record {
    aligned = by_order (λ o. first / 2 ^ o * 2 ^ o ≡ first → (512 * blocks + first) / 8 % 2 ^ (o - 3) ≡ 0)
        (λ e. omega (arith, e)) (λ e. omega (arith, e)) (λ e. omega (arith, e)) (λ e. omega (arith, e)) (λ e. omega (arith, e)) (λ e. omega (arith, e)) (λ e. omega (arith, e)) order low high is_multiple;
    within = by_order (λ o. first / 2 ^ o * 2 ^ o ≡ first → (512 * blocks + first) / 8 + 2 ^ (o - 3) ≤ 128 * blocks)
        (λ e. omega (arith, e, inside)) (λ e. omega (arith, e, inside)) (λ e. omega (arith, e, inside)) (λ e. omega (arith, e, inside)) (λ e. omega (arith, e, inside)) (λ e. omega (arith, e, inside)) (λ e. omega (arith, e, inside)) order low high is_multiple;
    low = λ h. by_order (λ o. blocks * 2 ^ (o - 3) ≤ (512 * blocks + first) / 8)
        (omega arith) (omega arith) (omega arith) (omega arith) (omega arith) (omega arith) (omega arith) order low high;
    few = omega (arith, high);
  }

  module _ (p r c : ℕ → Bool) (heap : IsHeap blocks p c) (outside : (k : ℕ) → in_run first (2 ^ order) k ≡ false → r k ≡ p k) where
    eight_of : (n : ℕ) → in_run ((512 * blocks + first) / 8) (2 ^ (order - 3)) n ≡ true → (64 * blocks ≤ n) × (first ≤ 8 * n - 512 * blocks) × (8 * n - 512 * blocks + 8 ≤ first + 2 ^ order)
    eight_of n part = let is = in_run_is ((512 * blocks + first) / 8) (2 ^ (order - 3)) n part in
        (omega (arith, is.0), omega (arith, is.0, of_eight), omega (arith, is.0, is.1, eights, of_eight))

    away : (n k : ℕ) → 64 * blocks ≤ n → in_run ((512 * blocks + first) / 8) (2 ^ (order - 3)) n ≡ false → 8 * n - 512 * blocks ≤ k → k < 8 * n - 512 * blocks + 8 → in_run first (2 ^ order) k ≡ false
    away n k most out l h = not_in_run first (2 ^ order) k (λ from to. clash (in_run ((512 * blocks + first) / 8) (2 ^ (order - 3)) n)
        (is_in_run ((512 * blocks + first) / 8) (2 ^ (order - 3)) n (omega (arith, most, l, h, from, to, of_eight, eights)) (omega (arith, most, l, h, from, to, of_eight, eights))) out)

    same_outside : (n : ℕ) → in_run ((512 * blocks + first) / 8) (2 ^ (order - 3)) n ≡ false → should blocks p c n ≡ should blocks r c n
    same_outside n out = elim (leb_tells (64 * blocks) n) [
      | inl most ↦ leaf blocks p c n most.1 ∙ all_same p r (8 * n - 512 * blocks) 8 (λ k l h. sym (outside k (away n k most.1 out l h))) ∙ sym (leaf blocks r c n most.1)
      | inr less ↦ inner blocks p c n less.1 ∙ sym (inner blocks r c n less.1)
    ]

    begins : (value : Bool) → ((eight : ℕ) → in_run first (2 ^ order) (8 * eight) ≡ true → all_from r (8 * eight) 8 ≡ value) → IsStale blocks r c ((512 * blocks + first) / 8) (2 ^ (order - 3)) value
    begins value each = record {
      others = λ n least most out. heap n least most ∙ same_outside n out;
      run = λ n least part.
          let at = eight_of n part in
          let eight : 8 * (n - 64 * blocks) ≡ 8 * n - 512 * blocks = omega (arith, at.0) in
          leaf blocks r c n at.0 ∙ ap (λ f. all_from r f 8) (sym eight) ∙ each (n - 64 * blocks) (is_in_run first (2 ^ order) (8 * (n - 64 * blocks)) (omega (arith, eight, at.1)) (omega (arith, eight, at.2)));
    }

    pub begins_filled : all_from r first (2 ^ order) ≡ true → IsStale blocks r c ((512 * blocks + first) / 8) (2 ^ (order - 3)) true
    begins_filled all = begins true (λ eight part. let is = in_run_is first (2 ^ order) (8 * eight) part in
        sym (all_members r (8 * eight) 8 (λ n inside. let at = in_run_is (8 * eight) 8 n inside in all_pass r first (2 ^ order) all n (is_in_run first (2 ^ order) n (omega (arith, at.0, is.0)) (omega (arith, at.1, is.1, eights, of_eight))))))

    pub begins_emptied : ((eight : ℕ) → in_run first (2 ^ order) (8 * eight) ≡ true → all_from r (8 * eight) 8 ≡ false) → IsStale blocks r c ((512 * blocks + first) / 8) (2 ^ (order - 3)) false
    begins_emptied = begins false

    pub begins_members : all_from p first (2 ^ order) ≡ true → first < 512 * blocks → AllMembers blocks c ((512 * blocks + first) / 8) (2 ^ (order - 3))
    begins_members all low n least part =
        let at = eight_of n part in
        let most = (at_first low).within in
        let is = in_run_is ((512 * blocks + first) / 8) (2 ^ (order - 3)) n part in
        heap n least (omega (arith, is.1, most)) ∙ leaf blocks p c n at.0
        ∙ sym (all_members p (8 * n - 512 * blocks) 8 (λ k here. let on = in_run_is (8 * n - 512 * blocks) 8 k here in all_pass p first (2 ^ order) all k (is_in_run first (2 ^ order) k (omega (arith, on.0, at.1)) (omega (arith, on.1, at.2)))))

    -- nothing changes where the eight frames weren't all in before, and aren't all in now
    pub unchanged : order ≡ 3 → all_from p first (2 ^ order) ≡ false → all_from r first (2 ^ order) ≡ false → IsHeap blocks r c
    unchanged is was now n least most = elim (true_or_false (in_run ((512 * blocks + first) / 8) (2 ^ (order - 3)) n)) [
      | inr out ↦ heap n least most ∙ same_outside n out
      | inl part ↦
          (let at = eight_of n part in
          let one : 2 ^ (order - 3) ≡ 1 = ap (λ o. 2 ^ (o - 3)) is in
          let eight : 2 ^ order ≡ 8 = ap (λ o. 2 ^ o) is in
          let place : 8 * n - 512 * blocks ≡ first = omega (arith, at.1, at.2, eight) in
          heap n least most ∙ leaf blocks p c n at.0 ∙ (λ i. all_from p (place i) (sym eight i)) ∙ was
          ∙ sym (leaf blocks r c n at.0 ∙ (λ i. all_from r (place i) (sym eight i)) ∙ now))
    ]

-- one frame, among the eight that it stands with
module _ (frame : ℕ) where
  pub eight_aligned : is_aligned 3 (frame / 8 * 8) ≡ true
  eight_aligned = eq-eqb (frame / 8 * 8 / 8 * 8) (frame / 8 * 8) (omega arith)

  among : in_run (frame / 8 * 8) 8 frame ≡ true
  among = is_in_run (frame / 8 * 8) 8 frame (omega arith) (omega arith)

  other_frame : (k : ℕ) → in_run (frame / 8 * 8) 8 k ≡ false → nat_eq k frame ≡ false
  other_frame k out = ne_eqb k frame (λ e. clash (in_run (frame / 8 * 8) 8 k) (ap (in_run (frame / 8 * 8) 8) e ∙ among) out)

  all_more : (p r : ℕ → Bool) → ((k : ℕ) → p k ≡ true → r k ≡ true) → all_from r (frame / 8 * 8) 8 ≡ false → all_from p (frame / 8 * 8) 8 ≡ false
  all_more p r more fails = same_by (all_from p (frame / 8 * 8) 8) false
      (λ e. absurd (clash (all_from r (frame / 8 * 8) 8) (sym (all_members r (frame / 8 * 8) 8 (λ k inside. more k (all_pass p (frame / 8 * 8) 8 e k inside)))) fails))
      (λ e. cc)

  module _ (p r : ℕ → Bool) (each : (k : ℕ) → r k ≡ (nat_eq k frame || p k)) where
    pub came : (k : ℕ) → in_run (frame / 8 * 8) 8 k ≡ false → r k ≡ p k
    came k out = each k ∙ ap (λ b. b || p k) (other_frame k out)

    pub came_fills : all_from r (frame / 8 * 8) 8 ≡ true → Fills p r (frame / 8 * 8) 8
    came_fills all = record { outside = came; all = all }

    pub came_few : all_from r (frame / 8 * 8) 8 ≡ false → all_from p (frame / 8 * 8) 8 ≡ false
    came_few = all_more p r (λ k e. each k ∙ or_right (nat_eq k frame) (p k) e)

  module _ (p r : ℕ → Bool) (each : (k : ℕ) → r k ≡ (not (nat_eq k frame) && p k)) where
    pub went : (k : ℕ) → in_run (frame / 8 * 8) 8 k ≡ false → r k ≡ p k
    went k out = each k ∙ ap (λ b. not b && p k) (other_frame k out)

    gone : r frame ≡ false
    gone = each frame ∙ ap (λ b. not b && p frame) (eq-eqb frame frame refl)

    pub went_empties : all_from p (frame / 8 * 8) 8 ≡ true → Empties p r (frame / 8 * 8) 8
    went_empties all = record {
      outside = went;
      all = all;
      none = λ eight inside. let is = in_run_is (frame / 8 * 8) 8 (8 * eight) inside in let at : 8 * eight ≡ frame / 8 * 8 = omega (arith, is.0, is.1) in
          same_by (all_from r (8 * eight) 8) false (λ e. absurd (clash (r frame) (all_pass r (8 * eight) 8 e frame (ap (λ f. in_run f 8 frame) at ∙ among)) gone)) (λ e. cc);
    }

    pub went_few : all_from p (frame / 8 * 8) 8 ≡ false → all_from r (frame / 8 * 8) 8 ≡ false
    went_few = all_more r p (λ k e. (both (not (nat_eq k frame)) (p k) (sym (each k) ∙ e)).1)

-- a run, none of which was in before, or all of which were
module _ (p r : ℕ → Bool) (first order : ℕ) where
  pub run_came : ((k : ℕ) → r k ≡ (in_run first (2 ^ order) k || p k)) → Fills p r first (2 ^ order)
  run_came each = record {
    outside = λ k out. each k ∙ ap (λ b. b || p k) out;
    all = sym (all_members r first (2 ^ order) (λ k inside. each k ∙ ap (λ b. b || p k) inside));
  }

  pub run_went : ((k : ℕ) → in_run first (2 ^ order) k ≡ true → p k ≡ true) → ((k : ℕ) → r k ≡ (not (in_run first (2 ^ order) k) && p k)) → Empties p r first (2 ^ order)
  run_went all each = record {
    outside = λ k out. each k ∙ ap (λ b. not b && p k) out;
    all = sym (all_members p first (2 ^ order) all);
    none = λ eight inside. same_by (all_from r (8 * eight) 8) false
        (λ e. absurd (clash (r (8 * eight)) (all_pass r (8 * eight) 8 e (8 * eight) (is_in_run (8 * eight) 8 (8 * eight) (omega arith) (omega arith))) (each (8 * eight) ∙ ap (λ b. not b && p (8 * eight)) inside))) (λ e. cc);
  }

-- a call that tests each number of a run tests the run
pub tests_run : (p : ℕ → Bool) (first count : ℕ) (b : Bool) → (b ≡ true → (n : ℕ) → in_run first count n ≡ true → p n ≡ true) → (((n : ℕ) → in_run first count n ≡ true → p n ≡ true) → b ≡ true) → all_from p first count ≡ b
tests_run p first count b to from = sym (same_by b (all_from p first count) (λ e. sym (all_members p first count (to e))) (λ e. from (all_pass p first count e)))
