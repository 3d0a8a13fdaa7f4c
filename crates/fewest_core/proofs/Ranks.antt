-- The ranks of those runs that pass: no two have the same one, and each number below their count is the rank of one.
use Rattle.std.proofs.Common.{◌≡◌, ◌≢◌, ℕ, zero, suc, ◌+◌, ◌<◌, ◌≤◌, Bool, true, false, not, ◌&&◌, cond, take, sum, ◌⊎◌, inl, inr, refl, sym, ap, ◌∙◌, arith}
use Rattle.std.specs.Prelude.{nat_eq, nat_lt}
use Rattle.std.proofs.lemmas.Bool.{and_from, and_left, and_parts, and_right, both_ways, cases_Bool, eq-eqb, eqb-true, false_from_ne_true, lt-ltb, ltb-true, not-false, not-true, or_cases, or_left, or_right}
use Rattle.std.proofs.lemmas.Bool.Decides.{eqb_tells, leb_tells}
use Rattle.frame_core.proofs.Searches.{count_none, count_same, some_none}
use Rattle.frame_core.specs.Below.{count_below, some_below}
use Rattle.fewest_core.specs.FewestMoves.{cost_below, costs_below}
use Rattle.fewest_core.specs.Reservation.{goes_before}
use Rattle.fewest_core.proofs.Costs.{cost_of_same, picked_least}
use Rattle.fewest_core.proofs.Counts.{count_but_one, count_strict, count_within}

module _ (cost_at : ℕ → ℕ) where
  abbrev before : ℕ → ℕ → Bool
  before = goes_before cost_at

  abbrev IsBefore : ℕ → ℕ → Type 0
  IsBefore a b = (cost_at a < cost_at b) ⊎ ((cost_at a ≡ cost_at b) × (a < b))

  told : (a b : ℕ) → before a b ≡ true → IsBefore a b
  told a b e = elim (or_cases (nat_lt (cost_at a) (cost_at b)) _ e) [
    | inl cheaper ↦ inl (ltb-true _ _ cheaper)
    | inr level ↦ (let parts = and_parts (nat_eq (cost_at a) (cost_at b)) _ level in inr (eqb-true _ _ parts.0, ltb-true _ _ parts.1))
  ]

  pub cheaper_first : (a b : ℕ) → cost_at a < cost_at b → before a b ≡ true
  cheaper_first a b less = or_left _ _ (lt-ltb _ _ less)

  pub lower_first : (a b : ℕ) → cost_at a ≡ cost_at b → a < b → before a b ≡ true
  lower_first a b level low = or_right _ _ (and_from _ _ (eq-eqb _ _ level) (lt-ltb _ _ low))

  tell : (a b : ℕ) → IsBefore a b → before a b ≡ true
  tell a b (inl less) = cheaper_first a b less
  tell a b (inr level) = lower_first a b level.0 level.1

  pub no_dearer : (a b : ℕ) → before a b ≡ true → cost_at a ≤ cost_at b
  no_dearer a b e = elim (told a b e) [ inl less ↦ omega (arith, less) | inr level ↦ omega (arith, level.0) ]

  joined : (a b c : ℕ) → IsBefore a b → IsBefore b c → IsBefore a c
  joined a b c (inl x) (inl y) = inl (omega (arith, x, y))
  joined a b c (inl x) (inr y) = inl (omega (arith, x, y.0))
  joined a b c (inr x) (inl y) = inl (omega (arith, x.0, y))
  joined a b c (inr x) (inr y) = inr (x.0 ∙ y.0, omega (arith, x.1, y.1))

  pub before_trans : (a b c : ℕ) → before a b ≡ true → before b c ≡ true → before a c ≡ true
  before_trans a b c x y = tell a c (joined a b c (told a b x) (told b c y))

  pub not_itself : (a : ℕ) → before a a ≡ false
  not_itself a = false_from_ne_true _ (λ e. elim (told a a e) [ inl less ↦ absurd (omega (arith, less)) | inr level ↦ absurd (omega (arith, level.1)) ])

  pub either : (a b : ℕ) → a ≢ b → (before a b ≡ true) ⊎ (before b a ≡ true)
  either a b apart = elim (leb_tells (cost_at a) (cost_at b)) [
    | inl up ↦ elim (leb_tells (cost_at b) (cost_at a)) [
      | inl down ↦ elim (leb_tells a b) [
        | inl low ↦ inl (lower_first a b (omega (arith, up.1, down.1)) (omega (arith, low.1, apart)))
        | inr high ↦ inr (lower_first b a (omega (arith, up.1, down.1)) high.1)
      ]
      | inr less ↦ inl (cheaper_first a b less.1)
    ]
    | inr less ↦ inr (cheaper_first b a less.1)
  ]

  -- among the first n numbers that pass there is one which no other goes before
  first_of : (p : ℕ → Bool) (n : ℕ) → some_below p n ≡ true → (m : ℕ) × (m < n) × (p m ≡ true) × ((k : ℕ) → k < n → p k ≡ true → before k m ≡ false)
  first_of p zero some = cc
  first_of p (suc n) some = elim (cases_Bool (p n)) [
    | inr out ↦
        (let rest = first_of p n (elim (or_cases (p n) _ some) [ inl is ↦ absurd (both_ways _ out is) | inr below ↦ below ]) in (
          rest.0,
          omega (arith, rest.1),
          rest.2,
          λ k h is. elim (eqb_tells k n) [
            | inl at ↦ absurd (both_ways _ out (ap p (sym at.1) ∙ is))
            | inr other ↦ rest.3 k (omega (arith, h, other.1)) is
          ],
        ))
    | inl is ↦ elim (cases_Bool (some_below p n)) [
      | inr none ↦ (
        n,
        omega arith,
        is,
        λ k h q. elim (eqb_tells k n) [
          | inl at ↦ ap (λ (m : ℕ). before m n) at.1 ∙ not_itself n
          | inr other ↦ absurd (both_ways _ (some_none p n none k (omega (arith, h, other.1))) q)
        ],
      )
      | inl below ↦
          (let rest = first_of p n below in elim (cases_Bool (before n rest.0)) [
            | inl ahead ↦ (
              n,
              omega arith,
              is,
              λ k h q. false_from_ne_true _ (λ e. elim (eqb_tells k n) [
                | inl at ↦ both_ways _ (not_itself n) (ap (λ (m : ℕ). before m n) (sym at.1) ∙ e)
                | inr other ↦ both_ways _ (rest.3 k (omega (arith, h, other.1)) q) (before_trans k n rest.0 e ahead)
              ]),
            )
            | inr late ↦ (
              rest.0,
              omega (arith, rest.1),
              rest.2,
              λ k h q. elim (eqb_tells k n) [
                | inl at ↦ ap (λ (m : ℕ). before m rest.0) at.1 ∙ late
                | inr other ↦ rest.3 k (omega (arith, h, other.1)) q
              ],
            )
          ])
    ]
  ]

both_same : (a b : Bool) → (a ≡ true → b ≡ true) → (b ≡ true → a ≡ true) → a ≡ b
both_same true b up down = sym (up refl)
both_same false true up down = down refl
both_same false false up down = refl

-- with one number more, it costs as much more as this one
cost_bump : (p q : ℕ → Bool) (cost_at : ℕ → ℕ) (n r : ℕ) → r < n → p r ≡ false → q r ≡ true → ((k : ℕ) → k < n → k ≢ r → p k ≡ q k) → cost_below q cost_at n ≡ cost_below p cost_at n + cost_at r
cost_bump p q cost_at zero r h out in_it same = absurd (omega (arith, h))
cost_bump p q cost_at (suc n) r h out in_it same = elim (eqb_tells r n) [
  | inl at ↦
      (let a : cond (p n) (cost_at n) 0 ≡ 0 = ap (λ (b : Bool). cond b (cost_at n) 0) (ap p (sym at.1) ∙ out) in
      let b : cond (q n) (cost_at n) 0 ≡ cost_at n = ap (λ (b : Bool). cond b (cost_at n) 0) (ap q (sym at.1) ∙ in_it) in
      omega (arith, a, b, ap cost_at at.1, cost_of_same p cost_at p q n (λ k l. let apart : k ≢ r = omega (arith, l, at.1) in same k (omega (arith, l)) apart)))
  | inr other ↦
      (let apart : n ≢ r = λ e. other.1 (sym e) in
      omega (
        arith,
        ap (λ (b : Bool). cond b (cost_at n) 0) (same n (omega arith) apart),
        cost_bump p q cost_at n r (omega (arith, h, other.1)) out in_it (λ k l. same k (omega (arith, l))),
      ))
]

module _ (passes : ℕ → Bool) (cost_at : ℕ → ℕ) (runs : ℕ) where
  abbrev pub rank_by : ℕ → ℕ
  rank_by run = count_below (λ other. passes other && goes_before cost_at other run) runs

  abbrev pub picks : ℕ → ℕ → Bool
  picks n run = passes run && nat_lt (rank_by run) n

  pub rank_grows : (a b : ℕ) → a < runs → passes a ≡ true → goes_before cost_at a b ≡ true → rank_by a + 1 ≤ rank_by b
  rank_grows a b within is first = count_strict (λ o. passes o && goes_before cost_at o a) (λ o. passes o && goes_before cost_at o b) runs a within
      (and_right (passes a) _ (not_itself cost_at a)) (and_from (passes a) _ is first)
      (λ k h e. let parts = and_parts (passes k) _ e in and_from (passes k) _ parts.0 (before_trans cost_at k a b parts.1 first))

  pub rank_within : (a : ℕ) → a < runs → passes a ≡ true → rank_by a + 1 ≤ count_below passes runs
  rank_within a within is = count_strict (λ o. passes o && goes_before cost_at o a) passes runs a within
      (and_right (passes a) _ (not_itself cost_at a)) is (λ k h e. (and_parts (passes k) _ e).0)

  pub rank_alone : (a b : ℕ) → a < runs → b < runs → passes a ≡ true → passes b ≡ true → rank_by a ≡ rank_by b → a ≡ b
  rank_alone a b low high p q same = elim (eqb_tells a b) [
    | inl at ↦ at.1
    | inr apart ↦ elim (either cost_at a b apart.1) [
      | inl first ↦ absurd (omega (arith, rank_grows a b low p first, same))
      | inr first ↦ absurd (omega (arith, rank_grows b a high q first, same))
    ]
  ]

  pub picks_from : (n run : ℕ) → passes run ≡ true → rank_by run < n → picks n run ≡ true
  picks_from n run is low = and_from (passes run) _ is (lt-ltb _ _ low)

  pub picks_parts : (n run : ℕ) → picks n run ≡ true → (passes run ≡ true) × (rank_by run < n)
  picks_parts n run e = let parts = and_parts (passes run) _ e in (parts.0, ltb-true _ _ parts.1)

  -- a run that goes after one of rank n isn't among the first n + 1, and each other one is
  pub after_is : (n a b : ℕ) → a < runs → passes a ≡ true → rank_by a ≡ n → passes b ≡ true → goes_before cost_at a b ≡ true → picks (n + 1) b ≡ false
  after_is n a b within p at q first = false_from_ne_true _ (λ e. absurd (omega (arith, (picks_parts (n + 1) b e).1, rank_grows a b within p first, at)))

  pub not_after : (n a b : ℕ) → a < runs → b < runs → passes a ≡ true → rank_by a ≡ n → passes b ≡ true → goes_before cost_at a b ≡ false → picks (n + 1) b ≡ true
  not_after n a b within high p at q none = picks_from (n + 1) b q (elim (eqb_tells a b) [
    | inl same ↦ omega (arith, at, ap rank_by same.1)
    | inr apart ↦ elim (either cost_at a b apart.1) [
      | inl first ↦ absurd (both_ways _ none first)
      | inr first ↦ omega (arith, rank_grows b a high q first, at)
    ]
  ])

  -- of the runs that aren't among the first n, the first has rank n
  pub next_rank : (n r : ℕ) → count_below (picks n) runs ≡ n → r < runs → passes r ≡ true → picks n r ≡ false → ((k : ℕ) → k < runs → passes k ≡ true → picks n k ≡ false → goes_before cost_at k r ≡ false) → rank_by r ≡ n
  next_rank n r counted within is out first = count_same (λ o. passes o && goes_before cost_at o r) (picks n) runs (λ o h. same o h (passes o) refl) ∙ counted where
    precedes : (o : ℕ) → o < runs → passes o ≡ true → (b : Bool) → picks n o ≡ b → goes_before cost_at o r ≡ b
    precedes o h q true e = elim (either cost_at o r (λ at. both_ways _ (ap (picks n) at ∙ out) e)) [
      | inl ahead ↦ ahead
      | inr ahead ↦ absurd (both_ways _ out (picks_from n r is (omega (arith, rank_grows r o within is ahead, (picks_parts n o e).1))))
    ]
    precedes o h q false e = first o h q e

    same : (o : ℕ) → o < runs → (b : Bool) → passes o ≡ b → (passes o && goes_before cost_at o r) ≡ picks n o
    same o h true q = ap (λ (b : Bool). b && goes_before cost_at o r) q ∙ precedes o h q (picks n o) refl
    same o h false q = and_left (passes o) _ q ∙ sym (and_left (passes o) _ q)

  -- one run more is picked than before, and is paid for
  module _ (n r : ℕ) (within : r < runs) (is : passes r ≡ true) (at : rank_by r ≡ n) where
    r_out : picks n r ≡ false
    r_out = false_from_ne_true _ (λ e. absurd (omega (arith, (picks_parts n r e).1, at)))

    r_in : picks (n + 1) r ≡ true
    r_in = picks_from (n + 1) r is (omega (arith, at))

    picks_up : (k : ℕ) → picks n k ≡ true → picks (n + 1) k ≡ true
    picks_up k e = let parts = picks_parts n k e in picks_from (n + 1) k parts.0 (omega (arith, parts.1))

    picks_down : (k : ℕ) → k < runs → k ≢ r → picks (n + 1) k ≡ true → picks n k ≡ true
    picks_down k h apart e =
        let parts = picks_parts (n + 1) k e in
        let other : rank_by k ≢ n = λ same. apart (rank_alone k r h within parts.0 is (same ∙ sym at)) in
        picks_from n k parts.0 (omega (arith, parts.1, other))

    pub one_more_picked : count_below (picks (n + 1)) runs ≡ count_below (picks n) runs + 1
    one_more_picked = omega (
      arith,
      count_strict (picks n) (picks (n + 1)) runs r within r_out r_in (λ k h e. picks_up k e),
      count_but_one (picks (n + 1)) (picks n) runs r picks_down,
    )

  -- each number below the count of the runs that pass is the rank of one
  pub of_rank : (n : ℕ) → count_below (picks n) runs ≡ n → n < count_below passes runs → (r : ℕ) × (r < runs) × (passes r ≡ true) × (rank_by r ≡ n)
  of_rank n counted more = elim (cases_Bool (some_below left runs)) [
    | inl some ↦
        (let found = first_of cost_at left runs some in
        let parts = and_parts (passes found.0) _ found.2 in
        (found.0, found.1, parts.0, next_rank n found.0 counted found.1 parts.0 (not-true _ parts.1) (λ k h q out. found.3 k h (and_from (passes k) _ q (ap not out)))))
    | inr none ↦ absurd (omega (arith, more, counted, count_within passes (picks n) runs (λ k h q. not-false (picks n k) (and_rest (passes k) _ q (some_none left runs none k h)))))
  ] where
    left : ℕ → Bool
    left k = passes k && not (picks n k)

    and_rest : (a b : Bool) → a ≡ true → (a && b) ≡ false → b ≡ false
    and_rest a b is none = ap (λ (c : Bool). c && b) (sym is) ∙ none

  pub all_picked : (n : ℕ) → n ≤ count_below passes runs → count_below (picks n) runs ≡ n
  all_picked zero within = count_none (picks 0) runs (λ k h. false_from_ne_true _ (λ e. absurd (omega (arith, (picks_parts 0 k e).1))))
  all_picked (suc n) within =
      let before = all_picked n (omega (arith, within)) in
      let r = of_rank n before (omega (arith, within)) in
      let next : suc n ≡ n + 1 = omega arith in
      ap (λ (m : ℕ). count_below (picks m) runs) next ∙ omega (arith, one_more_picked n r.0 r.1 r.2 r.3, before)

  -- those that are picked cost the least
  pub picked_cost : (n : ℕ) → n ≤ count_below passes runs → cost_below (picks n) cost_at runs ≡ sum (take n (costs_below passes cost_at runs))
  picked_cost n within = by_most n within ∙ ap (λ (m : ℕ). sum (take m (costs_below passes cost_at runs))) (all_picked n within) where
    by_most : (n : ℕ) → n ≤ count_below passes runs → cost_below (picks n) cost_at runs ≡ sum (take (count_below (picks n) runs) (costs_below passes cost_at runs))
    by_most zero within = picked_least passes cost_at (picks 0) 0 runs (λ k e. absurd (omega (arith, (picks_parts 0 k e).1))) (λ k h out is. omega arith)
    by_most (suc n) within =
        let r = of_rank n (all_picked n (omega (arith, within))) (omega (arith, within)) in
        picked_least passes cost_at (picks (suc n)) (cost_at r.0) runs
        (λ k e. (let parts = picks_parts (suc n) k e in (
          parts.0,
          elim (leb_tells (cost_at k) (cost_at r.0)) [
            | inl low ↦ low.1
            | inr high ↦ absurd (omega (arith, rank_grows r.0 k r.1 r.2 (cheaper_first cost_at r.0 k high.1), parts.1, r.3))
          ],
        )))
        (λ k h out is. elim (leb_tells (cost_at r.0) (cost_at k)) [
          | inl high ↦ high.1
          | inr low ↦ absurd (both_ways _ out (picks_from (suc n) k is (omega (arith, rank_grows k r.0 h is (cheaper_first cost_at k r.0 low.1), r.3))))
        ])

  -- the run of rank n is what n + 1 cost more than n
  pub least_more : (n r : ℕ) → r < runs → passes r ≡ true → rank_by r ≡ n → sum (take (n + 1) (costs_below passes cost_at runs)) ≡ sum (take n (costs_below passes cost_at runs)) + cost_at r
  least_more n r within is at =
      let low : n + 1 ≤ count_below passes runs = omega (arith, rank_within r within is, at) in
      omega (
        arith,
        picked_cost (n + 1) low,
        picked_cost n (omega (arith, low)),
        cost_bump (picks n) (picks (n + 1)) cost_at runs r within (r_out n r within is at) (r_in n r within is at) (λ k h apart. both_same (picks n k) (picks (n + 1) k) (picks_up n r within is at k) (picks_down n r within is at k h apart)),
      )
