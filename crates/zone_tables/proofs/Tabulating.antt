-- Maps and sets that are read off lists.
use Rattle.std.proofs.Common.{◌≡◌, ◌≢◌, ℕ, zero, suc, ◌<◌, ◌≤◌, Bool, true, false, inl, inr, refl, sym, ap, ◌∙◌, arith}
use Rattle.std.specs.Prelude.{Option, Some, None, if◌then◌else◌}
use Rattle.std.specs.Ordering.{nat_cmp}
use Rattle.std.specs.Cmp.{nat_cmp_total}
use Rattle.std.specs.FinMap.{FinMap, empty, get, insert, remove, get-empty, same_map, nat_cmp-IsAntisymmetric}
use Rattle.std.specs.FinSet as set
use Rattle.std.proofs.lemmas.Bool.Decides.{eqb_tells, leb_tells}
use Rattle.scan_core.specs.NumberSet.{gathered}
use Rattle.zone_tables.specs.Tabulated.{with_some, tabulated}
use Rattle.state_core.proofs.Entries.{get_insert_same, get_insert_other, get_remove_same, get_remove_other, contains_insert_same, contains_insert_other, contains_remove_same, contains_remove_other}
use Rattle.scan_core.proofs.Numbering.{gathered_past, gathered_in}

module _ {X : Type 0} where
  put_same : (m : FinMap nat_cmp X) (k : ℕ) (o : Option X) → get m k ≡ None → get (with_some m k o) k ≡ o
  put_same m k None e = e
  put_same m k (Some x) e = get_insert_same m k k x refl

  put_other : (m : FinMap nat_cmp X) (k q : ℕ) (o : Option X) → q ≢ k → get (with_some m k o) q ≡ get m q
  put_other m k q None ne = refl
  put_other m k q (Some x) ne = get_insert_other m k q x ne

  tabulated_past : (f : ℕ → Option X) (n q : ℕ) → n ≤ q → get (tabulated f n) q ≡ None
  tabulated_past f zero q h = get-empty nat_cmp q
  tabulated_past f (suc n) q h = let ne : q ≢ n = omega arith in put_other (tabulated f n) n q (f n) ne ∙ tabulated_past f n q (omega arith)

  pub get_tabulated : (f : ℕ → Option X) (n q : ℕ) → q < n → get (tabulated f n) q ≡ f q
  get_tabulated f zero q h = absurd (omega arith)
  get_tabulated f (suc n) q h =
      elim (eqb_tells q n) [
        | inl is ↦ ap (get (with_some (tabulated f n) n (f n))) is.1 ∙ put_same (tabulated f n) n (f n) (tabulated_past f n n (omega arith)) ∙ ap f (sym is.1)
        | inr isnt ↦ put_other (tabulated f n) n q (f n) isnt.1 ∙ get_tabulated f n q (omega arith)
      ]

  -- where f has nothing from n on, the map of n numbers has all of f
  pub get_tabulated_all : (f : ℕ → Option X) (n q : ℕ) → ((k : ℕ) → n ≤ k → f k ≡ None) → get (tabulated f n) q ≡ f q
  get_tabulated_all f n q none =
      elim (leb_tells n q) [
        | inl past ↦ tabulated_past f n q past.1 ∙ sym (none q past.1)
        | inr within ↦ get_tabulated f n q within.1
      ]

  -- a map where a key got this value, or none
  abbrev pub put : FinMap nat_cmp X → ℕ → Option X → FinMap nat_cmp X
  put m k None = remove m k
  put m k (Some x) = insert m k x

  get_put_same : (m : FinMap nat_cmp X) (k q : ℕ) (o : Option X) → q ≡ k → get (put m k o) q ≡ o
  get_put_same m k q None is = get_remove_same m k q is
  get_put_same m k q (Some x) is = get_insert_same m k q x is

  get_put_other : (m : FinMap nat_cmp X) (k q : ℕ) (o : Option X) → q ≢ k → get (put m k o) q ≡ get m q
  get_put_other m k q None ne = get_remove_other m k q ne
  get_put_other m k q (Some x) ne = get_insert_other m k q x ne

  -- the map after one entry came, changed or went
  pub tabulated_put : (f g : ℕ → Option X) (n k : ℕ) (o : Option X) → ((q : ℕ) → n ≤ q → f q ≡ None) → ((q : ℕ) → n ≤ q → g q ≡ None) → g k ≡ o → ((q : ℕ) → q ≢ k → g q ≡ f q) → tabulated g n ≡ put (tabulated f n) k o
  tabulated_put f g n k o no_f no_g at others =
      same_map nat_cmp_total nat_cmp-IsAntisymmetric _ _ (λ q.
      elim (eqb_tells q k) [
        | inl is ↦ get_tabulated_all g n q no_g ∙ ap g is.1 ∙ at ∙ sym (get_put_same (tabulated f n) k q o is.1)
        | inr isnt ↦ get_tabulated_all g n q no_g ∙ others q isnt.1 ∙ sym (get_tabulated_all f n q no_f) ∙ sym (get_put_other (tabulated f n) k q o isnt.1)
      ])

  pub tabulated_same : (f g : ℕ → Option X) (n : ℕ) → ((q : ℕ) → f q ≡ g q) → tabulated f n ≡ tabulated g n
  tabulated_same f g n same = λ i. tabulated (λ q. same q i) n

  pub tabulated_none : (f : ℕ → Option X) (n : ℕ) → ((q : ℕ) → f q ≡ None) → tabulated f n ≡ empty
  tabulated_none f zero none = refl
  tabulated_none f (suc n) none = ap (with_some (tabulated f n) n) (none n) ∙ tabulated_none f n none

pub gathered_none : (p : ℕ → Bool) (n : ℕ) → ((k : ℕ) → p k ≡ false) → gathered p n ≡ set.empty
gathered_none p zero fails = refl
gathered_none p (suc n) fails = ap (λ b. if b then set.insert (gathered p n) n else gathered p n) (fails n) ∙ gathered_none p n fails

pub gathered_same : (p r : ℕ → Bool) (n : ℕ) → ((k : ℕ) → p k ≡ r k) → gathered p n ≡ gathered r n
gathered_same p r n same = λ i. gathered (λ k. same k i) n

-- where no number from n on passes, the set has exactly the numbers that pass
pub contains_gathered : (p : ℕ → Bool) (n q : ℕ) → ((k : ℕ) → n ≤ k → p k ≡ false) → set.contains (gathered p n) q ≡ p q
contains_gathered p n q none =
    elim (leb_tells n q) [
      | inl past ↦ gathered_past p n q past.1 ∙ sym (none q past.1)
      | inr within ↦ gathered_in p n q within.1
    ]

-- the set after one number came or went
pub gathered_put : (p r : ℕ → Bool) (n k : ℕ) (b : Bool) → ((q : ℕ) → n ≤ q → p q ≡ false) → ((q : ℕ) → n ≤ q → r q ≡ false) → r k ≡ b → ((q : ℕ) → q ≢ k → r q ≡ p q) → gathered r n ≡ (if b then set.insert (gathered p n) k else set.remove (gathered p n) k)
gathered_put p r n k b past_p past_r at others =
    set.same_set nat_cmp_total nat_cmp-IsAntisymmetric _ _ (λ q.
    elim (eqb_tells q k) [
      | inl is ↦ contains_gathered r n q past_r ∙ ap r is.1 ∙ at ∙ here b q is.1
      | inr isnt ↦ contains_gathered r n q past_r ∙ others q isnt.1 ∙ sym (contains_gathered p n q past_p) ∙ there b q isnt.1
    ]) where
      here : (b : Bool) (q : ℕ) → q ≡ k → b ≡ set.contains (if b then set.insert (gathered p n) k else set.remove (gathered p n) k) q
      here true q is = sym (contains_insert_same (gathered p n) k q is)
      here false q is = sym (contains_remove_same (gathered p n) k q is)

      there : (b : Bool) (q : ℕ) → q ≢ k → set.contains (gathered p n) q ≡ set.contains (if b then set.insert (gathered p n) k else set.remove (gathered p n) k) q
      there true q ne = sym (contains_insert_other (gathered p n) k q ne)
      there false q ne = sym (contains_remove_other (gathered p n) k q ne)
