-- Maps after one more entry or one fewer, and sets after one more number or one fewer.
use Rattle.std.proofs.Common.{◌≡◌, ◌≢◌, ℕ, true, false, inl, inr, sym, ◌∙◌, arith, Some, None, nat_eq, if◌then◌else◌}
use Rattle.std.proofs.lemmas.Bool.{cond-true, cond-false, eq-eqb, ne_eqb}
use Rattle.std.specs.Ordering.{nat_cmp}
use Rattle.std.specs.Cmp.{nat_cmp_total, unsigned_tied}
use Rattle.std.specs.FinMap.{FinMap, get, insert, remove, get-insert, get-remove}
use Rattle.std.specs.FinSet as set
use Rattle.std.proofs.lemmas.Bool.Decides.{eqb_tells, nat_tests}

module _ {X : Type 0} where
  pub get_insert_same : (m : FinMap nat_cmp X) (k q : ℕ) (v : X) → q ≡ k → get (insert m k v) q ≡ Some v
  get_insert_same m k q v e = grind (arith, nat_tests, unsigned_tied q k, get-insert nat_cmp_total m k v q)

  pub get_insert_other : (m : FinMap nat_cmp X) (k q : ℕ) (v : X) → q ≢ k → get (insert m k v) q ≡ get m q
  get_insert_other m k q v ne = grind (arith, nat_tests, unsigned_tied q k, get-insert nat_cmp_total m k v q)

  pub get_remove_same : (m : FinMap nat_cmp X) (k q : ℕ) → q ≡ k → get (remove m k) q ≡ None
  get_remove_same m k q e = grind (arith, nat_tests, unsigned_tied q k, get-remove nat_cmp_total m k q)

  pub get_remove_other : (m : FinMap nat_cmp X) (k q : ℕ) → q ≢ k → get (remove m k) q ≡ get m q
  get_remove_other m k q ne = grind (arith, nat_tests, unsigned_tied q k, get-remove nat_cmp_total m k q)

pub contains_insert_same : (s : set.FinSet nat_cmp) (k q : ℕ) → q ≡ k → set.contains (set.insert s k) q ≡ true
contains_insert_same s k q e = grind (arith, nat_tests, unsigned_tied q k, set.contains-insert nat_cmp_total s k q)

pub contains_insert_other : (s : set.FinSet nat_cmp) (k q : ℕ) → q ≢ k → set.contains (set.insert s k) q ≡ set.contains s q
contains_insert_other s k q ne = grind (arith, nat_tests, unsigned_tied q k, set.contains-insert nat_cmp_total s k q)

pub contains_remove_same : (s : set.FinSet nat_cmp) (k q : ℕ) → q ≡ k → set.contains (set.remove s k) q ≡ false
contains_remove_same s k q e = grind (arith, nat_tests, unsigned_tied q k, set.contains-remove nat_cmp_total s k q)

pub contains_remove_other : (s : set.FinSet nat_cmp) (k q : ℕ) → q ≢ k → set.contains (set.remove s k) q ≡ set.contains s q
contains_remove_other s k q ne = grind (arith, nat_tests, unsigned_tied q k, set.contains-remove nat_cmp_total s k q)

-- what is written at one number, and stays at each other one, agrees with what is told so
pub written_at : {A : Type 0} (now was told : ℕ → A) (k : ℕ) (x : A) → ((q : ℕ) → q ≡ k → now q ≡ x) → ((q : ℕ) → q ≢ k → now q ≡ was q) → ((q : ℕ) → was q ≡ told q) → (q : ℕ) → now q ≡ (if nat_eq k q then x else told q)
written_at now was told k x here there before q = elim (eqb_tells q k) [
  | inl same ↦ here q same.1 ∙ sym (cond-true (nat_eq k q) x (told q) (eq-eqb k q (sym same.1)))
  | inr other ↦ there q other.1 ∙ before q ∙ sym (cond-false (nat_eq k q) x (told q) (ne_eqb k q (λ e. other.1 (sym e))))
]
