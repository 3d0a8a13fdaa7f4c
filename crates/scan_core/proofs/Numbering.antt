-- The members of sets of numbers.
use Rattle.std.proofs.Common.{◌≡◌, ◌≢◌, ℕ, zero, suc, ◌<◌, ◌≤◌, Bool, true, false, not, inl, inr, refl, sym, ap, ◌∙◌, eq-eqb, arith}
use Rattle.std.specs.Prelude.{nat_eq, ◌&&◌, ◌||◌, if◌then◌else◌}
use Rattle.std.specs.Ordering.{nat_cmp}
use Rattle.std.specs.Cmp.{nat_cmp_total, unsigned_tied}
use Rattle.std.specs.FinSet as set
use Rattle.std.proofs.lemmas.Bool.{ne_eqb}
use Rattle.std.proofs.lemmas.Bool.Decides.{eqb_tells}
use Rattle.scan_core.specs.NumberSet.{gathered}

pub member_insert : (s : set.FinSet nat_cmp) (k q : ℕ) → set.contains (set.insert s k) q ≡ (nat_eq q k || set.contains s q)
member_insert s k q = set.contains-insert nat_cmp_total s k q ∙ ap (λ b. b || set.contains s q) (unsigned_tied q k)

pub member_remove : (s : set.FinSet nat_cmp) (k q : ℕ) → set.contains (set.remove s k) q ≡ (not (nat_eq q k) && set.contains s q)
member_remove s k q = set.contains-remove nat_cmp_total s k q ∙ ap (λ b. not b && set.contains s q) (unsigned_tied q k)

put_same : (s : set.FinSet nat_cmp) (n : ℕ) (b : Bool) → set.contains s n ≡ false → set.contains (if b then set.insert s n else s) n ≡ b
put_same s n true e = member_insert s n n ∙ ap (λ b. b || set.contains s n) (eq-eqb n n refl)
put_same s n false e = e

put_other : (s : set.FinSet nat_cmp) (n q : ℕ) (b : Bool) → q ≢ n → set.contains (if b then set.insert s n else s) q ≡ set.contains s q
put_other s n q true ne = member_insert s n q ∙ ap (λ b. b || set.contains s q) (ne_eqb q n ne)
put_other s n q false ne = refl

pub gathered_past : (p : ℕ → Bool) (n q : ℕ) → n ≤ q → set.contains (gathered p n) q ≡ false
gathered_past p zero q h = set.contains-empty nat_cmp q
gathered_past p (suc n) q h = let ne : q ≢ n = omega arith in put_other (gathered p n) n q (p n) ne ∙ gathered_past p n q (omega arith)

pub gathered_in : (p : ℕ → Bool) (n q : ℕ) → q < n → set.contains (gathered p n) q ≡ p q
gathered_in p zero q h = absurd (omega arith)
gathered_in p (suc n) q h =
    elim (eqb_tells q n) [
      | inl is ↦ ap (set.contains (if p n then set.insert (gathered p n) n else gathered p n)) is.1 ∙ put_same (gathered p n) n (p n) (gathered_past p n n (omega arith)) ∙ ap p (sym is.1)
      | inr isnt ↦ put_other (gathered p n) n q (p n) isnt.1 ∙ gathered_in p n q (omega arith)
    ]
