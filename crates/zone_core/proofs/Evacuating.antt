-- What the loops of an evacuation find.
use Rattle.std.proofs.Common.{◌≡◌, ℕ, zero, suc, ◌<◌, ◌≤◌, Bool, true, false, not, ◌&&◌, cond, inl, inr, ap, ◌∙◌, arith}
use Rattle.std.specs.Prelude.{Some, None}
use Rattle.std.proofs.lemmas.Bool.{and_from, and_left, and_right}
use Rattle.std.proofs.lemmas.Bool.Decides.{eqb_tells, leb_tells}
use Rattle.frame_core.specs.Below.{highest}
use Rattle.frame_core.proofs.Bounds.{highest_above, highest_is, highest_none, highest_some, no_highest}

highest_below : (p : ℕ → Bool) (n : ℕ) → p n ≡ false → highest p (suc n) ≡ highest p n
highest_below p n fails = ap (λ (b : Bool). cond b (Some n) (highest p n)) fails

-- where none of the numbers from m on passes, the highest one lies below m
pub highest_past : (p : ℕ → Bool) (n m : ℕ) → m ≤ n → ((k : ℕ) → m ≤ k → k < n → p k ≡ false) → highest p n ≡ highest p m
highest_past p zero m within fails = let at : 0 ≡ m = omega (arith, within) in ap (highest p) at
highest_past p (suc n) m within fails = elim (leb_tells m n) [
  | inl low ↦ highest_below p n (fails n low.1 (omega arith)) ∙ highest_past p n m low.1 (λ k from to. fails k from (omega (arith, to)))
  | inr past ↦ (let at : suc n ≡ m = omega (arith, within, past.1) in ap (highest p) at)
]

-- the highest number that isn't in a set and passes, by the highest one that passes
module _ (is_in passes : ℕ → Bool) (end : ℕ) where
  abbrev beside : ℕ → Bool
  beside k = not (is_in k) && passes k

  pub beside_found : (at : ℕ) → highest passes end ≡ Some at → is_in at ≡ false → highest beside end ≡ Some at
  beside_found at found out =
      let is = highest_some passes end at found in
      highest_is beside end at is.0 (and_from _ _ (ap not out) is.1) (λ k high within. and_right (not (is_in k)) _ (highest_above passes end at k found high within))

  pub beside_lower : (at : ℕ) → highest passes end ≡ Some at → is_in at ≡ true → highest beside end ≡ highest beside at
  beside_lower at found inside = highest_past beside end at (omega (arith, (highest_some passes end at found).0)) (λ k low within. elim (eqb_tells k at) [
    | inl same ↦ and_left (not (is_in k)) _ (ap (λ (m : ℕ). not (is_in m)) same.1 ∙ ap not inside)
    | inr other ↦ and_right (not (is_in k)) _ (highest_above passes end at k found (omega (arith, low, other.1)) within)
  ])

  pub beside_none : highest passes end ≡ None → highest beside end ≡ None
  beside_none none = highest_none beside end (λ k within. and_right (not (is_in k)) _ (no_highest passes end k none within))
