-- Laws of one write into a list.
use Rattle.std.proofs.Common.{◌≡◌, ◌≢◌, ℕ, zero, suc, ◌<◌, List, [], ◌∷◌, length, replicate, refl, ap, ◌∙◌, arith}
use Rattle.std.specs.Prelude.{Some, slice_get, slice_set}
use Rattle.std.proofs.lemmas.Option.{slice_get-get_or}
use Rattle.std.proofs.lemmas.List.{get_or-replicate, length-replicate, length-set}
use Rattle.std.proofs.lemmas.Grind.{get_or-set_at}

module _ {X : Type 0} where
  pub slice_get_set_same : (xs : List X) (i j : ℕ) (x : X) → j ≡ i → i < length xs → slice_get (slice_set xs i x) j ≡ Some x
  slice_get_set_same xs i j x e h =
      slice_get-get_or (slice_set xs i x) j x (simp length-set (omega arith)) ∙ ap Some (get_or-set_at xs i j x x e h)

  pub slice_get_set_other : (xs : List X) (i j : ℕ) (x : X) → j ≢ i → slice_get (slice_set xs i x) j ≡ slice_get xs j
  slice_get_set_other [] i j x ne = refl
  slice_get_set_other (y ∷ ys) zero zero x ne = absurd (ne refl)
  slice_get_set_other (y ∷ ys) zero (suc j) x ne = refl
  slice_get_set_other (y ∷ ys) (suc i) zero x ne = refl
  slice_get_set_other (y ∷ ys) (suc i) (suc j) x ne = slice_get_set_other ys i j x (λ e. ne (ap suc e))

  pub slice_get_replicate : (n i : ℕ) (x : X) → i < n → slice_get (replicate n x) i ≡ Some x
  slice_get_replicate n i x h =
      slice_get-get_or (replicate n x) i x (simp length-replicate (omega arith)) ∙ ap Some (get_or-replicate n i x x h)
