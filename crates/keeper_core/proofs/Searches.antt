-- The first element of a list that passes, and its place.
use Rattle.std.proofs.Common.{◌≡◌, ℕ, ◌<◌, Bool, true, false, List, length, Some, None, cond, ap, ◌∙◌, refl, arith}
use Rattle.std.specs.Prelude.{is_some, slice_get, slice_index, nat_lt}
use Rattle.std.specs.List.{find, position, position_or_len}
use Rattle.std.proofs.lemmas.Bool.{both_ways, lt-ltb, le-ltb, ltb-false}
use Rattle.std.proofs.lemmas.List.Folds.{find_at}
use Rattle.std.proofs.lemmas.List.Sums.{position_or_len_is}
use Rattle.std.proofs.lemmas.List.Quantifiers.{position-Some}
use Rattle.std.proofs.lemmas.Option.{slice_get-get_or, slice_get_past}

module _ (p : ℕ → Bool) (xs : List ℕ) where
  -- it is at a place, and none before it passes
  module _ (i : ℕ) (within : i < length xs) (before : (k : ℕ) → k < i → p (slice_index xs k) ≡ false) (passes : p (slice_index xs i) ≡ true) where
    place : position_or_len p xs ≡ i
    place = position_or_len_is p xs i 0 (omega (arith, within)) before (λ h. passes)

    pub found : find p xs ≡ Some (slice_index xs i)
    found = find_at p xs ∙ ap (slice_get xs) place ∙ slice_get-get_or xs i 0 within

    pub placed : position p xs ≡ Some i
    placed = ap (λ n. cond (nat_lt n (length xs)) (Some n) None) place ∙ ap (λ b. cond b (Some i) None) (lt-ltb i (length xs) within)

  -- none passes
  module _ (none : (k : ℕ) → k < length xs → p (slice_index xs k) ≡ false) where
    at_end : position_or_len p xs ≡ length xs
    at_end = position_or_len_is p xs (length xs) 0 (omega arith) none (λ h. absurd (omega (arith, h)))

    pub not_found : find p xs ≡ None
    not_found = find_at p xs ∙ ap (slice_get xs) at_end ∙ slice_get_past xs (length xs) (omega arith)

    pub unplaced : position p xs ≡ None
    unplaced = ap (λ n. cond (nat_lt n (length xs)) (Some n) None) at_end ∙ ap (λ b. cond b (Some (length xs)) None) (le-ltb (length xs) (length xs) (omega arith))

  -- what a place tells
  pub at_place : (i : ℕ) → position p xs ≡ Some i → (i < length xs) × (p (slice_index xs i) ≡ true) × (find p xs ≡ Some (slice_index xs i)) × (position_or_len p xs ≡ i)
  at_place i e = let is = position-Some p xs i 0 e in (is.0, is.1, found i is.0 is.2 is.1, place i is.0 is.2 is.1)

  nowhere_by : (b : Bool) → nat_lt (position_or_len p xs) (length xs) ≡ b → cond b (Some (position_or_len p xs)) None ≡ None → find p xs ≡ None
  nowhere_by true past e = absurd (both_ways true (ap is_some e) refl)
  nowhere_by false past e = find_at p xs ∙ slice_get_past xs (position_or_len p xs) (ltb-false _ _ past)

  pub nowhere : position p xs ≡ None → find p xs ≡ None
  nowhere = nowhere_by (nat_lt (position_or_len p xs) (length xs)) refl
