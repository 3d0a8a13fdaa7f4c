-- Numbers that are in none of three sets.
use Rattle.std.proofs.Common.{◌≡◌, ℕ, ◌+◌, ◌-◌, ◌*◌, ◌/◌, ◌%◌, ◌^◌, ◌<◌, ◌≤◌, Bool, false, not, List, slice_index, inl, inr, sym, ap, ◌∙◌, subst, arith}
use Rattle.std.specs.Prelude.{Option, ◌||◌, bit_or}
use Rattle.std.proofs.lemmas.Bool.Decides.{leb_tells, nat_tests}
use Rattle.std.proofs.lemmas.Nat.{or_lt}
use Rattle.number_set.specs.Bits.{has_bit, has_number}
use Rattle.number_set.specs.Finds.{is_outside, IsFirstOutside, IsFrom, NoneFrom}
use Rattle.number_set.proofs.Masking.{has_bit_not, has_bit_or}

module _ (p q r : ℕ → Bool) where
  -- whether a number passes none of the three
  abbrev pub alone : ℕ → Bool
  alone k = not (p k || q k || r k)

  low_outside : (end k : ℕ) → k < end → is_outside p q r end k ≡ alone k
  low_outside end k low = grind (arith, nat_tests, low)

  high_outside : (end k : ℕ) → end ≤ k → is_outside p q r end k ≡ false
  high_outside end k high = grind (arith, nat_tests, high)

-- the numbers of one word that three levels don't have
module _ (first second third : List ℕ) (number : ℕ) (first_fits : (i : ℕ) → slice_index first i < 2 ^ 64) (second_fits : (i : ℕ) → slice_index second i < 2 ^ 64) (third_fits : (i : ℕ) → slice_index third i < 2 ^ 64) where
  abbrev word : ℕ
  word = number / 64

  abbrev any : ℕ
  any = bit_or (bit_or (slice_index first word) (slice_index second word)) (slice_index third word)

  abbrev left : ℕ
  left = 2 ^ 64 - 1 - any

  abbrev outside : ℕ → Bool
  outside = is_outside (has_number first) (has_number second) (has_number third) (64 * word + 64)

  any_fits : any < 2 ^ 64
  any_fits = or_lt 64 (bit_or (slice_index first word) (slice_index second word)) (slice_index third word) (or_lt 64 (slice_index first word) (slice_index second word) (first_fits word) (second_fits word)) (third_fits word)

  any_at : (bit : ℕ) → has_bit any bit ≡ (has_bit (slice_index first word) bit || has_bit (slice_index second word) bit || has_bit (slice_index third word) bit)
  any_at bit =
      has_bit_or (bit_or (slice_index first word) (slice_index second word)) (slice_index third word) bit
      ∙ ap (λ b. b || has_bit (slice_index third word) bit) (has_bit_or (slice_index first word) (slice_index second word) bit)

  left_at : (bit : ℕ) → bit < 64 → has_bit left bit ≡ outside (64 * word + bit)
  left_at bit low =
      let at : (64 * word + bit) / 64 ≡ word = omega (arith, low) in
      let place : (64 * word + bit) % 64 ≡ bit = omega (arith, low) in
      has_bit_not any bit any_fits low ∙ ap not (any_at bit)
      ∙ (λ i. not (has_bit (slice_index first (sym at i)) (sym place i) || has_bit (slice_index second (sym at i)) (sym place i) || has_bit (slice_index third (sym at i)) (sym place i)))
      ∙ sym (low_outside (has_number first) (has_number second) (has_number third) (64 * word + 64) (64 * word + bit) (omega (arith, low)))

  left_of : (k : ℕ) → number ≤ k → k < 64 * word + 64 → has_bit left (k - 64 * word) ≡ outside k
  left_of k low high =
      let same : 64 * word + (k - 64 * word) ≡ k = omega (arith, low) in
      left_at (k - 64 * word) (omega (arith, high)) ∙ ap outside same

  pub none_left : NoneFrom (has_bit left) (number % 64) → NoneFrom outside number
  none_left none k low = elim (leb_tells (64 * word + 64) k) [
    | inl past ↦ high_outside (has_number first) (has_number second) (has_number third) (64 * word + 64) k past.1
    | inr here ↦ sym (left_of k low here.1) ∙ none (k - 64 * word) (omega (arith, low))
  ]

  pub first_left : (bit : ℕ) → bit < 64 → IsFrom (has_bit left) (number % 64) bit → IsFrom outside number (64 * word + bit)
  first_left bit within is = record {
    least = omega (arith, is.least);
    passes = sym (left_at bit within) ∙ is.passes;
    between = λ k low less. sym (left_of k low (omega (arith, less, within))) ∙ is.between (k - 64 * word) (omega (arith, low)) (omega (arith, less, low));
  }

-- what is found by tests is found by equal ones
pub found_alike : {p p' q q' r r' : ℕ → Bool} (from end : ℕ) (found : Option ℕ) → p ≡ p' → q ≡ q' → r ≡ r' → IsFirstOutside p q r from end found → IsFirstOutside p' q' r' from end found
found_alike {p = p} {p' = p'} {q = q} {q' = q'} {r = r} {r' = r'} from end found e f g is =
    subst (λ (t : ℕ → Bool). IsFirstOutside p' q' t from end found) g (subst (λ (t : ℕ → Bool). IsFirstOutside p' t r from end found) f (subst (λ (t : ℕ → Bool). IsFirstOutside t q r from end found) e is))
