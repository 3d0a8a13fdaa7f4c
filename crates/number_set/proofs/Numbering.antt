-- The words of a level, after a bit of one was set or cleared, and what their bits tell of numbers.
use Rattle.std.proofs.Common.{◌≡◌, ◌≢◌, ℕ, ◌+◌, ◌-◌, ◌*◌, ◌/◌, ◌%◌, ◌^◌, ◌<◌, ◌≤◌, Bool, true, false, not, List, length, inl, inr, refl, sym, ap, ◌∙◌, slice_index, get_or-set_same, get_or-set_other, eq-eqb, arith}
use Rattle.std.specs.Prelude.{nat_eq, nat_lt, ◌&&◌, ◌||◌, bit_and, bit_or, slice_set}
use Rattle.std.proofs.lemmas.Bool.{ne_eqb, ltb-false, lt-ltb}
use Rattle.std.proofs.lemmas.Bool.Decides.{eqb_tells, nat_tests}
use Rattle.std.proofs.lemmas.Nat.{le_or_r}
use Rattle.number_set.specs.Bits.{has_bit, has_number, is_filled}
use Rattle.number_set.specs.Finds.{IsFirst, IsLast, IsFirstIn, IsLastIn}
use Rattle.number_set.proofs.Masking.{has_bit_added, has_bit_removed, has_bit_pow, has_bit_zero, pow_below, pow_some}

bit_of : (words : List ℕ) (n word : ℕ) → n / 64 ≡ word → has_number words n ≡ has_bit (slice_index words word) (n % 64)
bit_of words n word at = ap (λ k. has_bit (slice_index words k) (n % 64)) at

pub none_or_filled : (word : ℕ) → nat_eq word 0 ≡ not (nat_lt 0 word)
none_or_filled word = grind (arith, nat_tests)

-- a word without bits has no number
pub no_number : (words : List ℕ) (n : ℕ) → is_filled words (n / 64) ≡ false → has_number words n ≡ false
no_number words n empty =
    let none : slice_index words (n / 64) ≡ 0 = omega (arith, ltb-false 0 (slice_index words (n / 64)) empty) in
    ap (λ w. has_bit w (n % 64)) none ∙ has_bit_zero (n % 64)

-- what is found in one word
pub first_here : (words : List ℕ) (word bit n : ℕ) → IsFirst (has_bit (slice_index words word)) bit → bit < 64 → n ≡ 64 * word + bit → IsFirstIn (has_number words) word n
first_here words word bit n first low is =
    let here : n / 64 ≡ word = omega (arith, is, low) in
    let rest : n % 64 ≡ bit = omega (arith, is, low) in
    record {
      here = here;
      passes = bit_of words n word here ∙ ap (has_bit (slice_index words word)) rest ∙ first.passes;
      before = λ k at less. bit_of words k word at ∙ first.before (k % 64) (omega (arith, at, less, is, low));
    }

pub last_here : (words : List ℕ) (word bit n : ℕ) → IsLast (has_bit (slice_index words word)) bit → bit < 64 → n ≡ 64 * word + bit → IsLastIn (has_number words) word n
last_here words word bit n last low is =
    let here : n / 64 ≡ word = omega (arith, is, low) in
    let rest : n % 64 ≡ bit = omega (arith, is, low) in
    record {
      here = here;
      passes = bit_of words n word here ∙ ap (has_bit (slice_index words word)) rest ∙ last.passes;
      after = λ k at more. bit_of words k word at ∙ last.after (k % 64) (omega (arith, at, more, is, low));
    }

-- which words have a number, after one of them changed
module _ (words : List ℕ) (word bits : ℕ) (within : word < length words) where
  now : slice_index (slice_set words word bits) word ≡ bits
  now = get_or-set_same words word bits 0 within

  pub filled_put : 0 < bits → (i : ℕ) → is_filled (slice_set words word bits) i ≡ (nat_eq i word || is_filled words i)
  filled_put some i = elim (eqb_tells i word) [
    | inl at ↦ ap (is_filled (slice_set words word bits)) at.1 ∙ ap (nat_lt 0) now ∙ lt-ltb 0 bits some ∙ sym (ap (λ b. b || is_filled words i) (eq-eqb i word at.1))
    | inr away ↦ ap (nat_lt 0) (get_or-set_other words word i bits 0 away.1) ∙ sym (ap (λ b. b || is_filled words i) (ne_eqb i word away.1))
  ]

  pub filled_cut : bits ≤ slice_index words word → (i : ℕ) → is_filled (slice_set words word bits) i ≡ (not (nat_eq bits 0 && nat_eq i word) && is_filled words i)
  filled_cut less i = elim (eqb_tells i word) [
    | inl at ↦
        let same : slice_index words i ≡ slice_index words word = ap (slice_index words) at.1 in
        ap (is_filled (slice_set words word bits)) at.1 ∙ ap (nat_lt 0) now ∙ grind (arith, nat_tests, less, same, at.1)
    | inr away ↦ ap (nat_lt 0) (get_or-set_other words word i bits 0 away.1) ∙ sym (ap (λ b. not (nat_eq bits 0 && b) && is_filled words i) (ne_eqb i word away.1) ∙ ap (λ b. not b && is_filled words i) (and_false (nat_eq bits 0)))
  ] where
    and_false : (b : Bool) → (b && false) ≡ false
    and_false true = refl
    and_false false = refl

-- which numbers there are, after a bit of one word changed
module _ (words : List ℕ) (number : ℕ) (within : number / 64 < length words) where
  one_bit : (n : ℕ) → n / 64 ≡ number / 64 → has_bit (1 * 2 ^ (number % 64) % 2 ^ 64) (n % 64) ≡ nat_eq n number
  one_bit n at = let low : number % 64 < 64 = omega arith in has_bit_pow (number % 64) (n % 64) low ∙ grind (arith, nat_tests, at)

  other_number : (n bits : ℕ) → n / 64 ≢ number / 64 → has_number (slice_set words (number / 64) bits) n ≡ has_number words n
  other_number n bits away = ap (λ w. has_bit w (n % 64)) (get_or-set_other words (number / 64) (n / 64) bits 0 away)

  this_word : (n bits : ℕ) → n / 64 ≡ number / 64 → has_number (slice_set words (number / 64) bits) n ≡ has_bit bits (n % 64)
  this_word n bits at = ap (λ k. has_bit (slice_index (slice_set words (number / 64) bits) k) (n % 64)) at ∙ ap (λ w. has_bit w (n % 64)) (get_or-set_same words (number / 64) bits 0 within)

  apart : (n : ℕ) → n / 64 ≢ number / 64 → nat_eq n number ≡ false
  apart n away = ne_eqb n number (λ e. away (ap (λ k. k / 64) e))

  pub put_in : (n : ℕ) → has_number (slice_set words (number / 64) (bit_or (slice_index words (number / 64)) (1 * 2 ^ (number % 64) % 2 ^ 64))) n ≡ (nat_eq n number || has_number words n)
  put_in n =
      let bits = bit_or (slice_index words (number / 64)) (1 * 2 ^ (number % 64) % 2 ^ 64) in
      elim (eqb_tells (n / 64) (number / 64)) [
        | inl at ↦ this_word n bits at.1 ∙ has_bit_added (slice_index words (number / 64)) (1 * 2 ^ (number % 64) % 2 ^ 64) (n % 64)
            ∙ ap (λ b. b || has_bit (slice_index words (number / 64)) (n % 64)) (one_bit n at.1)
            ∙ ap (λ b. nat_eq n number || b) (ap (λ k. has_bit (slice_index words k) (n % 64)) (sym at.1))
        | inr away ↦ other_number n bits away.1 ∙ ap (λ b. b || has_number words n) (sym (apart n away.1))
      ]

  pub taken_out : (n : ℕ) → has_number (slice_set words (number / 64) (bit_and (slice_index words (number / 64)) (2 ^ 64 - 1 - 1 * 2 ^ (number % 64) % 2 ^ 64))) n ≡ (not (nat_eq n number) && has_number words n)
  taken_out n =
      let bits = bit_and (slice_index words (number / 64)) (2 ^ 64 - 1 - 1 * 2 ^ (number % 64) % 2 ^ 64) in
      let low : number % 64 < 64 = omega arith in
      elim (eqb_tells (n / 64) (number / 64)) [
        | inl at ↦ this_word n bits at.1 ∙ has_bit_removed (slice_index words (number / 64)) (1 * 2 ^ (number % 64) % 2 ^ 64) (n % 64) (pow_below (number % 64) low) (omega arith)
            ∙ ap (λ b. not b && has_bit (slice_index words (number / 64)) (n % 64)) (one_bit n at.1)
            ∙ ap (λ b. not (nat_eq n number) && b) (ap (λ k. has_bit (slice_index words k) (n % 64)) (sym at.1))
        | inr away ↦ other_number n bits away.1 ∙ ap (λ b. not b && has_number words n) (sym (apart n away.1))
      ]

-- a word that a bit was added to isn't empty
pub added_some : (had k : ℕ) → k < 64 → 0 < bit_or had (1 * 2 ^ k % 2 ^ 64)
added_some had k low = omega (arith, le_or_r had (1 * 2 ^ k % 2 ^ 64), pow_some k low)
