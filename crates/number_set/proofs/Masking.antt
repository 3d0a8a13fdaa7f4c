-- Bits of words, and masks.
use Rattle.std.proofs.Common.{◌≡◌, ℕ, ◌+◌, ◌-◌, ◌*◌, ◌/◌, ◌%◌, ◌^◌, ◌<◌, ◌≤◌, max, min, Bool, true, false, not, inl, inr, refl, sym, ap, ◌∙◌, subst, eq-eqb, arith, w64}
use Rattle.std.specs.Prelude.{nat_eq, ◌&&◌, ◌||◌, bit_and, bit_or}
use Rattle.std.specs.Int.{bit_at, trailing_zeros, leading_zeros}
use Rattle.std.proofs.Math.Bool.{and_comm, or_comm}
use Rattle.std.proofs.lemmas.Bool.{ne_eqb}
use Rattle.std.proofs.lemmas.Bool.Decides.{eqb_tells, leb_tells, nat_tests}
use Rattle.std.proofs.lemmas.Nat.{pow-add, pow_pos, leading_top, div-mul-add}
use Rattle.std.proofs.lemmas.Nat.Bits.{bit_at-zero, bit_at_and, bit_at_or, bit_at_not, bit_at-lt, bit_at-pow_same, bit_at-pow_other, bit_at-trailing_zeros, bit_at_above, bit_at_ones, bit_at_ones_above}
use Rattle.std.proofs.Math.Nat.{mod-eq_of_lt, div-div-eq-div-mul, div-le_self}
use Rattle.std.proofs.Math.Pow.{pow-lt}
use Rattle.number_set.specs.Bits.{has_bit}
use Rattle.number_set.specs.Finds.{IsFirst, IsFrom, IsLast, IsNext, IsPrevious, NoneAbove, NoneBelow, NoneFrom}

pub clash : {A : Type 0} (b : Bool) → b ≡ true → b ≡ false → A
clash true e f = absurd cc
clash false e f = absurd cc

one_max : (m n : ℕ) → m < 2 → n < 2 → nat_eq (max m n) 1 ≡ (nat_eq m 1 || nat_eq n 1)
one_max m n h l = grind (arith, nat_tests, h, l)

one_min : (m n : ℕ) → m < 2 → n < 2 → nat_eq (min m n) 1 ≡ (nat_eq m 1 && nat_eq n 1)
one_min m n h l = grind (arith, nat_tests, h, l)

one_less : (m : ℕ) → m < 2 → nat_eq (1 - m) 1 ≡ not (nat_eq m 1)
one_less m h = grind (arith, nat_tests, h)

pub has_bit_or : (a b i : ℕ) → has_bit (bit_or a b) i ≡ (has_bit a i || has_bit b i)
has_bit_or a b i = ap (λ n. nat_eq n 1) (bit_at_or a b i) ∙ one_max (bit_at a i) (bit_at b i) (bit_at-lt a i) (bit_at-lt b i)

pub has_bit_and : (a b i : ℕ) → has_bit (bit_and a b) i ≡ (has_bit a i && has_bit b i)
has_bit_and a b i = ap (λ n. nat_eq n 1) (bit_at_and a b i) ∙ one_min (bit_at a i) (bit_at b i) (bit_at-lt a i) (bit_at-lt b i)

pub has_bit_not : (n i : ℕ) → n < 2 ^ 64 → i < 64 → has_bit (2 ^ 64 - 1 - n) i ≡ not (has_bit n i)
has_bit_not n i h l = ap (λ k. nat_eq k 1) (bit_at_not w64 n i h l) ∙ one_less (bit_at n i) (bit_at-lt n i)

-- the bits of a word after those of a mask were added
pub has_bit_added : (had mask i : ℕ) → has_bit (bit_or had mask) i ≡ (has_bit mask i || has_bit had i)
has_bit_added had mask i = has_bit_or had mask i ∙ or_comm (has_bit had i) (has_bit mask i)

-- the bits of a word after those of a mask were removed
pub has_bit_removed : (had mask i : ℕ) → mask < 2 ^ 64 → i < 64 → has_bit (bit_and had (2 ^ 64 - 1 - mask)) i ≡ (not (has_bit mask i) && has_bit had i)
has_bit_removed had mask i fits low =
    has_bit_and had (2 ^ 64 - 1 - mask) i ∙ ap (λ b. has_bit had i && b) (has_bit_not mask i fits low) ∙ and_comm (has_bit had i) (not (has_bit mask i))

pub has_bit_zero : (i : ℕ) → has_bit 0 i ≡ false
has_bit_zero i = ap (λ n. nat_eq n 1) (bit_at-zero i)

pub has_bit_past : (word i : ℕ) → word < 2 ^ 64 → 64 ≤ i → has_bit word i ≡ false
has_bit_past word i fits past = ap (λ n. nat_eq n 1) (bit_at_above word 64 i fits past)

pub pow_fits : (k : ℕ) → k < 64 → 1 * 2 ^ k % 2 ^ 64 ≡ 2 ^ k
pow_fits k h = let below : 2 ^ k < 2 ^ 64 = pow-lt h in let same : 1 * 2 ^ k ≡ 2 ^ k = omega arith in ap (λ n. n % 2 ^ 64) same ∙ mod-eq_of_lt below

pub has_bit_pow : (k i : ℕ) → k < 64 → has_bit (1 * 2 ^ k % 2 ^ 64) i ≡ nat_eq i k
has_bit_pow k i h = ap (λ n. has_bit n i) (pow_fits k h) ∙ elim (eqb_tells i k) [
  | inl at ↦ (ap (λ j. has_bit (2 ^ k) j) at.1 ∙ ap (λ n. nat_eq n 1) (bit_at-pow_same k) ∙ sym (eq-eqb i k at.1))
  | inr away ↦ (ap (λ n. nat_eq n 1) (bit_at-pow_other k i away.1) ∙ sym (ne_eqb i k away.1))
]

pub pow_below : (k : ℕ) → k < 64 → 1 * 2 ^ k % 2 ^ 64 < 2 ^ 64
pow_below k h = let below : 2 ^ k < 2 ^ 64 = pow-lt h in omega (arith, pow_fits k h)

pub pow_some : (k : ℕ) → k < 64 → 0 < 1 * 2 ^ k % 2 ^ 64
pow_some k h = omega (arith, pow_fits k h, pow_pos k)

-- the bits of a word that is shifted
pub shifted : (n k i : ℕ) → has_bit (n / 2 ^ k) i ≡ has_bit n (k + i)
shifted n k i = ap (λ m. nat_eq (m % 2) 1) (div-div-eq-div-mul n (2 ^ k) (2 ^ i) ∙ ap (λ m. n / m) (sym (pow-add 2 k i)))

-- the lowest bit
pub lowest_set : (word : ℕ) → 0 < word → word < 2 ^ 64 → IsFirst (has_bit word) (trailing_zeros w64 word) × (trailing_zeros w64 word < 64)
lowest_set word some fits =
    let at = bit_at-trailing_zeros w64 word some fits in (
      record { passes = ap (λ n. nat_eq n 1) at.1; before = λ k h. ap (λ n. nat_eq n 1) (at.2 k h) },
      at.0,
    )

-- a number from 2 ^ j on and below the next power has bit j, and none above it
top_bit : (j word : ℕ) → 2 ^ j ≤ word → word < 2 ^ (j + 1) → IsLast (has_bit word) j
top_bit j word low high =
    let twice : 2 ^ (j + 1) ≡ 2 ^ j * 2 = pow-add 2 j 1 in
    let rest : word - 2 ^ j < 2 ^ j = omega (arith, twice) in
    let one : word / 2 ^ j ≡ 1 = ap (λ n. n / 2 ^ j) (omega arith) ∙ div-mul-add 1 (2 ^ j) (word - 2 ^ j) rest in
    record {
      passes = ap (λ n. nat_eq (n % 2) 1) one;
      after = λ k h. ap (λ n. nat_eq n 1) (bit_at_above word (j + 1) k high (omega arith));
    }

-- the highest bit
pub highest_set : (word : ℕ) → 0 < word → word < 2 ^ 64 → (leading_zeros w64 word ≤ 63) × IsLast (has_bit word) (63 - leading_zeros w64 word)
highest_set word some fits =
    let top = leading_top 64 word some fits in
    let place : top.0 ≡ 63 - leading_zeros w64 word = omega (arith, top.1) in (
      omega (arith, top.1),
      subst (λ (j : ℕ). IsLast (has_bit word) j) place (top_bit top.0 word top.2 (subst (λ (j : ℕ). word < 2 ^ j) (omega arith) top.3)),
    )

-- the bits above one
module _ (word from above : ℕ) (fits : word < 2 ^ 64) (is : above ≡ word / 2 ^ from / 2) where
  above_at : (i : ℕ) → has_bit above i ≡ has_bit word (from + 1 + i)
  above_at i =
      ap (λ n. has_bit n i) is ∙ shifted (word / 2 ^ from) 1 i ∙ shifted word from (1 + i) ∙ ap (has_bit word) (omega arith)

  pub no_next : above ≡ 0 → NoneAbove (has_bit word) from
  no_next none k h =
      let same : from + 1 + (k - from - 1) ≡ k = omega arith in
      ap (has_bit word) (sym same) ∙ sym (above_at (k - from - 1)) ∙ ap (λ n. has_bit n (k - from - 1)) none ∙ has_bit_zero (k - from - 1)

  above_fits : above < 2 ^ 64
  above_fits = omega (arith, is)

  pub next_set : 0 < above → IsNext (has_bit word) from (from + 1 + trailing_zeros w64 above) × (from + 1 + trailing_zeros w64 above < 64)
  next_set some =
      let at = lowest_set above some above_fits in
      let place = trailing_zeros w64 above in
      let passes : has_bit word (from + 1 + place) ≡ true = sym (above_at place) ∙ at.0.passes in (
        record {
          above = omega arith;
          passes = passes;
          between = λ k low high.
              let same : from + 1 + (k - from - 1) ≡ k = omega arith in
              ap (has_bit word) (sym same) ∙ sym (above_at (k - from - 1)) ∙ at.0.before (k - from - 1) (omega arith);
        },
        elim (leb_tells 64 (from + 1 + place)) [
          | inl past ↦ clash (has_bit word (from + 1 + place)) passes (has_bit_past word (from + 1 + place) fits past.1)
          | inr within ↦ within.1
        ],
      )

-- the bits from one on
module _ (word from : ℕ) (fits : word < 2 ^ 64) where
  abbrev rest : ℕ
  rest = word / 2 ^ from

  rest_at : (k : ℕ) → from ≤ k → has_bit rest (k - from) ≡ has_bit word k
  rest_at k low = let same : from + (k - from) ≡ k = omega arith in shifted word from (k - from) ∙ ap (has_bit word) same

  pub no_rest : rest ≡ 0 → NoneFrom (has_bit word) from
  no_rest none k low = sym (rest_at k low) ∙ ap (λ n. has_bit n (k - from)) none ∙ has_bit_zero (k - from)

  rest_fits : rest < 2 ^ 64
  rest_fits = let less : word / 2 ^ from ≤ word = div-le_self word (2 ^ from) in omega (arith, less, fits)

  pub rest_set : 0 < rest → IsFrom (has_bit word) from (from + trailing_zeros w64 rest) × (from + trailing_zeros w64 rest < 64)
  rest_set some =
      let at = lowest_set rest some rest_fits in
      let place = trailing_zeros w64 rest in
      let passes : has_bit word (from + place) ≡ true = sym (shifted word from place) ∙ at.0.passes in (
        record {
          least = omega arith;
          passes = passes;
          between = λ k low less. sym (rest_at k low) ∙ at.0.before (k - from) (omega (arith, low, less));
        },
        elim (leb_tells 64 (from + place)) [
          | inl past ↦ clash (has_bit word (from + place)) passes (has_bit_past word (from + place) fits past.1)
          | inr within ↦ within.1
        ],
      )

-- the bits below one
module _ (word from below : ℕ) (low : from < 64) (is : below ≡ bit_and word (1 * 2 ^ from % 2 ^ 64 - 1)) where
  below_at : (i : ℕ) → has_bit below i ≡ (has_bit word i && has_bit (2 ^ from - 1) i)
  below_at i = ap (λ n. has_bit n i) (is ∙ ap (λ m. bit_and word (m - 1)) (pow_fits from low)) ∙ has_bit_and word (2 ^ from - 1) i

  below_in : (i : ℕ) → i < from → has_bit below i ≡ has_bit word i
  below_in i h = below_at i ∙ ap (λ n. has_bit word i && nat_eq n 1) (bit_at_ones from i h) ∙ and_true (has_bit word i) where
    and_true : (b : Bool) → (b && true) ≡ b
    and_true true = refl
    and_true false = refl

  below_past : (i : ℕ) → from ≤ i → has_bit below i ≡ false
  below_past i h = below_at i ∙ ap (λ n. has_bit word i && nat_eq n 1) (bit_at_ones_above from i h) ∙ and_false (has_bit word i) where
    and_false : (b : Bool) → (b && false) ≡ false
    and_false true = refl
    and_false false = refl

  pub no_previous : below ≡ 0 → NoneBelow (has_bit word) from
  no_previous none k h = sym (below_in k h) ∙ ap (λ n. has_bit n k) none ∙ has_bit_zero k

  pub previous_set : (i : ℕ) → IsLast (has_bit below) i → IsPrevious (has_bit word) from i
  previous_set i last =
      let inside : i < from = elim (leb_tells from i) [
        | inl past ↦ clash (has_bit below i) last.passes (below_past i past.1)
        | inr within ↦ within.1
      ] in
      record {
        below = inside;
        passes = sym (below_in i inside) ∙ last.passes;
        between = λ k h l. sym (below_in k l) ∙ last.after k h;
      }
