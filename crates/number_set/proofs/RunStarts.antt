-- Runs of 1, 2 and 4 numbers that begin at a multiple of their length, counted word by word.
use Rattle.std.proofs.Common.{◌≡◌, ℕ, zero, suc, ◌+◌, ◌*◌, ◌/◌, ◌%◌, ◌^◌, ◌<◌, ◌≤◌, Bool, true, false, not, List, inl, inr, refl, sym, ap, ◌∙◌, slice_index, arith}
use Rattle.std.specs.Prelude.{nat_eq, ◌&&◌, bit_and, if◌then◌else◌}
use Rattle.std.specs.Int.Count.{ones}
use Rattle.std.proofs.Math.Bool.{and_comm}
use Rattle.std.proofs.lemmas.Bool.{cases_Bool, eq-eqb, eqb-true}
use Rattle.std.proofs.lemmas.Bool.Decides.{leb_tells}
use Rattle.std.proofs.lemmas.Nat.{ones-le}
use Rattle.number_set.specs.Bits.{has_bit, has_number}
use Rattle.number_set.specs.Runs.{begins_run, count_in_run}
use Rattle.number_set.proofs.Counting.{bits_of_run, count_alike, count_joined, count_most, ones_are}
use Rattle.number_set.proofs.Masking.{has_bit_and, shifted}

-- where all numbers of a run pass, each does
count_full : (p : ℕ → Bool) (n k : ℕ) → count_in_run p 0 n ≡ n → k < n → p k ≡ true
count_full p zero k all low = absurd (omega arith)
count_full p (suc n) k all low = elim (cases_Bool (p (0 + n))) [
  | inl is ↦
      (let one : ◌≡◌ {A = ℕ} (if p (0 + n) then 1 else 0) 1 = ap (λ (b : Bool). if b then 1 else 0) is in
      elim (leb_tells n k) [
        | inl last ↦ (let same : k ≡ 0 + n = omega (arith, low, last.1) in ap p same ∙ is)
        | inr under ↦ count_full p n k (omega (arith, all, one)) under.1
      ])
  | inr fails ↦
      (let none : ◌≡◌ {A = ℕ} (if p (0 + n) then 1 else 0) 0 = ap (λ (b : Bool). if b then 1 else 0) fails in
      absurd (omega (arith, all, none, count_most p 0 n)))
]

-- whether two tests say the same
abbrev agree : Bool → Bool → Bool
agree true b = b
agree false b = not b

agreed : (a b : Bool) → agree a b ≡ true → a ≡ b
agreed true true e = refl
agreed true false e = sym e
agreed false true e = e
agreed false false e = refl

-- the bits of the two masks
even_bits : (i : ℕ) → i < 64 → has_bit 6148914691236517205 i ≡ nat_eq (i / 2 ^ 1 * 2 ^ 1) i
even_bits i low = agreed _ _ (count_full (λ k. agree (has_bit 6148914691236517205 k) (nat_eq (k / 2 ^ 1 * 2 ^ 1) k)) 64 i refl low)

fourth_bits : (i : ℕ) → i < 64 → has_bit 1229782938247303441 i ≡ nat_eq (i / 2 ^ 2 * 2 ^ 2) i
fourth_bits i low = agreed _ _ (count_full (λ k. agree (has_bit 1229782938247303441 k) (nat_eq (k / 2 ^ 2 * 2 ^ 2) k)) 64 i refl low)

-- the test of a run, number by number
one_number : (a : Bool) → a ≡ nat_eq ((if a then 1 else 0) + 0) 1
one_number true = refl
one_number false = refl

two_numbers : (a b : Bool) → (a && b) ≡ nat_eq ((if b then 1 else 0) + ((if a then 1 else 0) + 0)) 2
two_numbers true true = refl
two_numbers true false = refl
two_numbers false true = refl
two_numbers false false = refl

four_numbers : (a b c d : Bool) → ((a && b) && (c && d)) ≡ nat_eq ((if d then 1 else 0) + ((if c then 1 else 0) + ((if b then 1 else 0) + ((if a then 1 else 0) + 0)))) 4
four_numbers true true true true = refl
four_numbers true true true false = refl
four_numbers true true false true = refl
four_numbers true true false false = refl
four_numbers true false true true = refl
four_numbers true false true false = refl
four_numbers true false false true = refl
four_numbers true false false false = refl
four_numbers false true true true = refl
four_numbers false true true false = refl
four_numbers false true false true = refl
four_numbers false true false false = refl
four_numbers false false true true = refl
four_numbers false false true false = refl
four_numbers false false false true = refl
four_numbers false false false false = refl

module _ (word : ℕ) where
  -- the bits with which two set bits begin
  abbrev pairs : ℕ
  pairs = bit_and word (word / 2)

  pairs_at : (i : ℕ) → has_bit pairs i ≡ (has_bit word i && has_bit word (i + 1))
  pairs_at i = let place : 1 + i ≡ i + 1 = omega arith in has_bit_and word (word / 2) i ∙ ap (λ b. has_bit word i && b) (shifted word 1 i ∙ ap (has_bit word) place)

  pub each_starts : (i : ℕ) → has_bit word i ≡ begins_run (has_bit word) 0 i
  each_starts i =
      let place : i + 0 ≡ i = omega arith in
      let aligned : i / 2 ^ 0 * 2 ^ 0 ≡ i = omega arith in
      ap (has_bit word) (sym place) ∙ one_number (has_bit word (i + 0)) ∙ sym (ap (λ b. b && nat_eq (count_in_run (has_bit word) i (2 ^ 0)) (2 ^ 0)) (eq-eqb _ i aligned))

  pub pair_starts : (i : ℕ) → i < 64 → has_bit (bit_and pairs 6148914691236517205) i ≡ begins_run (has_bit word) 1 i
  pair_starts i low =
      let place : i ≡ i + 0 = omega arith in
      has_bit_and pairs 6148914691236517205 i ∙ and_comm (has_bit pairs i) (has_bit 6148914691236517205 i)
      ∙ (λ j. even_bits i low j && (pairs_at i ∙ ap (λ (k : ℕ). has_bit word k && has_bit word (i + 1)) place ∙ two_numbers (has_bit word (i + 0)) (has_bit word (i + 1))) j)

  four_at : (i : ℕ) → has_bit (bit_and pairs (pairs / 4)) i ≡ ((has_bit word (i + 0) && has_bit word (i + 1)) && (has_bit word (i + 2) && has_bit word (i + 3)))
  four_at i =
      let first : i ≡ i + 0 = omega arith in
      let third : 2 + i ≡ i + 2 = omega arith in
      let fourth : 2 + i + 1 ≡ i + 3 = omega arith in
      has_bit_and pairs (pairs / 4) i
      ∙ (λ j. (pairs_at i ∙ ap (λ (k : ℕ). has_bit word k && has_bit word (i + 1)) first) j && (shifted pairs 2 i ∙ pairs_at (2 + i) ∙ (λ m. has_bit word (third m) && has_bit word (fourth m))) j)

  pub four_starts : (i : ℕ) → i < 64 → has_bit (bit_and (bit_and pairs (pairs / 4)) 1229782938247303441) i ≡ begins_run (has_bit word) 2 i
  four_starts i low =
      has_bit_and (bit_and pairs (pairs / 4)) 1229782938247303441 i ∙ and_comm (has_bit (bit_and pairs (pairs / 4)) i) (has_bit 1229782938247303441 i)
      ∙ (λ j. fourth_bits i low j && (four_at i ∙ four_numbers (has_bit word (i + 0)) (has_bit word (i + 1)) (has_bit word (i + 2)) (has_bit word (i + 3))) j)

-- tests that say the same where another test holds
same_where : (a b c d : Bool) → (a ≡ true → c ≡ true) → (c ≡ true → a ≡ true) → (a ≡ true → b ≡ d) → (a && b) ≡ (c && d)
same_where true b c d to from same = same refl ∙ sym (ap (λ e. e && d) (to refl))
same_where false b true d to from same = let no : false ≡ true = from refl in cc
same_where false b false d to from same = refl

-- a run of a word's bits is one of the numbers
module _ (words : List ℕ) (word k : ℕ) (low : k < 64) where
  run_at : (order : ℕ) → (k / 2 ^ order * 2 ^ order ≡ k → (64 * word + k) / 2 ^ order * 2 ^ order ≡ 64 * word + k) → ((64 * word + k) / 2 ^ order * 2 ^ order ≡ 64 * word + k → k / 2 ^ order * 2 ^ order ≡ k) → (k / 2 ^ order * 2 ^ order ≡ k → k + 2 ^ order ≤ 64) → begins_run (has_bit (slice_index words word)) order k ≡ begins_run (has_number words) order (64 * word + k)
  run_at order to from within =
      let here : (64 * word + k) / 64 ≡ word = omega (arith, low) in
      let rest : (64 * word + k) % 64 ≡ k = omega (arith, low) in
      same_where _ _ _ _
      (λ e. eq-eqb _ _ (to (eqb-true _ k e)))
      (λ e. eq-eqb _ _ (from (eqb-true _ (64 * word + k) e)))
      (λ e. ap (λ n. nat_eq n (2 ^ order))
      (sym (λ i. count_in_run (has_bit (slice_index words (here i))) (rest i) (2 ^ order)) ∙ bits_of_run words (64 * word + k) (2 ^ order) (omega (arith, rest, within (eqb-true _ k e)))))

  run_in_word : (order : ℕ) → order ≤ 2 → begins_run (has_bit (slice_index words word)) order k ≡ begins_run (has_number words) order (64 * word + k)
  run_in_word zero few = run_at 0 (λ e. omega arith) (λ e. omega arith) (λ e. omega (arith, low))
  run_in_word (suc zero) few = run_at 1 (λ e. omega (arith, e)) (λ e. omega (arith, e)) (λ e. omega (arith, e, low))
  run_in_word (suc (suc zero)) few = run_at 2 (λ e. omega (arith, e)) (λ e. omega (arith, e)) (λ e. omega (arith, e, low))
  run_in_word (suc (suc (suc order))) few = absurd (omega arith)

module _ (words : List ℕ) (order word starts : ℕ) (few : order ≤ 2) (fits : starts < 2 ^ 64) (is : (bit : ℕ) → bit < 64 → has_bit starts bit ≡ begins_run (has_bit (slice_index words word)) order bit) where
  abbrev begins : ℕ → Bool
  begins = begins_run (has_number words) order

  starts_counted : ones starts ≡ count_in_run begins (64 * word) 64
  starts_counted = ones_are starts fits ∙ count_alike (has_bit starts) begins 0 (64 * word) 64 (λ k low. let same : 0 + k ≡ k = omega arith in ap (has_bit starts) same ∙ is k low ∙ run_in_word words word k low order few)

  -- the runs that begin in one more word
  pub more_starts : (sum : ℕ) → sum ≡ count_in_run begins 0 (64 * word) → sum + ones starts ≡ count_in_run begins 0 (64 * (word + 1))
  more_starts sum so_far =
      let long : 64 * word + 64 ≡ 64 * (word + 1) = omega arith in
      let place : 64 * word ≡ 0 + 64 * word = omega arith in
      (λ i. so_far i + (starts_counted ∙ ap (λ k. count_in_run begins k 64) place) i) ∙ sym (count_joined begins 0 (64 * word) 64) ∙ ap (count_in_run begins 0) long

  -- they leave room in the sum
  pub starts_fit : (sum all : ℕ) → sum ≡ count_in_run begins 0 (64 * word) → word < all → 64 * all < 2 ^ 32 → sum + ones starts < 2 ^ 32
  starts_fit sum all so_far less short = omega (arith, so_far, less, short, count_most begins 0 (64 * word), ones-le 64 starts fits)
