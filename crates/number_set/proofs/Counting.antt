-- Counts of numbers in a run, and of the bits that are set in a word.
use Rattle.std.proofs.Common.{◌≡◌, ℕ, zero, suc, ◌+◌, ◌-◌, ◌*◌, ◌/◌, ◌%◌, ◌^◌, ◌<◌, ◌≤◌, Bool, true, false, List, refl, sym, ap, ◌∙◌, slice_index, arith}
use Rattle.std.specs.Prelude.{nat_eq, ◌&&◌, bit_and, if◌then◌else◌}
use Rattle.std.specs.Int.Count.{ones}
use Rattle.std.proofs.Math.Nat.{mod-eq_of_lt}
use Rattle.std.proofs.lemmas.Bool.Decides.{nat_tests}
use Rattle.std.proofs.lemmas.Nat.{and_le_l, mod_below, mod-pow-add, ones-le, ones_cat, pow_pos}
use Rattle.std.proofs.lemmas.Nat.Bits.{bit_at-lt}
use Rattle.number_set.specs.Bits.{has_bit, has_number}
use Rattle.number_set.specs.Runs.{count_in_run, in_run}
use Rattle.number_set.proofs.Masking.{has_bit_and}
use Rattle.number_set.proofs.Running.{Parts}

-- a run that lies after another one
pub count_joined : (p : ℕ → Bool) (first m n : ℕ) → count_in_run p first (m + n) ≡ count_in_run p first m + count_in_run p (first + m) n
count_joined p first m zero = let none : m + zero ≡ m = omega arith in ap (count_in_run p first) none ∙ omega arith
count_joined p first m (suc n) =
    let more : m + suc n ≡ suc (m + n) = omega arith in
    let place : first + (m + n) ≡ first + m + n = omega arith in
    ap (count_in_run p first) more ∙ (λ i. (if p (place i) then 1 else 0) + count_joined p first m n i) ∙ omega arith

-- two runs whose numbers pass alike
pub count_alike : (p q : ℕ → Bool) (first other n : ℕ) → ((k : ℕ) → k < n → p (first + k) ≡ q (other + k)) → count_in_run p first n ≡ count_in_run q other n
count_alike p q first other zero same = refl
count_alike p q first other (suc n) same = λ i. (if same n (omega arith) i then 1 else 0) + count_alike p q first other n (λ k h. same k (omega arith)) i

count_none : (p : ℕ → Bool) (first n : ℕ) → ((k : ℕ) → k < n → p (first + k) ≡ false) → count_in_run p first n ≡ 0
count_none p first zero fails = refl
count_none p first (suc n) fails = λ i. (if fails n (omega arith) i then 1 else 0) + count_none p first n (λ k h. fails k (omega arith)) i

pub count_most : (p : ℕ → Bool) (first n : ℕ) → count_in_run p first n ≤ n
count_most p first zero = omega arith
count_most p first (suc n) = omega (arith, one (p (first + n)), count_most p first n) where
  one : (b : Bool) → (if b then 1 else 0) ≤ 1
  one true = omega arith
  one false = omega arith

-- the numbers of a run that lies among others
count_inside : (p : ℕ → Bool) (first n rest : ℕ) → count_in_run (λ k. p k && in_run first n k) 0 (first + n + rest) ≡ count_in_run p first n
count_inside p first n rest =
    let q = λ (k : ℕ). p k && in_run first n k in
    let below : count_in_run q 0 first ≡ 0 = count_none q 0 first (λ k h. outside (p (0 + k)) (0 + k) (grind (arith, nat_tests, h))) in
    let above : count_in_run q (first + n) rest ≡ 0 = count_none q (first + n) rest (λ k h. outside (p (first + n + k)) (first + n + k) (grind (arith, nat_tests))) in
    let inside : count_in_run q first n ≡ count_in_run p first n = count_alike q p first first n (λ k h. within (p (first + k)) (first + k) (grind (arith, nat_tests, h))) in
    let from : 0 + first ≡ first = omega arith in
    let past : 0 + (first + n) ≡ first + n = omega arith in
    let middle : count_in_run q (0 + first) n ≡ count_in_run p first n = ap (λ k. count_in_run q k n) from ∙ inside in
    let end : count_in_run q (0 + (first + n)) rest ≡ 0 = ap (λ k. count_in_run q k rest) past ∙ above in
    omega (arith, count_joined q 0 (first + n) rest, count_joined q 0 first n, below, middle, end) where
      outside : (b : Bool) (k : ℕ) → in_run first n k ≡ false → (b && in_run first n k) ≡ false
      outside true k away = away
      outside false k away = refl

      within : (b : Bool) (k : ℕ) → in_run first n k ≡ true → (b && in_run first n k) ≡ b
      within true k is = is
      within false k is = refl

ones_of_bit : (bit : ℕ) → bit < 2 → ones bit ≡ (if nat_eq bit 1 then 1 else 0)
unfolding ones
ones_of_bit zero low = refl
ones_of_bit (suc zero) low = refl
ones_of_bit (suc (suc n)) low = absurd (omega arith)

-- the ones among the lowest bits of a word
low_ones : (word k : ℕ) → ones (word % 2 ^ k) ≡ count_in_run (has_bit word) 0 k
low_ones word zero = let none : word % 2 ^ zero ≡ 0 = omega arith in ap ones none ∙ ones_of_bit 0 (omega arith)
low_ones word (suc k) =
    let one_more : suc k ≡ 1 + k = omega arith in
    let place : k ≡ 0 + k = omega arith in
    let split : word % 2 ^ (1 + k) ≡ (word / 2 ^ k % 2) * 2 ^ k + word % 2 ^ k = mod-pow-add word 1 k in
    let top : ones (word / 2 ^ k % 2) ≡ (if has_bit word (0 + k) then 1 else 0) = ones_of_bit (word / 2 ^ k % 2) (bit_at-lt word k) ∙ ap (λ i. if has_bit word i then 1 else 0) place in
    ap (λ (i : ℕ). ones (word % 2 ^ i)) one_more ∙ ap ones split ∙ ones_cat k (word / 2 ^ k % 2) (word % 2 ^ k) (mod_below word (2 ^ k) (pow_pos k)) ∙ (λ i. top i + low_ones word k i)

-- the ones of a word
pub ones_are : (word : ℕ) → word < 2 ^ 64 → ones word ≡ count_in_run (has_bit word) 0 64
ones_are word fits = ap ones (sym (mod-eq_of_lt fits)) ∙ low_ones word 64

-- the numbers of a run in one word
pub bits_of_run : (words : List ℕ) (first n : ℕ) → first % 64 + n ≤ 64 → count_in_run (has_bit (slice_index words (first / 64))) (first % 64) n ≡ count_in_run (has_number words) first n
bits_of_run words first n low = count_alike (has_bit (slice_index words (first / 64))) (has_number words) (first % 64) first n (λ k h.
    let here : (first + k) / 64 ≡ first / 64 = omega (arith, low, h) in
    let rest : (first + k) % 64 ≡ first % 64 + k = omega (arith, low, h) in
    λ i. has_bit (slice_index words (sym here i)) (sym rest i))

-- the numbers of a run in one word, as the code counts them
pub masked_ones : (words : List ℕ) (first n mask : ℕ) → slice_index words (first / 64) < 2 ^ 64 → first % 64 + n ≤ 64 → ((i : ℕ) → has_bit mask i ≡ in_run (first % 64) n i) → ones (bit_and (slice_index words (first / 64)) mask) ≡ count_in_run (has_number words) first n
masked_ones words first n mask fits low bits =
    let word = slice_index words (first / 64) in
    let rest = 64 - (first % 64 + n) in
    let whole : 64 ≡ first % 64 + n + rest = omega (arith, low) in
    ones_are (bit_and word mask) (omega (arith, fits, and_le_l word mask))
    ∙ count_alike (has_bit (bit_and word mask)) (λ k. has_bit word k && in_run (first % 64) n k) 0 0 64 (λ k h. has_bit_and word mask (0 + k) ∙ ap (λ b. has_bit word (0 + k) && b) (bits (0 + k)))
    ∙ ap (count_in_run (λ k. has_bit word k && in_run (first % 64) n k) 0) whole ∙ count_inside (has_bit word) (first % 64) n rest ∙ bits_of_run words first n low

-- the numbers of one more word
pub one_word_more : (words : List ℕ) (first count : ℕ) → slice_index words (first + count) < 2 ^ 64 → count_in_run (has_number words) (64 * first) (64 * count) + ones (slice_index words (first + count)) ≡ count_in_run (has_number words) (64 * first) (64 * (count + 1))
one_word_more words first count fits =
    let start = 64 * (first + count) in
    let here : start / 64 ≡ first + count = omega arith in
    let none : start % 64 ≡ 0 = omega arith in
    let last : ones (slice_index words (first + count)) ≡ count_in_run (has_number words) start 64 =
    ones_are (slice_index words (first + count)) fits ∙ (λ i. count_in_run (has_bit (slice_index words (sym here i))) (sym none i) 64) ∙ bits_of_run words start 64 (omega (arith, none)) in
    let place : 64 * first + 64 * count ≡ start = omega arith in
    let long : 64 * count + 64 ≡ 64 * (count + 1) = omega arith in
    ap (λ k. count_in_run (has_number words) (64 * first) (64 * count) + k) (last ∙ ap (λ k. count_in_run (has_number words) k 64) (sym place))
    ∙ sym (count_joined (has_number words) (64 * first) (64 * count) 64) ∙ ap (count_in_run (has_number words) (64 * first)) long

-- the numbers of one more word leave room in the sum
pub sum_fits : (words : List ℕ) (first count all sum : ℕ) → count < all → 64 * all < 2 ^ 32 → slice_index words (first + count) < 2 ^ 64 → sum ≡ count_in_run (has_number words) (64 * first) (64 * count) → sum + ones (slice_index words (first + count)) < 2 ^ 32
sum_fits words first count all sum less few fits is = omega (arith, less, few, is, count_most (has_number words) (64 * first) (64 * count), ones-le 64 (slice_index words (first + count)) fits)

-- the numbers of a run that is all numbers of some words
pub whole_count : (words : List ℕ) (first order : ℕ) → Parts first order → 6 < order → count_in_run (has_number words) (64 * (first / 64)) (64 * 2 ^ (order - 6)) ≡ count_in_run (has_number words) first (2 ^ order)
whole_count words first order p more =
    let start : 64 * (first / 64) ≡ first = omega (arith, p.start more) in
    λ i. count_in_run (has_number words) (start i) (sym (p.count more) i)

-- the numbers of a run, by whole words and by the parts of the words at its two ends
pub count_by_words : (p : ℕ → Bool) (first end : ℕ) → first ≤ end → count_in_run p (64 * (first / 64)) (64 * (end / 64 - first / 64)) + count_in_run p (64 * (end / 64)) (end % 64) ≡ count_in_run p (64 * (first / 64)) (first % 64) + count_in_run p first (end - first)
count_by_words p first end most =
    let start = 64 * (first / 64) in
    let whole = 64 * (end / 64 - first / 64) in
    let last : start + whole ≡ 64 * (end / 64) = omega (arith, most) in
    let from : start + first % 64 ≡ first = omega arith in
    let long : whole + end % 64 ≡ first % 64 + (end - first) = omega (arith, most) in
    (λ i. count_in_run p start whole + count_in_run p (sym last i) (end % 64)) ∙ sym (count_joined p start whole (end % 64)) ∙ ap (count_in_run p start) long
    ∙ count_joined p start (first % 64) (end - first) ∙ (λ i. count_in_run p start (first % 64) + count_in_run p (from i) (end - first))
