-- Runs of numbers: the words that a run is in, and its bits there.
use Rattle.std.proofs.Common.{◌≡◌, ◌≢◌, ℕ, zero, suc, ◌+◌, ◌-◌, ◌*◌, ◌/◌, ◌%◌, ◌^◌, ◌<◌, ◌≤◌, ◌⊎◌, Bool, true, false, not, [], ◌∷◌, inl, inr, refl, sym, ap, ◌∙◌, subst, List, length, slice_index, get_or-set_same, get_or-set_other, eq-eqb, arith, rules}
use Rattle.std.specs.Prelude.{nat_eq, nat_le, nat_lt, ◌&&◌, ◌||◌, bit_and, bit_or, slice_set, if◌then◌else◌}
use Rattle.std.specs.Int.{bit_at}
use Rattle.std.proofs.lemmas.Bool.{and_parts, eqb-true, ne_eqb, le-leb, lt-ltb, le-ltb, lt-leb, leb-true, ltb-true}
use Rattle.std.proofs.lemmas.Bool.Decides.{eqb_tells, leb_tells, nat_tests}
use Rattle.std.specs.List.{list_all, slice_range}
use Rattle.std.proofs.lemmas.List.{get_or_default, places}
use Rattle.std.proofs.lemmas.List.Sums.{AllPass-from_list_all, list_all-from_AllPass}
use Rattle.std.proofs.lemmas.Nat.{pow-add, pow_pos, and_le_l, and_le_r, div-mul-add}
use Rattle.std.proofs.lemmas.Nat.Bits.{bit_at_and, bit_at_mask_inside, bit_at_mask_below, bit_at_mask_above, bit_at-lt, same_from_bits_below}
use Rattle.std.proofs.Math.Nat.{mod-eq_of_lt, mul-sub}
use Rattle.std.proofs.Math.Pow.{pow_mono, pow-lt}
use Rattle.number_set.specs.Bits.{has_bit, has_number, is_filled}
use Rattle.number_set.specs.Runs.{in_run}
use Rattle.number_set.proofs.Masking.{clash, has_bit_added, has_bit_and, has_bit_removed, has_bit_zero}
use Rattle.number_set.proofs.Numbering.{filled_cut, filled_put}

-- count ones from a bit on, as a number
ones_shifted : (k s i : ℕ) → s + k ≤ 64 → has_bit ((2 ^ k - 1) * 2 ^ s % 2 ^ 64) i ≡ in_run s k i
ones_shifted k s i fits =
    let whole : (2 ^ k - 1) * 2 ^ s ≡ 2 ^ (s + k) - 2 ^ s = omega (arith, pow-add 2 s k, mul-sub (2 ^ s) (2 ^ k) 1) in
    let most : 2 ^ (s + k) ≤ 2 ^ 64 = pow_mono fits in
    let below : (2 ^ k - 1) * 2 ^ s < 2 ^ 64 = omega (arith, whole, most, pow_pos s) in
    ap (λ n. has_bit n i) (mod-eq_of_lt below ∙ whole) ∙ elim (leb_tells s i) [
      | inl low ↦ elim (leb_tells (s + k) i) [
        | inl past ↦ (ap (λ n. nat_eq n 1) (bit_at_mask_above s (s + k) i past.1) ∙ sym ((λ j. le-leb s i low.1 j && le-ltb i (s + k) past.1 j)))
        | inr inside ↦ (ap (λ n. nat_eq n 1) (bit_at_mask_inside s (s + k) i low.1 inside.1) ∙ sym ((λ j. le-leb s i low.1 j && lt-ltb i (s + k) inside.1 j)))
      ]
      | inr before ↦ (ap (λ n. nat_eq n 1) (bit_at_mask_below s (s + k) i before.1) ∙ sym (ap (λ b. b && nat_lt i (s + k)) (lt-leb s i before.1)))
    ]

-- a word of ones that is shifted down has so many ones
ones_left : (count : ℕ) → 0 < count → count ≤ 64 → 18446744073709551615 / 2 ^ (64 - count) ≡ 2 ^ count - 1
ones_left count some fits =
    let rest = 64 - count in
    let sum : count + rest ≡ 64 = omega arith in
    let whole : 2 ^ count * 2 ^ rest ≡ 2 ^ 64 = sym (pow-add 2 count rest) ∙ ap (λ (k : ℕ). 2 ^ k) sum in
    let less : (2 ^ count - 1) * 2 ^ rest ≡ 2 ^ count * 2 ^ rest - 1 * 2 ^ rest = omega (arith, mul-sub (2 ^ rest) (2 ^ count) 1) in
    let short : rest ≤ 64 = omega arith in
    let most : 2 ^ rest ≤ 2 ^ 64 = pow_mono short in
    let parts : 18446744073709551615 ≡ (2 ^ count - 1) * 2 ^ rest + (2 ^ rest - 1) = omega (arith, less, whole, most, pow_pos rest) in
    ap (λ n. n / 2 ^ rest) parts ∙ div-mul-add (2 ^ count - 1) (2 ^ rest) (2 ^ rest - 1) (omega (arith, pow_pos rest))

pub from_zero : (bound n : ℕ) → in_run 0 bound n ≡ nat_lt n bound
from_zero bound n = grind (arith, nat_tests)

-- the lowest bits of a word, as the code makes them
pub low_is : (count i : ℕ) → 0 < count → count ≤ 64 → has_bit (18446744073709551615 / 2 ^ (64 - count)) i ≡ nat_lt i count
low_is count i some fits =
    let most : 2 ^ count ≤ 2 ^ 64 = pow_mono fits in
    let below : (2 ^ count - 1) * 2 ^ 0 < 2 ^ 64 = omega (arith, most, pow_pos count) in
    let same : (2 ^ count - 1) * 2 ^ 0 ≡ 2 ^ count - 1 = omega arith in
    ap (λ n. has_bit n i) (ones_left count some fits ∙ sym (mod-eq_of_lt below ∙ same)) ∙ ones_shifted count 0 i (omega (arith, fits)) ∙ from_zero count i

-- the lowest bits of a word, 2^order of them
ones_of : (order : ℕ) → order ≤ 6 → slice_index (1 ∷ 3 ∷ 15 ∷ 255 ∷ 65535 ∷ 4294967295 ∷ 18446744073709551615 ∷ []) order ≡ 2 ^ 2 ^ order - 1
ones_of zero few = refl
ones_of (suc zero) few = refl
ones_of (suc (suc zero)) few = refl
ones_of (suc (suc (suc zero))) few = refl
ones_of (suc (suc (suc (suc zero)))) few = refl
ones_of (suc (suc (suc (suc (suc zero))))) few = refl
ones_of (suc (suc (suc (suc (suc (suc zero)))))) few = refl
ones_of (suc (suc (suc (suc (suc (suc (suc n))))))) few = absurd (omega arith)

-- the bits of a run, as the code makes them
pub run_is : (first order i : ℕ) → order ≤ 6 → first + 2 ^ order ≤ 64 → has_bit (slice_index (1 ∷ 3 ∷ 15 ∷ 255 ∷ 65535 ∷ 4294967295 ∷ 18446744073709551615 ∷ []) order * 2 ^ first % 2 ^ 64) i ≡ in_run first (2 ^ order) i
run_is first order i few fits = ap (λ n. has_bit (n * 2 ^ first % 2 ^ 64) i) (ones_of order few) ∙ ones_shifted (2 ^ order) first i fits

-- what holds of each of the numbers to 9
by_order : (P : ℕ → Type 0) → P 0 → P 1 → P 2 → P 3 → P 4 → P 5 → P 6 → P 7 → P 8 → P 9 → (n : ℕ) → n ≤ 9 → P n
by_order P a b c d e f g h i j zero most = a
by_order P a b c d e f g h i j (suc zero) most = b
by_order P a b c d e f g h i j (suc (suc zero)) most = c
by_order P a b c d e f g h i j (suc (suc (suc zero))) most = d
by_order P a b c d e f g h i j (suc (suc (suc (suc zero)))) most = e
by_order P a b c d e f g h i j (suc (suc (suc (suc (suc zero))))) most = f
by_order P a b c d e f g h i j (suc (suc (suc (suc (suc (suc zero)))))) most = g
by_order P a b c d e f g h i j (suc (suc (suc (suc (suc (suc (suc zero))))))) most = h
by_order P a b c d e f g h i j (suc (suc (suc (suc (suc (suc (suc (suc zero)))))))) most = i
by_order P a b c d e f g h i j (suc (suc (suc (suc (suc (suc (suc (suc (suc zero))))))))) most = j
by_order P a b c d e f g h i j (suc (suc (suc (suc (suc (suc (suc (suc (suc (suc n)))))))))) most = absurd (omega arith)

-- a run lies in one word, or is all numbers of some words
pub record Parts (first order : ℕ) : Type 0 where
  pub low : order ≤ 6 → first % 64 + 2 ^ order ≤ 64
  pub one : order ≤ 6 → 2 ^ (order - 6) ≡ 1
  pub count : 6 < order → 2 ^ order ≡ 64 * 2 ^ (order - 6)
  pub start : 6 < order → first % 64 ≡ 0
  pub above : first / 64 % 2 ^ (order - 6) ≡ 0

pub parts : (first order : ℕ) → order ≤ 9 → first % 2 ^ order ≡ 0 → Parts first order
parts first order few aligned =
    by_order (λ o. first % 2 ^ o ≡ 0 → Parts first o)
    (λ e. record { low = λ l. omega (arith, e, l); one = λ l. refl; count = λ m. absurd (omega (arith, m)); start = λ m. absurd (omega (arith, m)); above = omega (arith, e) })
    (λ e. record { low = λ l. omega (arith, e, l); one = λ l. refl; count = λ m. absurd (omega (arith, m)); start = λ m. absurd (omega (arith, m)); above = omega (arith, e) })
    (λ e. record { low = λ l. omega (arith, e, l); one = λ l. refl; count = λ m. absurd (omega (arith, m)); start = λ m. absurd (omega (arith, m)); above = omega (arith, e) })
    (λ e. record { low = λ l. omega (arith, e, l); one = λ l. refl; count = λ m. absurd (omega (arith, m)); start = λ m. absurd (omega (arith, m)); above = omega (arith, e) })
    (λ e. record { low = λ l. omega (arith, e, l); one = λ l. refl; count = λ m. absurd (omega (arith, m)); start = λ m. absurd (omega (arith, m)); above = omega (arith, e) })
    (λ e. record { low = λ l. omega (arith, e, l); one = λ l. refl; count = λ m. absurd (omega (arith, m)); start = λ m. absurd (omega (arith, m)); above = omega (arith, e) })
    (λ e. record { low = λ l. omega (arith, e, l); one = λ l. refl; count = λ m. absurd (omega (arith, m)); start = λ m. absurd (omega (arith, m)); above = omega (arith, e) })
    (λ e. record { low = λ l. absurd (omega (arith, l)); one = λ l. absurd (omega (arith, l)); count = λ m. refl; start = λ m. omega (arith, e); above = omega (arith, e) })
    (λ e. record { low = λ l. absurd (omega (arith, l)); one = λ l. absurd (omega (arith, l)); count = λ m. refl; start = λ m. omega (arith, e); above = omega (arith, e) })
    (λ e. record { low = λ l. absurd (omega (arith, l)); one = λ l. absurd (omega (arith, l)); count = λ m. refl; start = λ m. omega (arith, e); above = omega (arith, e) })
    order few aligned

-- a count that is shifted, as the code makes it
pub count_fits : (k : ℕ) → k < 32 → 1 * 2 ^ k % 2 ^ 32 ≡ 2 ^ k
count_fits k h = let below : 2 ^ k < 2 ^ 32 = pow-lt h in let same : 1 * 2 ^ k ≡ 2 ^ k = omega arith in ap (λ n. n % 2 ^ 32) same ∙ mod-eq_of_lt below

-- the words of a run are within the level
pub words_within : (first order count : ℕ) → order ≤ 9 → first % 2 ^ order ≡ 0 → first + 2 ^ order ≤ 64 * count → first / 64 + 2 ^ (order - 6) ≤ count
words_within first order count few aligned within =
    let p = parts first order few aligned in
    elim (leb_tells order 6) [
      | inl low ↦ omega (arith, within, p.one low.1, pow_pos order)
      | inr more ↦ omega (arith, within, p.count more.1, p.start more.1)
    ]

-- the numbers of some words
words_run : (first count n : ℕ) → first % 64 ≡ 0 → in_run (first / 64) count (n / 64) ≡ in_run first (64 * count) n
words_run first count n start = grind (arith, nat_tests, start)

-- the words of a run that is all numbers of some words
whole_words : (first order n : ℕ) → Parts first order → 6 < order → in_run (first / 64) (2 ^ (order - 6)) (n / 64) ≡ in_run first (2 ^ order) n
whole_words first order n p more = words_run first (2 ^ (order - 6)) n (p.start more) ∙ ap (λ c. in_run first c n) (sym (p.count more))

-- the numbers of a run in one word
word_run : (first count n : ℕ) → first % 64 + count ≤ 64 → (nat_eq (n / 64) (first / 64) && in_run (first % 64) count (n % 64)) ≡ in_run first count n
word_run first count n low = grind (arith, nat_tests, low)

one_word : (word i : ℕ) → in_run word 1 i ≡ nat_eq i word
one_word word i = grind (arith, nat_tests)

all_ones : (i : ℕ) → i < 64 → has_bit 18446744073709551615 i ≡ true
all_ones i low = ap (λ n. nat_eq n 1) (bit_at_mask_inside 0 64 i (omega arith) low)

-- a word that got the bits of a mask isn't empty, where the mask has one
some_bit : (had mask i : ℕ) → has_bit mask i ≡ true → 0 < bit_or had mask
some_bit had mask i set = elim (eqb_tells (bit_or had mask) 0) [
  | inl none ↦ clash (has_bit (bit_or had mask) i) (has_bit_added had mask i ∙ ap (λ b. b || has_bit had i) set) (ap (λ w. has_bit w i) none.1 ∙ has_bit_zero i)
  | inr some ↦ omega (arith, some.1)
]

-- one word got the bits of a mask, or lost them
module _ (words : List ℕ) (word mask : ℕ) (within : word < length words) where
  here : (n bits : ℕ) → n / 64 ≡ word → has_number (slice_set words word bits) n ≡ has_bit bits (n % 64)
  here n bits at = ap (λ k. has_bit (slice_index (slice_set words word bits) k) (n % 64)) at ∙ ap (λ w. has_bit w (n % 64)) (get_or-set_same words word bits 0 within)

  elsewhere : (n bits : ℕ) → n / 64 ≢ word → has_number (slice_set words word bits) n ≡ has_number words n
  elsewhere n bits away = ap (λ w. has_bit w (n % 64)) (get_or-set_other words word (n / 64) bits 0 away)

  pub mask_put : (n : ℕ) → has_number (slice_set words word (bit_or (slice_index words word) mask)) n ≡ ((nat_eq (n / 64) word && has_bit mask (n % 64)) || has_number words n)
  mask_put n =
      let bits = bit_or (slice_index words word) mask in
      elim (eqb_tells (n / 64) word) [
        | inl at ↦ here n bits at.1 ∙ has_bit_added (slice_index words word) mask (n % 64)
            ∙ ap (λ k. has_bit mask (n % 64) || has_bit (slice_index words k) (n % 64)) (sym at.1)
            ∙ ap (λ b. (b && has_bit mask (n % 64)) || has_number words n) (sym (eq-eqb (n / 64) word at.1))
        | inr away ↦ elsewhere n bits away.1 ∙ ap (λ b. (b && has_bit mask (n % 64)) || has_number words n) (sym (ne_eqb (n / 64) word away.1))
      ]

  pub mask_cut : mask < 2 ^ 64 → (n : ℕ) → has_number (slice_set words word (bit_and (slice_index words word) (2 ^ 64 - 1 - mask))) n ≡ (not (nat_eq (n / 64) word && has_bit mask (n % 64)) && has_number words n)
  mask_cut fits n =
      let bits = bit_and (slice_index words word) (2 ^ 64 - 1 - mask) in
      elim (eqb_tells (n / 64) word) [
        | inl at ↦ here n bits at.1 ∙ has_bit_removed (slice_index words word) mask (n % 64) fits (omega arith)
            ∙ ap (λ k. not (has_bit mask (n % 64)) && has_bit (slice_index words k) (n % 64)) (sym at.1)
            ∙ ap (λ b. not (b && has_bit mask (n % 64)) && has_number words n) (sym (eq-eqb (n / 64) word at.1))
        | inr away ↦ elsewhere n bits away.1 ∙ ap (λ b. not (b && has_bit mask (n % 64)) && has_number words n) (sym (ne_eqb (n / 64) word away.1))
      ]

-- a run in one word was put in or taken out
module _ (words : List ℕ) (first order mask : ℕ) (p : Parts first order) (less : order ≤ 6) (within : first / 64 < length words) (ones : (i : ℕ) → has_bit mask i ≡ in_run (first % 64) (2 ^ order) i) where
  its_bits : (n : ℕ) → (nat_eq (n / 64) (first / 64) && has_bit mask (n % 64)) ≡ in_run first (2 ^ order) n
  its_bits n = ap (λ b. nat_eq (n / 64) (first / 64) && b) (ones (n % 64)) ∙ word_run first (2 ^ order) n (p.low less)

  its_word : (i : ℕ) → in_run (first / 64) (2 ^ (order - 6)) i ≡ nat_eq i (first / 64)
  its_word i = ap (λ c. in_run (first / 64) c i) (p.one less) ∙ one_word (first / 64) i

  pub part_put : (n : ℕ) → has_number (slice_set words (first / 64) (bit_or (slice_index words (first / 64)) mask)) n ≡ (in_run first (2 ^ order) n || has_number words n)
  part_put n = mask_put words (first / 64) mask within n ∙ ap (λ b. b || has_number words n) (its_bits n)

  pub part_cut : mask < 2 ^ 64 → (n : ℕ) → has_number (slice_set words (first / 64) (bit_and (slice_index words (first / 64)) (2 ^ 64 - 1 - mask))) n ≡ (not (in_run first (2 ^ order) n) && has_number words n)
  part_cut fits n = mask_cut words (first / 64) mask within fits n ∙ ap (λ b. not b && has_number words n) (its_bits n)

  first_bit : has_bit mask (first % 64) ≡ true
  first_bit = ones (first % 64) ∙ (λ j. le-leb (first % 64) (first % 64) (omega arith) j && lt-ltb (first % 64) (first % 64 + 2 ^ order) (omega (arith, pow_pos order)) j)

  pub part_filled : (i : ℕ) → is_filled (slice_set words (first / 64) (bit_or (slice_index words (first / 64)) mask)) i ≡ ((nat_eq (slice_index words (first / 64)) 0 && in_run (first / 64) (2 ^ (order - 6)) i) || is_filled words i)
  part_filled i =
      let had = slice_index words (first / 64) in
      filled_put words (first / 64) (bit_or had mask) within (some_bit had mask (first % 64) first_bit) i ∙ sym (ap (λ b. (nat_eq had 0 && b) || is_filled words i) (its_word i) ∙ elim (eqb_tells i (first / 64)) [
        | inl at ↦ (let same : slice_index words i ≡ had = ap (slice_index words) at.1 in grind (arith, nat_tests, same, at.1))
        | inr away ↦ grind (arith, nat_tests, away.1)
      ])

  pub part_emptied : (i : ℕ) → is_filled (slice_set words (first / 64) (bit_and (slice_index words (first / 64)) (2 ^ 64 - 1 - mask))) i ≡ (not (nat_eq (bit_and (slice_index words (first / 64)) (2 ^ 64 - 1 - mask)) 0 && in_run (first / 64) (2 ^ (order - 6)) i) && is_filled words i)
  part_emptied i =
      let left = bit_and (slice_index words (first / 64)) (2 ^ 64 - 1 - mask) in
      filled_cut words (first / 64) left within (and_le_l (slice_index words (first / 64)) (2 ^ 64 - 1 - mask)) i ∙ ap (λ b. not (nat_eq left 0 && b) && is_filled words i) (sym (its_word i))

-- a bit of the mask that a word lacks
module _ (word mask : ℕ) where
  missing_below : (n : ℕ) → ((i : ℕ) × (i < n) × (has_bit mask i ≡ true) × (has_bit word i ≡ false)) ⊎ ((i : ℕ) → i < n → bit_at mask i ≡ 1 → bit_at word i ≡ 1)
  missing_below zero = inr (λ i h e. absurd (omega arith))
  missing_below (suc n) = elim (missing_below n) [
    | inl found ↦ inl (found.0, omega (arith, found.1), found.2, found.3)
    | inr none ↦ elim (eqb_tells (bit_at mask n) 1) [
      | inl set ↦ elim (eqb_tells (bit_at word n) 1) [
        | inl had ↦ inr (λ i h e. elim (eqb_tells i n) [ inl at ↦ ap (bit_at word) at.1 ∙ had.1 | inr away ↦ none i (omega (arith, away.1)) e ])
        | inr lost ↦ inl (n, omega arith, eq-eqb (bit_at mask n) 1 set.1, ne_eqb (bit_at word n) 1 lost.1)
      ]
      | inr unset ↦ inr (λ i h e. elim (eqb_tells i n) [ inl at ↦ absurd (unset.1 (ap (bit_at mask) (sym at.1) ∙ e)) | inr away ↦ none i (omega (arith, away.1)) e ])
    ]
  ]

  missing_bit : mask < 2 ^ 64 → bit_and word mask ≢ mask → (i : ℕ) × (i < 64) × (has_bit mask i ≡ true) × (has_bit word i ≡ false)
  missing_bit fits differ = elim (missing_below 64) [
    | inl found ↦ found
    | inr all ↦ absurd (differ (same_from_bits_below 64 (bit_and word mask) mask (omega (arith, and_le_r word mask)) fits
        (λ i h. elim (eqb_tells (bit_at mask i) 1) [
          | inl set ↦ omega (arith, bit_at_and word mask i, all i h set.1, set.1)
          | inr unset ↦ omega (arith, bit_at_and word mask i, unset.1, bit_at-lt mask i)
        ])))
  ]

  -- where a word has the whole mask, it has each of the mask's bits
  has_mask : bit_and word mask ≡ mask → (i : ℕ) → has_bit mask i ≡ true → has_bit word i ≡ true
  has_mask same i set = (and_parts (has_bit word i) (has_bit mask i) (sym (has_bit_and word mask i) ∙ ap (λ n. has_bit n i) same ∙ set)).0

-- a run in one word is there where the word has the whole mask
module _ (words : List ℕ) (first order mask : ℕ) (p : Parts first order) (less : order ≤ 6) (within : first / 64 < length words) (ones : (i : ℕ) → has_bit mask i ≡ in_run (first % 64) (2 ^ order) i) where
  pub part_found : bit_and (slice_index words (first / 64)) mask ≡ mask → (n : ℕ) → in_run first (2 ^ order) n ≡ true → has_number words n ≡ true
  part_found same n inside =
      let both = and_parts (nat_eq (n / 64) (first / 64)) (has_bit mask (n % 64)) (its_bits words first order mask p less within ones n ∙ inside) in
      ap (λ k. has_bit (slice_index words k) (n % 64)) (eqb-true (n / 64) (first / 64) both.0) ∙ has_mask (slice_index words (first / 64)) mask same (n % 64) both.1

  pub part_has : mask < 2 ^ 64 → ((n : ℕ) → in_run first (2 ^ order) n ≡ true → has_number words n ≡ true) → bit_and (slice_index words (first / 64)) mask ≡ mask
  part_has fits all = elim (eqb_tells (bit_and (slice_index words (first / 64)) mask) mask) [
    | inl same ↦ same.1
    | inr differ ↦
        let missed = missing_bit (slice_index words (first / 64)) mask fits differ.1 in
        let i = missed.0 in
        let low : i < 64 = missed.1 in
        let n = 64 * (first / 64) + i in
        let here : n / 64 ≡ first / 64 = omega arith in
        let rest : n % 64 ≡ i = omega arith in
        let inside : in_run first (2 ^ order) n ≡ true = sym (its_bits words first order mask p less within ones n) ∙ (λ j. eq-eqb (n / 64) (first / 64) here j && (ap (has_bit mask) rest ∙ missed.2) j) in
        clash (has_bit (slice_index words (first / 64)) i) (sym (λ j. has_bit (slice_index words (here j)) (rest j)) ∙ all n inside) missed.3
  ]

-- the same bits were written to some words
module _ (words new : List ℕ) (start count bits : ℕ) (each : (word : ℕ) → slice_index new word ≡ (if in_run start count word then bits else slice_index words word)) where
  of_ones : bits ≡ 18446744073709551615 → (n : ℕ) → has_number new n ≡ (in_run start count (n / 64) || has_number words n)
  of_ones ones n = ap (λ w. has_bit w (n % 64)) (each (n / 64)) ∙ by_word (in_run start count (n / 64)) where
    by_word : (b : Bool) → has_bit (if b then bits else slice_index words (n / 64)) (n % 64) ≡ (b || has_number words n)
    by_word true = ap (λ w. has_bit w (n % 64)) ones ∙ all_ones (n % 64) (omega arith)
    by_word false = refl

  of_zeros : bits ≡ 0 → (n : ℕ) → has_number new n ≡ (not (in_run start count (n / 64)) && has_number words n)
  of_zeros none n = ap (λ w. has_bit w (n % 64)) (each (n / 64)) ∙ by_word (in_run start count (n / 64)) where
    by_word : (b : Bool) → has_bit (if b then bits else slice_index words (n / 64)) (n % 64) ≡ (not b && has_number words n)
    by_word true = ap (λ w. has_bit w (n % 64)) none ∙ has_bit_zero (n % 64)
    by_word false = refl

  pub ones_filled : bits ≡ 18446744073709551615 → (i : ℕ) → is_filled new i ≡ (in_run start count i || is_filled words i)
  ones_filled ones i = ap (nat_lt 0) (each i) ∙ by_word (in_run start count i) where
    by_word : (b : Bool) → nat_lt 0 (if b then bits else slice_index words i) ≡ (b || is_filled words i)
    by_word true = ap (nat_lt 0) ones
    by_word false = refl

  pub zeros_filled : bits ≡ 0 → (i : ℕ) → is_filled new i ≡ (not (in_run start count i) && is_filled words i)
  zeros_filled none i = ap (nat_lt 0) (each i) ∙ by_word (in_run start count i) where
    by_word : (b : Bool) → nat_lt 0 (if b then bits else slice_index words i) ≡ (not b && is_filled words i)
    by_word true = ap (nat_lt 0) none
    by_word false = refl

-- a run of whole words was put in or taken out
module _ (words new : List ℕ) (first order bits : ℕ) (p : Parts first order) (more : 6 < order) (each : (word : ℕ) → slice_index new word ≡ (if in_run (first / 64) (2 ^ (order - 6)) word then bits else slice_index words word)) where
  pub whole_put : bits ≡ 18446744073709551615 → (n : ℕ) → has_number new n ≡ (in_run first (2 ^ order) n || has_number words n)
  whole_put ones n = of_ones words new (first / 64) (2 ^ (order - 6)) bits each ones n ∙ ap (λ b. b || has_number words n) (whole_words first order n p more)

  pub whole_cut : bits ≡ 0 → (n : ℕ) → has_number new n ≡ (not (in_run first (2 ^ order) n) && has_number words n)
  whole_cut none n = of_zeros words new (first / 64) (2 ^ (order - 6)) bits each none n ∙ ap (λ b. not b && has_number words n) (whole_words first order n p more)

-- a run as the code shifts it
module _ (first order : ℕ) (few : order ≤ 9) (aligned : first % 2 ^ order ≡ 0) where
  pub shifted_within : (count : ℕ) → first + 2 ^ order ≤ 64 * count → first / 64 + 1 * 2 ^ (order - 6) % 2 ^ 32 ≤ count
  shifted_within count within = omega (arith, words_within first order count few aligned within, count_fits (order - 6) (omega arith))

-- all numbers below a bound were put in: those of whole words, and then those of a part of one
below_words : (count n : ℕ) → in_run 0 count (n / 64) ≡ nat_lt n (64 * count)
below_words count n = grind (arith, nat_tests)

module _ (words new : List ℕ) (bound : ℕ) (each : (word : ℕ) → slice_index new word ≡ (if in_run 0 (bound / 64) word then 18446744073709551615 else slice_index words word)) where
  by_words : (n : ℕ) → has_number new n ≡ (nat_lt n (64 * (bound / 64)) || has_number words n)
  by_words n = of_ones words new 0 (bound / 64) 18446744073709551615 each refl n ∙ ap (λ b. b || has_number words n) (below_words (bound / 64) n)

  pub whole_below : bound % 64 ≡ 0 → (n : ℕ) → has_number new n ≡ (nat_lt n bound || has_number words n)
  whole_below none n = let same : 64 * (bound / 64) ≡ bound = omega (arith, none) in by_words n ∙ ap (λ k. nat_lt n k || has_number words n) same

  module _ (mask : ℕ) (within : bound / 64 < length new) (some : 0 < bound % 64) (ones : (i : ℕ) → has_bit mask i ≡ nat_lt i (bound % 64)) where
    joined : (n : ℕ) (x : Bool) → ((nat_eq (n / 64) (bound / 64) && nat_lt (n % 64) (bound % 64)) || (nat_lt n (64 * (bound / 64)) || x)) ≡ (nat_lt n bound || x)
    joined n x = grind (arith, nat_tests)

    joined_words : (i : ℕ) (x : Bool) → (nat_eq i (bound / 64) || (in_run 0 (bound / 64) i || x)) ≡ (nat_lt i ((bound + 63) / 64) || x)
    joined_words i x = grind (arith, nat_tests, some)

    pub part_below : (n : ℕ) → has_number (slice_set new (bound / 64) (bit_or (slice_index new (bound / 64)) mask)) n ≡ (nat_lt n bound || has_number words n)
    part_below n = mask_put new (bound / 64) mask within n ∙ (λ j. (nat_eq (n / 64) (bound / 64) && ones (n % 64) j) || by_words n j) ∙ joined n (has_number words n)

    pub part_below_filled : (i : ℕ) → is_filled (slice_set new (bound / 64) (bit_or (slice_index new (bound / 64)) mask)) i ≡ (nat_lt i ((bound + 63) / 64) || is_filled words i)
    part_below_filled i =
        filled_put new (bound / 64) (bit_or (slice_index new (bound / 64)) mask) within (some_bit (slice_index new (bound / 64)) mask 0 (ones 0 ∙ lt-ltb 0 (bound % 64) some)) i
        ∙ ap (λ b. nat_eq i (bound / 64) || b) (ones_filled words new 0 (bound / 64) 18446744073709551615 each refl i) ∙ joined_words i (is_filled words i)

-- whether all numbers of some words are there
module _ (words : List ℕ) (first order : ℕ) (p : Parts first order) (more : 6 < order) (within : first / 64 + 2 ^ (order - 6) ≤ length words) where
  abbrev run : List ℕ
  run = slice_range words (first / 64) (first / 64 + 2 ^ (order - 6))

  run_long : length run ≡ 2 ^ (order - 6)
  run_long = let back : length (slice_range words (first / 64) (first / 64 + 2 ^ (order - 6))) ≡ first / 64 + 2 ^ (order - 6) - first / 64 = search (rules, places) in omega (arith, back)

  run_at : (k : ℕ) → k < length run → slice_index run k ≡ slice_index words (first / 64 + k)
  run_at k low =
      let below : k < 2 ^ (order - 6) = omega (arith, low, run_long) in
      let size : first / 64 + 2 ^ (order - 6) - first / 64 ≡ 2 ^ (order - 6) = omega arith in
      search (rules, places)

  pub whole_found : list_all (λ bits. nat_eq bits 18446744073709551615) run ≡ true → (n : ℕ) → in_run first (2 ^ order) n ≡ true → has_number words n ≡ true
  whole_found full n inside =
      let both = and_parts (nat_le (first / 64) (n / 64)) (nat_lt (n / 64) (first / 64 + 2 ^ (order - 6))) (whole_words first order n p more ∙ inside) in
      let from = leb-true (first / 64) (n / 64) both.0 in
      let to = ltb-true (n / 64) (first / 64 + 2 ^ (order - 6)) both.1 in
      let k = n / 64 - first / 64 in
      let low : k < length run = omega (arith, from, to, run_long) in
      let there : first / 64 + k ≡ n / 64 = omega (arith, from) in
      let all : slice_index run k ≡ 18446744073709551615 = eqb-true (slice_index run k) 18446744073709551615 (AllPass-from_list_all (λ bits. nat_eq bits 18446744073709551615) run full k 0 low) in
      ap (λ w. has_bit w (n % 64)) (ap (slice_index words) (sym there) ∙ sym (run_at k low) ∙ all) ∙ all_ones (n % 64) (omega arith)

  -- a word with all its bits
  full_word : (word : ℕ) → word < 2 ^ 64 → ((i : ℕ) → i < 64 → has_bit word i ≡ true) → word ≡ 18446744073709551615
  full_word word fits all = elim (eqb_tells (bit_and word 18446744073709551615) 18446744073709551615) [
    | inl same ↦ omega (arith, same.1, and_le_l word 18446744073709551615, fits)
    | inr differ ↦ (let missed = missing_bit word 18446744073709551615 (omega arith) differ.1 in clash (has_bit word missed.0) (all missed.0 missed.1) missed.3)
  ]

  pub whole_has : ((k : ℕ) → k < length words → slice_index words k < 2 ^ 64) → ((n : ℕ) → in_run first (2 ^ order) n ≡ true → has_number words n ≡ true) → list_all (λ bits. nat_eq bits 18446744073709551615) run ≡ true
  whole_has fits all = list_all-from_AllPass (λ bits. nat_eq bits 18446744073709551615) run (λ k d low.
      let word = first / 64 + k in
      let below : k < 2 ^ (order - 6) = omega (arith, low, run_long) in
      let is : slice_index run k ≡ 18446744073709551615 = run_at k low ∙ full_word (slice_index words word) (fits word (omega (arith, below, within))) (λ i less.
      let n = 64 * word + i in
      let here : n / 64 ≡ word = omega arith in
      let rest : n % 64 ≡ i = omega arith in
      let inside : in_run (first / 64) (2 ^ (order - 6)) (n / 64) ≡ true = λ j. le-leb (first / 64) (n / 64) (omega (arith, here)) j && lt-ltb (n / 64) (first / 64 + 2 ^ (order - 6)) (omega (arith, here, below)) j in
      sym (λ j. has_bit (slice_index words (here j)) (rest j)) ∙ all n (sym (whole_words first order n p more) ∙ inside)) in
      ap (λ b. nat_eq b 18446744073709551615) (get_or_default run k d 0 low ∙ is))

-- the words of a run are within the level above, which is told of them
pub told_within : (first order count above : ℕ) → order ≤ 9 → first % 2 ^ order ≡ 0 → above ≡ order - 6 → first + 2 ^ order ≤ 64 * count → first / 64 + 2 ^ above ≤ count
told_within first order count above few aligned is within = subst (λ (k : ℕ). first / 64 + 2 ^ k ≤ count) (sym is) (words_within first order count few aligned within)

-- and they are a run there
pub told_aligned : (first order above : ℕ) → order ≤ 9 → first % 2 ^ order ≡ 0 → above ≡ order - 6 → first / 64 % 2 ^ above ≡ 0
told_aligned first order above few aligned is = subst (λ (k : ℕ). first / 64 % 2 ^ k ≡ 0) (sym is) (parts first order few aligned).above
