-- Sets that are gathered from tests.
use Rattle.std.proofs.Common.{◌≡◌, ◌≢◌, ℕ, zero, suc, ◌*◌, ◌/◌, ◌%◌, ◌^◌, ◌<◌, ◌≤◌, Bool, true, false, not, List, length, inl, inr, refl, sym, ap, ◌∙◌, eq-eqb, arith}
use Rattle.std.specs.Prelude.{nat_eq, ◌-◌, ◌&&◌, ◌||◌, bit_and, bit_or, if◌then◌else◌}
use Rattle.std.specs.Ordering.{nat_cmp}
use Rattle.std.specs.Cmp.{nat_cmp_total, unsigned_tied}
use Rattle.std.specs.FinSet as set
use Rattle.std.proofs.lemmas.Bool.{ne_eqb}
use Rattle.std.proofs.lemmas.Bool.Decides.{eqb_tells, leb_tells}
use Rattle.std.proofs.lemmas.List.{get_or_past}
use Rattle.number_set.specs.Bits.{has_bit, has_number}
use Rattle.number_set.specs.Numbers.{gathered, numbers_of}
use Rattle.std.proofs.lemmas.Nat.{and_le_l, or_lt}
use Rattle.number_set.proofs.Masking.{has_bit_added, has_bit_past, has_bit_pow, has_bit_removed, has_bit_zero, pow_below}

pub member_insert : (s : set.FinSet nat_cmp) (k q : ℕ) → set.contains (set.insert s k) q ≡ (nat_eq q k || set.contains s q)
member_insert s k q = set.contains-insert nat_cmp_total s k q ∙ ap (λ b. b || set.contains s q) (unsigned_tied q k)

pub member_remove : (s : set.FinSet nat_cmp) (k q : ℕ) → set.contains (set.remove s k) q ≡ (not (nat_eq q k) && set.contains s q)
member_remove s k q = set.contains-remove nat_cmp_total s k q ∙ ap (λ b. not b && set.contains s q) (unsigned_tied q k)

put_same : (s : set.FinSet nat_cmp) (n : ℕ) (b : Bool) → set.contains s n ≡ false → set.contains (if b then set.insert s n else s) n ≡ b
put_same s n true e = member_insert s n n ∙ ap (λ b. b || set.contains s n) (eq-eqb n n refl)
put_same s n false e = e

put_other : (s : set.FinSet nat_cmp) (n q : ℕ) (b : Bool) → q ≢ n → set.contains (if b then set.insert s n else s) q ≡ set.contains s q
put_other s n q true ne = member_insert s n q ∙ ap (λ b. b || set.contains s q) (ne_eqb q n ne)
put_other s n q false ne = refl

gathered_past : (p : ℕ → Bool) (n q : ℕ) → n ≤ q → set.contains (gathered p n) q ≡ false
gathered_past p zero q h = set.contains-empty nat_cmp q
gathered_past p (suc n) q h = let ne : q ≢ n = omega arith in put_other (gathered p n) n q (p n) ne ∙ gathered_past p n q (omega arith)

gathered_in : (p : ℕ → Bool) (n q : ℕ) → q < n → set.contains (gathered p n) q ≡ p q
gathered_in p zero q h = absurd (omega arith)
gathered_in p (suc n) q h =
    elim (eqb_tells q n) [
      | inl is ↦ ap (set.contains (if p n then set.insert (gathered p n) n else gathered p n)) is.1 ∙ put_same (gathered p n) n (p n) (gathered_past p n n (omega arith)) ∙ ap p (sym is.1)
      | inr isnt ↦ put_other (gathered p n) n q (p n) isnt.1 ∙ gathered_in p n q (omega arith)
    ]

-- a set is known by its members
pub same_members : (s t : set.FinSet nat_cmp) → ((n : ℕ) → set.contains s n ≡ set.contains t n) → s ≡ t
same_members s t same = set.same_set nat_cmp_total set.nat_cmp-IsAntisymmetric s t same

-- the members are those that pass, where none passes past the bound
pub gathered_all : (p : ℕ → Bool) (n : ℕ) → ((k : ℕ) → n ≤ k → p k ≡ false) → (q : ℕ) → set.contains (gathered p n) q ≡ p q
gathered_all p n past q = elim (leb_tells n q) [
  | inl far ↦ gathered_past p n q far.1 ∙ sym (past q far.1)
  | inr within ↦ gathered_in p n q within.1
]

-- the numbers of one word
pub word_members : (word : ℕ) (s : set.FinSet nat_cmp) → gathered (has_bit word) 64 ≡ s → word < 2 ^ 64 → (λ i. has_bit word i) ≡ set.contains s
word_members word s view fits = (λ j i. sym (gathered_all (has_bit word) 64 (λ k far. has_bit_past word k fits far) i) j) ∙ ap set.contains view

no_number_past : (words : List ℕ) (n : ℕ) → 64 * length words ≤ n → has_number words n ≡ false
no_number_past words n past = ap (λ word. has_bit word (n % 64)) (get_or_past words (n / 64) 0 (omega arith)) ∙ has_bit_zero (n % 64)

pub member : (words : List ℕ) (n : ℕ) → set.contains (numbers_of words) n ≡ has_number words n
member words n = gathered_all (has_number words) (64 * length words) (λ k past. no_number_past words k past) n

-- the numbers of a list of words
pub list_members : (words : List ℕ) (s : set.FinSet nat_cmp) → numbers_of words ≡ s → has_number words ≡ set.contains s
list_members words s view = (λ j n. sym (member words n) j) ∙ ap set.contains view

-- the numbers of one word after a bit was set, and after one was cleared
pub bit_in : (word number : ℕ) (s : set.FinSet nat_cmp) → gathered (has_bit word) 64 ≡ s → word < 2 ^ 64 → number < 64 → gathered (has_bit (bit_or word (1 * 2 ^ number % 2 ^ 64))) 64 ≡ set.insert s number
bit_in word number s view fits low =
    let bits = bit_or word (1 * 2 ^ number % 2 ^ 64) in
    let below : bits < 2 ^ 64 = or_lt 64 word (1 * 2 ^ number % 2 ^ 64) fits (pow_below number low) in
    same_members (gathered (has_bit bits) 64) (set.insert s number) (λ n. gathered_all (has_bit bits) 64 (λ k far. has_bit_past bits k below far) n
    ∙ has_bit_added word (1 * 2 ^ number % 2 ^ 64) n ∙ (λ i. has_bit_pow number n low i || word_members word s view fits i n) ∙ sym (member_insert s number n))

pub bit_out : (word number : ℕ) (s : set.FinSet nat_cmp) → gathered (has_bit word) 64 ≡ s → word < 2 ^ 64 → number < 64 → gathered (has_bit (bit_and word (2 ^ 64 - 1 - 1 * 2 ^ number % 2 ^ 64))) 64 ≡ set.remove s number
bit_out word number s view fits low =
    let bits = bit_and word (2 ^ 64 - 1 - 1 * 2 ^ number % 2 ^ 64) in
    let below : bits < 2 ^ 64 = omega (arith, and_le_l word (2 ^ 64 - 1 - 1 * 2 ^ number % 2 ^ 64)) in
    same_members (gathered (has_bit bits) 64) (set.remove s number) (λ n. gathered_all (has_bit bits) 64 (λ k far. has_bit_past bits k below far) n
    ∙ elim (leb_tells 64 n) [
      | inl far ↦ has_bit_past bits n below far.1 ∙ sym (ap (λ b. not (nat_eq n number) && b) (sym (ap (λ p. p n) (word_members word s view fits)) ∙ has_bit_past word n fits far.1) ∙ and_false (not (nat_eq n number)))
      | inr near ↦ has_bit_removed word (1 * 2 ^ number % 2 ^ 64) n (pow_below number low) near.1 ∙ (λ i. not (has_bit_pow number n low i) && word_members word s view fits i n)
    ] ∙ sym (member_remove s number n)) where
      and_false : (b : Bool) → (b && false) ≡ false
      and_false true = refl
      and_false false = refl

pub no_bits : gathered (has_bit 0) 64 ≡ set.empty
no_bits = same_members (gathered (has_bit 0) 64) set.empty (λ n. gathered_all (has_bit 0) 64 (λ k far. has_bit_zero k) n ∙ has_bit_zero n ∙ sym (set.contains-empty nat_cmp n))

-- a word without bits has no number
pub no_members : (word : ℕ) (s : set.FinSet nat_cmp) → gathered (has_bit word) 64 ≡ s → word ≡ 0 → (n : ℕ) → set.contains s n ≡ false
no_members word s view none n = ap (λ t. set.contains t n) (sym view ∙ ap (λ w. gathered (has_bit w) 64) none ∙ no_bits) ∙ set.contains-empty nat_cmp n

-- the numbers of one word after it got the bits of a mask, and after it lost them
module _ (word mask : ℕ) (s : set.FinSet nat_cmp) (view : gathered (has_bit word) 64 ≡ s) (fits : word < 2 ^ 64) (low : mask < 2 ^ 64) where
  pub mask_in : (n : ℕ) → set.contains (gathered (has_bit (bit_or word mask)) 64) n ≡ (has_bit mask n || set.contains s n)
  mask_in n =
      let bits = bit_or word mask in
      gathered_all (has_bit bits) 64 (λ k far. has_bit_past bits k (or_lt 64 word mask fits low) far) n ∙ has_bit_added word mask n ∙ (λ i. has_bit mask n || word_members word s view fits i n)

  pub mask_out : (n : ℕ) → set.contains (gathered (has_bit (bit_and word (2 ^ 64 - 1 - mask))) 64) n ≡ (not (has_bit mask n) && set.contains s n)
  mask_out n =
      let bits = bit_and word (2 ^ 64 - 1 - mask) in
      let below : bits < 2 ^ 64 = omega (arith, and_le_l word (2 ^ 64 - 1 - mask)) in
      gathered_all (has_bit bits) 64 (λ k far. has_bit_past bits k below far) n ∙ elim (leb_tells 64 n) [
        | inl far ↦ has_bit_past bits n below far.1 ∙ sym (ap (λ b. not b && set.contains s n) (has_bit_past mask n low far.1) ∙ sym (ap (λ p. p n) (word_members word s view fits)) ∙ has_bit_past word n fits far.1)
        | inr near ↦ has_bit_removed word mask n low near.1 ∙ (λ i. not (has_bit mask n) && word_members word s view fits i n)
      ]
