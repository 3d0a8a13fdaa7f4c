-- A level of a set, and the set above it: what was put in and taken out, and what searches find.
use Rattle.std.proofs.Common.{◌≡◌, ℕ, zero, suc, ◌/◌, ◌%◌, Bool, true, false, not, List, length, replicate, inl, inr, refl, sym, ap, ◌∙◌, subst, slice_index, eq-eqb, arith}
use Rattle.std.specs.Prelude.{◌↔◌, nat_eq, nat_lt, ◌&&◌, ◌||◌, IsTrue}
use Rattle.std.specs.Ordering.{nat_cmp}
use Rattle.std.specs.FinSet as set
use Rattle.std.specs.Global.{Vec}
use Rattle.std.specs.Vec.{with_items}
use Rattle.std.proofs.lemmas.Bool.{ne_eqb}
use Rattle.std.proofs.lemmas.Bool.Decides.{eqb_tells}
use Rattle.std.proofs.lemmas.List.{with_items_is}
use Rattle.number_set.specs.Bits.{has_bit, has_number, is_filled}
use Rattle.number_set.specs.Finds.{IsFirst, IsLast, IsNext, IsPrevious, NoneAtAll, NoneAbove, NoneBelow, IsFirstIn, IsLastIn, NoneAboveIn, NoneBelowIn}
use Rattle.number_set.specs.Levels.{Summarizes}
use Rattle.number_set.specs.Numbers.{numbers_of}
use Rattle.number_set.specs.Runs.{in_run}
use Rattle.number_set.proofs.Gathering.{member, list_members, member_insert, member_remove, same_members}
use Rattle.number_set.proofs.Masking.{clash, has_bit_zero}
use Rattle.number_set.proofs.Numbering.{no_number}

-- a number was put in
module _ (words new : List ℕ) (number : ℕ) where
  module _ (filled : (word : ℕ) → is_filled new word ≡ (nat_eq word (number / 64) || is_filled words word)) (above : set.FinSet nat_cmp) (each : Summarizes above words) where
    -- as the first one of its word, which was put in above
    pub put_above : (after : set.FinSet nat_cmp) → after ≡ set.insert above (number / 64) → Summarizes after new
    put_above after put i = ap (λ s. set.contains s i) put ∙ member_insert above (number / 64) i ∙ ap (λ b. nat_eq i (number / 64) || b) (each i) ∙ sym (filled i)

    -- beside others of its word
    pub kept_above : not (is_filled words (number / 64)) ≡ false → Summarizes above new
    kept_above had i = each i ∙ sym (filled i ∙ absorbed) where
      was : (b : Bool) → not b ≡ false → b ≡ true
      was true e = refl
      was false e = clash true refl e

      absorbed : (nat_eq i (number / 64) || is_filled words i) ≡ is_filled words i
      absorbed = elim (eqb_tells i (number / 64)) [
        | inl at ↦ ap (λ b. b || is_filled words i) (eq-eqb i (number / 64) at.1) ∙ sym (ap (is_filled words) at.1 ∙ was (is_filled words (number / 64)) had)
        | inr away ↦ ap (λ b. b || is_filled words i) (ne_eqb i (number / 64) away.1)
      ]

  pub numbers_put : ((n : ℕ) → has_number new n ≡ (nat_eq n number || has_number words n)) → (s : set.FinSet nat_cmp) → numbers_of words ≡ s → numbers_of new ≡ set.insert s number
  numbers_put put s view = same_members (numbers_of new) (set.insert s number) (λ n. member new n ∙ put n ∙ ap (λ b. nat_eq n number || b) (ap (λ p. p n) (list_members words s view)) ∙ sym (member_insert s number n))

-- a number was taken out
module _ (words new : List ℕ) (number : ℕ) where
  module _ (is_last : Bool) (filled : (word : ℕ) → is_filled new word ≡ (not (is_last && nat_eq word (number / 64)) && is_filled words word)) (above : set.FinSet nat_cmp) (each : Summarizes above words) where
    -- as the last one of its word, which was taken out above
    pub cut_above : is_last ≡ true → (after : set.FinSet nat_cmp) → after ≡ set.remove above (number / 64) → Summarizes after new
    cut_above last after cut i = ap (λ s. set.contains s i) cut ∙ member_remove above (number / 64) i ∙ ap (λ b. not (nat_eq i (number / 64)) && b) (each i) ∙ ap (λ b. not (b && nat_eq i (number / 64)) && is_filled words i) (sym last) ∙ sym (filled i)

    -- others of its word are left
    pub left_above : is_last ≡ false → Summarizes above new
    left_above others i = each i ∙ ap (λ b. not (b && nat_eq i (number / 64)) && is_filled words i) (sym others) ∙ sym (filled i)

  pub numbers_cut : ((n : ℕ) → has_number new n ≡ (not (nat_eq n number) && has_number words n)) → (s : set.FinSet nat_cmp) → numbers_of words ≡ s → numbers_of new ≡ set.remove s number
  numbers_cut cut s view = same_members (numbers_of new) (set.remove s number) (λ n. member new n ∙ cut n ∙ ap (λ b. not (nat_eq n number) && b) (ap (λ p. p n) (list_members words s view)) ∙ sym (member_remove s number n))

-- what is found in a level, by what is found above it
module _ (words : List ℕ) (above s : set.FinSet nat_cmp) (each : Summarizes above words) (view : numbers_of words ≡ s) where
  told : has_number words ≡ set.contains s
  told = list_members words s view

  no_member : (n : ℕ) → set.contains above (n / 64) ≡ false → has_number words n ≡ false
  no_member n isnt = no_number words n (sym (each (n / 64)) ∙ isnt)

  pub filled_by : (word : ℕ) → set.contains above word ≡ true → is_filled words word ≡ true
  filled_by word is = sym (each word) ∙ is

  pub none_in : NoneAtAll (set.contains above) → NoneAtAll (set.contains s)
  none_in none = subst (λ p. NoneAtAll p) told (λ n. no_member n (none (n / 64)))

  pub first_in : (word n : ℕ) → IsFirst (set.contains above) word → IsFirstIn (has_number words) word n → IsFirst (set.contains s) n
  first_in word n up here = subst (λ p. IsFirst p n) told (record {
    passes = here.passes;
    before = λ k less. elim (eqb_tells (k / 64) word) [
      | inl same ↦ here.before k same.1 less
      | inr other ↦ no_member k (up.before (k / 64) (omega (arith, other.1, less, here.here)))
    ];
  })

  pub last_in : (word n : ℕ) → IsLast (set.contains above) word → IsLastIn (has_number words) word n → IsLast (set.contains s) n
  last_in word n up here = subst (λ p. IsLast p n) told (record {
    passes = here.passes;
    after = λ k more. elim (eqb_tells (k / 64) word) [
      | inl same ↦ here.after k same.1 more
      | inr other ↦ no_member k (up.after (k / 64) (omega (arith, other.1, more, here.here)))
    ];
  })

  -- the next number above one is in the same word, or in a word above it
  pub next_in_word : (from n : ℕ) → IsNext (has_number words) from n → IsNext (set.contains s) from n
  next_in_word from n next = subst (λ p. IsNext p from n) told next

  pub next_in_other : (from word n : ℕ) → NoneAboveIn (has_number words) from → IsNext (set.contains above) (from / 64) word → IsFirstIn (has_number words) word n → IsNext (set.contains s) from n
  next_in_other from word n none up here = subst (λ p. IsNext p from n) told (record {
    above = omega (arith, up.above, here.here);
    passes = here.passes;
    between = λ k more less. elim (eqb_tells (k / 64) word) [
      | inl same ↦ here.before k same.1 less
      | inr other ↦ elim (eqb_tells (k / 64) (from / 64)) [
        | inl start ↦ none k start.1 more
        | inr middle ↦ no_member k (up.between (k / 64) (omega (arith, middle.1, more)) (omega (arith, other.1, less, here.here)))
      ]
    ];
  })

  pub none_next : (from : ℕ) → NoneAboveIn (has_number words) from → NoneAbove (set.contains above) (from / 64) → NoneAbove (set.contains s) from
  none_next from none no_word = subst (λ p. NoneAbove p from) told (λ k more. elim (eqb_tells (k / 64) (from / 64)) [
    | inl same ↦ none k same.1 more
    | inr other ↦ no_member k (no_word (k / 64) (omega (arith, other.1, more)))
  ])

  -- the next number below one is in the same word, or in a word below it
  pub previous_in_word : (from n : ℕ) → IsPrevious (has_number words) from n → IsPrevious (set.contains s) from n
  previous_in_word from n previous = subst (λ p. IsPrevious p from n) told previous

  pub previous_in_other : (from word n : ℕ) → NoneBelowIn (has_number words) from → IsPrevious (set.contains above) (from / 64) word → IsLastIn (has_number words) word n → IsPrevious (set.contains s) from n
  previous_in_other from word n none up here = subst (λ p. IsPrevious p from n) told (record {
    below = omega (arith, up.below, here.here);
    passes = here.passes;
    between = λ k more less. elim (eqb_tells (k / 64) word) [
      | inl same ↦ here.after k same.1 more
      | inr other ↦ elim (eqb_tells (k / 64) (from / 64)) [
        | inl start ↦ none k start.1 less
        | inr middle ↦ no_member k (up.between (k / 64) (omega (arith, other.1, more, here.here)) (omega (arith, middle.1, less)))
      ]
    ];
  })

  pub none_previous : (from : ℕ) → NoneBelowIn (has_number words) from → NoneBelow (set.contains above) (from / 64) → NoneBelow (set.contains s) from
  none_previous from none no_word = subst (λ p. NoneBelow p from) told (λ k less. elim (eqb_tells (k / 64) (from / 64)) [
    | inl same ↦ none k same.1 less
    | inr other ↦ no_member k (no_word (k / 64) (omega (arith, other.1, less)))
  ])

-- zeros are zero, past the end too
pub zeros : (n i : ℕ) → slice_index (replicate n 0) i ≡ 0
zeros zero i = refl
zeros (suc n) zero = refl
zeros (suc n) (suc i) = zeros n i

pub empty_words : (n : ℕ) → numbers_of (replicate n 0) ≡ set.empty
empty_words n = same_members (numbers_of (replicate n 0)) set.empty (λ k. member (replicate n 0) k ∙ ap (λ w. has_bit w (k % 64)) (zeros n (k / 64)) ∙ has_bit_zero (k % 64) ∙ sym (set.contains-empty nat_cmp k))

pub empty_summarized : (n : ℕ) → Summarizes set.empty (replicate n 0)
empty_summarized n i = set.contains-empty nat_cmp i ∙ ap (nat_lt 0) (sym (zeros n i))

-- what holds of the words that a vector lent, and of those that came back, holds of its own before and after
pub written : (v : Vec ℕ) (lent back : List ℕ) → lent ≡ v.items → length back ≡ length lent → (P : List ℕ → List ℕ → Type 0) → P lent back → P v.items (with_items v back).items
written v lent back is long P holds =
    let same : (with_items v back).items ≡ back = with_items_is v back (long ∙ ap length is ∙ sym v.ok.0) in
    subst (P v.items) (sym same) (subst (λ words. P words back) is holds)

-- many numbers were put in or taken out: those that pass p, in the words that pass q
module _ (words new : List ℕ) (p : ℕ → Bool) where
  pub many_put : ((n : ℕ) → has_number new n ≡ (p n || has_number words n)) → (s : set.FinSet nat_cmp) → numbers_of words ≡ s → (n : ℕ) → set.contains (numbers_of new) n ≡ (p n || set.contains s n)
  many_put put s view n = member new n ∙ put n ∙ ap (λ b. p n || b) (ap (λ f. f n) (list_members words s view))

  pub many_cut : ((n : ℕ) → has_number new n ≡ (not (p n) && has_number words n)) → (s : set.FinSet nat_cmp) → numbers_of words ≡ s → (n : ℕ) → set.contains (numbers_of new) n ≡ (not (p n) && set.contains s n)
  many_cut cut s view n = member new n ∙ cut n ∙ ap (λ b. not (p n) && b) (ap (λ f. f n) (list_members words s view))

-- whether a run is there
pub run_members : (words : List ℕ) (s : set.FinSet nat_cmp) (has : Bool) (first count : ℕ) → numbers_of words ≡ s → (IsTrue has ↔ ((n : ℕ) → in_run first count n ≡ true → has_number words n ≡ true)) → IsTrue has ↔ ((n : ℕ) → in_run first count n ≡ true → set.contains s n ≡ true)
run_members words s has first count view = subst (λ p. IsTrue has ↔ ((n : ℕ) → in_run first count n ≡ true → p n ≡ true)) (list_members words s view)

-- an empty set that got all numbers below a bound
pub all_below : (s t : set.FinSet nat_cmp) (bound : ℕ) → s ≡ set.empty → ((n : ℕ) → set.contains t n ≡ (nat_lt n bound || set.contains s n)) → (n : ℕ) → set.contains t n ≡ nat_lt n bound
all_below s t bound none put n = put n ∙ ap (λ b. nat_lt n bound || b) (ap (λ u. set.contains u n) none ∙ set.contains-empty nat_cmp n) ∙ or_false (nat_lt n bound) where
  or_false : (b : Bool) → (b || false) ≡ b
  or_false true = refl
  or_false false = refl

module _ (words new : List ℕ) (q : ℕ → Bool) (above : set.FinSet nat_cmp) (each : Summarizes above words) where
  pub all_put_above : ((word : ℕ) → is_filled new word ≡ (q word || is_filled words word)) → (after : set.FinSet nat_cmp) → ((word : ℕ) → set.contains after word ≡ (q word || set.contains above word)) → Summarizes after new
  all_put_above filled after put i = put i ∙ ap (λ b. q i || b) (each i) ∙ sym (filled i)

  pub all_cut_above : ((word : ℕ) → is_filled new word ≡ (not (q word) && is_filled words word)) → (after : set.FinSet nat_cmp) → ((word : ℕ) → set.contains after word ≡ (not (q word) && set.contains above word)) → Summarizes after new
  all_cut_above filled after cut i = cut i ∙ ap (λ b. not (q i) && b) (each i) ∙ sym (filled i)

  -- the level above is told of the words, or needs not be
  module _ (told : Bool) (filled : (word : ℕ) → is_filled new word ≡ ((told && q word) || is_filled words word)) where
    pub many_put_above : told ≡ true → (after : set.FinSet nat_cmp) → ((word : ℕ) → set.contains after word ≡ (q word || set.contains above word)) → Summarizes after new
    many_put_above is = all_put_above (λ i. filled i ∙ ap (λ b. (b && q i) || is_filled words i) is)

    pub many_kept_above : told ≡ false → Summarizes above new
    many_kept_above is i = each i ∙ ap (λ b. (b && q i) || is_filled words i) (sym is) ∙ sym (filled i)

  module _ (told : Bool) (filled : (word : ℕ) → is_filled new word ≡ (not (told && q word) && is_filled words word)) where
    pub many_cut_above : told ≡ true → (after : set.FinSet nat_cmp) → ((word : ℕ) → set.contains after word ≡ (not (q word) && set.contains above word)) → Summarizes after new
    many_cut_above is = all_cut_above (λ i. filled i ∙ ap (λ b. not (b && q i) && is_filled words i) is)

    pub many_left_above : told ≡ false → Summarizes above new
    many_left_above is i = each i ∙ ap (λ b. not (b && q i) && is_filled words i) (sym is) ∙ sym (filled i)
