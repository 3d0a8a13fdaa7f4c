-- Numbers that are read digit by digit.
use Rattle.std.proofs.Common.{◌≡◌, ◌⊎◌, inl, inr, ℕ, ◌+◌, ◌*◌, ◌-◌, ◌^◌, ◌<◌, ◌≤◌, Bool, true, false, ◌&&◌, List, [], ◌∷◌, length, refl, sym, ap, ◌∙◌, arith, None, Some}
use Rattle.std.specs.Char.{digit_value, is_ascii_digit}
use Rattle.std.specs.Str.{all_ascii_digits}
use Rattle.std.specs.Str.Parse.{digits_value, digits_value_after}
use Rattle.std.proofs.lemmas.Bool.Decides.{nat_tests}
use Rattle.std.proofs.lemmas.Bool.{ne_eqb}
use Rattle.text_core.specs.declared.token.Token.TheVariants.{Other}
use Rattle.text_core.specs.Token.{keyword_of, number_of}

pub digits_value_after-le : (n : ℕ) (ds : List ℕ) → n ≤ digits_value_after 10 n ds
digits_value_after-le n [] = omega arith
digits_value_after-le n (d ∷ ds) = omega (arith, digits_value_after-le (n * 10 + digit_value d) ds)

pub digit_value_is : (d : ℕ) → is_ascii_digit d ≡ true → digit_value d ≡ d - 48
digit_value_is d h = grind (arith, nat_tests)

-- what is left after a digit was read
pub digits_after : (d : ℕ) (ds : List ℕ) (all : Bool) → is_ascii_digit d ≡ true → all_ascii_digits (d ∷ ds) ≡ all → all_ascii_digits ds ≡ all
digits_after d ds all h e = ap (λ (b : Bool). b && all_ascii_digits ds) (sym h) ∙ e

pub digits_stop : (d : ℕ) (ds : List ℕ) (all : Bool) → is_ascii_digit d ≡ false → all_ascii_digits (d ∷ ds) ≡ all → all ≡ false
digits_stop d ds all h e = sym e ∙ ap (λ (b : Bool). b && all_ascii_digits ds) h

pub number_of_none : (bytes : List ℕ) → all_ascii_digits bytes ≡ false → number_of bytes ≡ None
number_of_none bytes e = grind (arith, nat_tests)

pub number_of_short : (bytes : List ℕ) → length bytes ≡ 0 → number_of bytes ≡ None
number_of_short bytes h = grind (arith, nat_tests)

pub number_of_long : (bytes : List ℕ) → 20 < length bytes → number_of bytes ≡ None
number_of_long bytes h = grind (arith, nat_tests)

pub number_of_large : (bytes : List ℕ) → 2 ^ 64 ≤ digits_value 10 bytes → number_of bytes ≡ None
number_of_large bytes h = grind (arith, nat_tests)

pub number_of_fits : (bytes : List ℕ) → 1 ≤ length bytes → length bytes ≤ 20 → all_ascii_digits bytes ≡ true → digits_value 10 bytes < 2 ^ 64 → number_of bytes ≡ Some (digits_value 10 bytes)
number_of_fits bytes some few digits fits = grind (arith, nat_tests)

pub value_after : (v d : ℕ) (ds : List ℕ) (whole : ℕ) → is_ascii_digit d ≡ true → digits_value_after 10 v (d ∷ ds) ≡ whole → digits_value_after 10 (v * 10 + (d - 48)) ds ≡ whole
value_after v d ds whole h e = ap (λ (n : ℕ). digits_value_after 10 (v * 10 + n) ds) (sym (digit_value_is d h)) ∙ e

pub number_of_over : (v d : ℕ) (ds bytes : List ℕ) → is_ascii_digit d ≡ true → digits_value_after 10 v (d ∷ ds) ≡ digits_value 10 bytes → 2 ^ 64 ≤ v * 10 + (d - 48) → number_of bytes ≡ None
number_of_over v d ds bytes h e large =
    number_of_large bytes (omega (arith, value_after v d ds (digits_value 10 bytes) h e, digits_value_after-le (v * 10 + (d - 48)) ds))

pub is_digit : (d : ℕ) → d < 10 → is_ascii_digit (48 + d) ≡ true
is_digit d small = grind (arith, nat_tests)

-- one digit is a number
pub number_of_digit : (d : ℕ) → d < 10 → number_of ((48 + d) ∷ []) ≡ Some d
number_of_digit d small =
    let digit = is_digit d small in
    let same : 0 * 10 + ((48 + d) - 48) ≡ digits_value 10 ((48 + d) ∷ []) = value_after 0 (48 + d) [] (digits_value 10 ((48 + d) ∷ [])) digit refl in
    let value : digits_value 10 ((48 + d) ∷ []) ≡ d = omega (arith, same) in
    number_of_fits ((48 + d) ∷ []) (omega arith) (omega arith) (ap (λ (b : Bool). b && true) digit) (omega (arith, value, small)) ∙ ap Some value

-- a word that begins with a digit isn't a keyword
digit_no_keyword : (d : ℕ) (ds : List ℕ) → is_ascii_digit d ≡ true → keyword_of (d ∷ ds) ≡ Other
digit_no_keyword d ds digit =
    let low : d < 97 = grind (arith, nat_tests) in
    rw (ne_eqb d 122 (omega arith), ne_eqb d 109 (omega arith), ne_eqb d 115 (omega arith), ne_eqb d 108 (omega arith), ne_eqb d 105 (omega arith), ne_eqb d 117 (omega arith), ne_eqb d 116 (omega arith), ne_eqb d 99 (omega arith), ne_eqb d 100 (omega arith), ne_eqb d 101 (omega arith), ne_eqb d 102 (omega arith), ne_eqb d 112 (omega arith), ne_eqb d 104 (omega arith), ne_eqb d 103 (omega arith)) refl

-- no word is both a number and a keyword
pub one_of_both : (bytes : List ℕ) → (number_of bytes ≡ None) ⊎ (keyword_of bytes ≡ Other)
one_of_both [] = inl (number_of_short [] refl)
one_of_both (d ∷ ds) = by_digit (is_ascii_digit d) refl where
  by_digit : (b : Bool) → is_ascii_digit d ≡ b → (number_of (d ∷ ds) ≡ None) ⊎ (keyword_of (d ∷ ds) ≡ Other)
  by_digit true digit = inr (digit_no_keyword d ds digit)
  by_digit false other = inl (number_of_none (d ∷ ds) (ap (λ (b : Bool). b && all_ascii_digits ds) other))
