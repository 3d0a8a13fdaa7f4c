use Rattle.std.proofs.Common.{◌≡◌, ◌+◌, ◌*◌, ◌-◌, ◌^◌, ◌<◌, ◌≤◌, ◌∙◌, ℕ, List, ◌∷◌, None, length, true, refl, sym, ap, arith}
use Rattle.std.specs.Str.{all_ascii_digits}
use Rattle.std.specs.Str.Parse.{digits_value, digits_value_after}
use Rattle.text_core.specs.Token.{after_word, first_word, number_of}
use Rattle.text_core.proofs.Lexemes.{after_word_step, first_word_step, is_apart}
use Rattle.text_core.proofs.Numbers.{digits_after, digits_stop, is_digit, number_of_long, number_of_none, number_of_over, number_of_short, value_after}
use Rattle.text_core.proofs.token.leading_digits.Goals as goal
use Rattle.text_core.proofs.token.leading_digits.Goals.{else-ends_word-via-then-ends_word+then-count-gt0+else-count-le20, else-ends_word-via-then-ends_word+else-count-gt0, else-ends_word-via-else-ends_word}

-- a text that begins with a digit
module _ (v d : ℕ) (rest after : List ℕ) (small : d < 10) (is : rest ≡ (48 + d) ∷ after) where
  word_is : first_word rest ≡ (48 + d) ∷ first_word after
  word_is = ap first_word is ∙ first_word_step (48 + d) after (is_apart d)

  over_at : (whole : List ℕ) → digits_value_after 10 v (first_word rest) ≡ digits_value 10 whole → 2 ^ 64 ≤ v * 10 + ((48 + d) - 48) → number_of whole ≡ None
  over_at whole e large = number_of_over v (48 + d) (first_word after) whole (is_digit d small) (ap (digits_value_after 10 v) (sym word_is) ∙ e) large

pub loop-digit-preserved : goal.loop-digit-preserved
loop-digit-preserved c =
    let d = c.in-Some.digit in
    let l = c.loop-digit in
    let after = c.in-Some.after.now in
    let digit = is_digit d c.in-Some.ensures.small in
    let word = word_is l.value d l.rest.now after c.in-Some.ensures.small c.in-Some.ensures.digit in
    let left = ap length word in
    let more = ap length c.in-Some.ensures.digit in
    let next : c.in_ok-value.value ≡ l.value * 10 + ((48 + d) - 48) = omega (arith, c.in_ok-value.ensures, c.in_ok-checked_mul.ensures, c.from.ensures) in
    record {
      fits = omega (arith, c.in_ok-value.ensures);
      value = ap (λ (n : ℕ). digits_value_after 10 n (first_word after)) next ∙ value_after l.value (48 + d) (first_word after) _ digit (ap (digits_value_after 10 l.value) (sym word) ∙ l.invariant.value);
      digits = digits_after (48 + d) (first_word after) _ digit (ap all_ascii_digits (sym word) ∙ l.invariant.digits);
      after = sym (after_word_step (48 + d) after (is_apart d)) ∙ ap after_word (sym c.in-Some.ensures.digit) ∙ l.invariant.after;
      count = omega (arith, left, more, l.invariant.count);
      shorter = omega (arith, more, l.invariant.shorter);
    }

pub returns-in_err-checked_mul-clause-number : goal.returns-in_err-checked_mul-clause-number
returns-in_err-checked_mul-clause-number c =
    let l = c.loop-digit in
    rw c.from_residual.ensures (over_at l.value _ l.rest.now _ c.in-Some.ensures.small c.in-Some.ensures.digit (first_word c.args.text.now) l.invariant.value (omega (arith, c.in_err-checked_mul.ensures)))

pub returns-in_err-value-clause-number : goal.returns-in_err-value-clause-number
returns-in_err-value-clause-number c =
    let l = c.loop-digit in
    rw c.from_residual-in_err-value.ensures (over_at l.value _ l.rest.now _ c.in-Some.ensures.small c.in-Some.ensures.digit (first_word c.args.text.now) l.invariant.value (omega (arith, c.in_err-value.ensures, c.in_ok-checked_mul.ensures, c.from.ensures)))

pub returns-else-ends_word-clause-number : goal.returns-else-ends_word-clause-number
returns-else-ends_word-clause-number c =
    let rest = c.loop-digit.rest.now in
    let whole = first_word c.args.text.now in
    let none : c.ends_word.result ≡ true → length (first_word rest) ≡ 0 = λ ends. ap length (c.ends_word.ensures.word ends) in
    elim c.else-ends_word.branch [
      | else-ends_word-via-then-ends_word+then-count-gt0+else-count-le20 w ↦
          number_of_long whole (omega (arith, none w.if-ends_word.true, c.loop-digit.invariant.count, w.if-count-le20.false))
      | else-ends_word-via-then-ends_word+else-count-gt0 w ↦
          number_of_short whole (omega (arith, none w.if-ends_word.true, c.loop-digit.invariant.count, c.loop-digit.invariant.shorter, w.if-count-gt0.false))
      | else-ends_word-via-else-ends_word w ↦
          let more = c.ends_word.ensures.more w.if-ends_word.false in
          let word : first_word rest ≡ more.0 ∷ first_word more.1 = ap first_word more.2 ∙ first_word_step more.0 more.1 more.3 in
          number_of_none whole (sym c.loop-digit.invariant.digits ∙ ap all_ascii_digits word
          ∙ digits_stop more.0 (first_word more.1) _ (c.in_default.ensures.none more.0 more.1 more.2) refl)
    ]
