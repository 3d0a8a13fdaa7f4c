use Rattle.std.proofs.Common.{◌≡◌, ◌+◌, ◌^◌, ◌<◌, ◌≤◌, length}
use Rattle.std.specs.Str.{all_ascii_digits}
use Rattle.std.specs.Str.Parse.{digits_value, digits_value_after}
use Rattle.text_core.specs.Token.{after_word, first_word}
use Rattle.text_core.proofs.token.leading_digits.Given as goal

-- the value so far, followed by the digits that are left, is the whole
abbrev pub invariant-loop-digit : goal.invariant-loop-digit
invariant-loop-digit l = record {
  fits : l.value < 2 ^ 64;
  value : digits_value_after 10 l.value (first_word l.rest) ≡ digits_value 10 (first_word l.text);
  digits : all_ascii_digits (first_word l.rest) ≡ all_ascii_digits (first_word l.text);
  after : after_word l.rest ≡ after_word l.text;
  count : length l.text + length (first_word l.rest) ≡ length l.rest + length (first_word l.text);
  shorter : length l.rest ≤ length l.text;
}

abbrev pub decreases-loop-digit : goal.decreases-loop-digit
decreases-loop-digit l = length l.rest
