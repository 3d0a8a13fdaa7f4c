use Rattle.std.proofs.Common.{◌≡◌, ℕ, ◌<◌, Bool, true, false, List, [], ◌∷◌, ◌++◌, length, append-nil, refl, sym, ap, ◌∙◌, arith, None}
use Rattle.std.specs.Char.{is_ascii_digit}
use Rattle.std.specs.Str.{all_ascii_digits}
use Rattle.std.proofs.lemmas.List.{take-append-drop}
use Rattle.std.proofs.lemmas.Bool.{and_left, and_right}
use Rattle.std.proofs.lemmas.Bool.Decides.{nat_tests}
use Rattle.text_core.specs.Token.{after_word, first_word, number_of}
use Rattle.text_core.proofs.Lexemes.{after_word_step, is_space, lexeme_len}
use Rattle.text_core.proofs.Numbers.{number_of_none}
use Rattle.text_core.proofs.token.number.Goals as goal

-- a text after whose first word nothing stands is that word
one_word : (xs : List ℕ) → after_word xs ≡ [] → first_word xs ≡ xs
one_word xs none = sym (append-nil (first_word xs)) ∙ ap (λ (r : List ℕ). first_word xs ++ r) (sym none) ∙ take-append-drop (lexeme_len xs) xs

space_no_digit : (b : ℕ) → is_space b ≡ true → is_ascii_digit b ≡ false
space_no_digit b e = grind (arith, nat_tests)

-- a text after whose first word something stands has a space
spaced : (xs : List ℕ) → 0 < length (after_word xs) → all_ascii_digits xs ≡ false
spaced [] more = absurd (omega arith)
spaced (b ∷ xs) more = by_space (is_space b) refl (λ more. spaced xs more) where
  by_space : (space : Bool) → is_space b ≡ space → (0 < length (after_word xs) → all_ascii_digits xs ≡ false) → all_ascii_digits (b ∷ xs) ≡ false
  by_space true e later = and_left _ _ (space_no_digit b e)
  by_space false e later = and_right _ _ (later (omega (arith, more, ap length (after_word_step b xs e))))

spaced_no_number : (xs : List ℕ) → 0 < length (after_word xs) → number_of xs ≡ None
spaced_no_number xs more = number_of_none xs (spaced xs more)

-- a text whose first word isn't a number isn't one
no_number : (xs after : List ℕ) → after_word xs ≡ after → number_of (first_word xs) ≡ None → number_of xs ≡ None
no_number xs [] is none = ap number_of (sym (one_word xs is)) ∙ none
no_number xs (b ∷ after) is none = spaced_no_number xs (omega (arith, ap length is))

pub returns-in_err-value : goal.returns-in_err-value
returns-in_err-value c = c.from_residual.ensures ∙ sym (no_number c.args.bytes.now _ refl c.in_err-value.ensures.number)

pub returns-in_default : goal.returns-in_default
returns-in_default c = sym (spaced_no_number c.args.bytes.now (omega (arith, c.in_default.len_at_least, ap length c.in_ok-value.ensures.after)))
