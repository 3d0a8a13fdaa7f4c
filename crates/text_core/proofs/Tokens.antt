-- The first token of a text.
use Rattle.std.proofs.Common.{◌≡◌, ◌∙◌, ℕ, ◌+◌, ◌<◌, Bool, true, false, List, [], ◌∷◌, length, map, ap, refl, Some, None, Option, arith, rules}
use Rattle.std.specs.Prelude.{nat_eq, codes, if◌then◌else◌}
use Rattle.std.specs.List.{starts_with}
use Rattle.text_core.specs.declared.token.Token.{Token}
use Rattle.text_core.specs.declared.token.Token.TheVariants.{Number}
use Rattle.text_core.specs.Arguments.{number_first}
use Rattle.text_core.specs.Token.{first_word, after_word, keyword_of, number_of, number_or_keyword, token_of, tokens}
use Rattle.text_core.proofs.Lexemes.{after_word_step, first_word_none, first_word_step, is_apart, lexemes_first, lexemes_space}
use Rattle.text_core.proofs.Numbers.{number_of_digit, number_of_short}

pub tokens_first : (xs : List ℕ) → 0 < length xs → starts_with nat_eq xs (codes " ") ≡ false → tokens xs ≡ token_of (first_word xs) ∷ tokens (after_word xs)
tokens_first xs some e = ap (map token_of) (lexemes_first xs some e)

-- a word that is a keyword is not a number
either_word : (b : Bool) (t u : Token) (more : List Token)
    → number_first (t ∷ more) ≡ None → number_first (u ∷ more) ≡ None → number_first ((if b then t else u) ∷ more) ≡ None
either_word true t u more e f = e
either_word false t u more e f = f

keyword_is_no_number : (word : List ℕ) (more : List Token) → number_first (keyword_of word ∷ more) ≡ None
keyword_is_no_number word more = search (either_word, rules)

-- the first token of a text whose first word is a number
pub number_comes : (xs : List ℕ) (n : ℕ) → starts_with nat_eq xs (codes " ") ≡ false → number_of (first_word xs) ≡ Some n
    → tokens xs ≡ Number n ∷ tokens (after_word xs)
number_comes [] n e f = absurd cc
number_comes (x ∷ xs) n e f =
    tokens_first (x ∷ xs) (omega arith) e ∙ ap (λ (o : Option ℕ). number_or_keyword o (first_word (x ∷ xs)) ∷ tokens (after_word (x ∷ xs))) f

-- no number comes first where the first word of a text isn't one
pub no_number_comes : (xs : List ℕ) → starts_with nat_eq xs (codes " ") ≡ false → number_of (first_word xs) ≡ None → number_first (tokens xs) ≡ None
no_number_comes [] e f = refl
no_number_comes (x ∷ xs) e f =
    ap number_first (tokens_first (x ∷ xs) (omega arith) e)
    ∙ ap (λ (o : Option ℕ). number_first (number_or_keyword o (first_word (x ∷ xs)) ∷ tokens (after_word (x ∷ xs)))) f
    ∙ keyword_is_no_number (first_word (x ∷ xs)) (tokens (after_word (x ∷ xs)))

-- a text whose first word is a number doesn't begin with a space
number_apart : (xs : List ℕ) (n : ℕ) → number_of (first_word xs) ≡ Some n → starts_with nat_eq xs (codes " ") ≡ false
number_apart xs n e = by_test (starts_with nat_eq xs (codes " ")) refl where
  by_test : (b : Bool) → starts_with nat_eq xs (codes " ") ≡ b → starts_with nat_eq xs (codes " ") ≡ false
  by_test true f =
      let none : number_of (first_word xs) ≡ None = number_of_short (first_word xs) (ap length (first_word_none xs f)) in
      cc
  by_test false f = f

-- the tokens of a text that begins with a space and a number
spaced_number_comes : (xs : List ℕ) (n : ℕ) → number_of (first_word xs) ≡ Some n → tokens (32 ∷ xs) ≡ Number n ∷ tokens (after_word xs)
spaced_number_comes xs n e = ap (map token_of) (lexemes_space 32 xs refl) ∙ number_comes xs n (number_apart xs n e) e

-- the tokens of a text that begins with a space and one digit
pub spaced_digit_comes : (text after : List ℕ) (d : ℕ) → d < 10 → text ≡ 32 ∷ (48 + d) ∷ after → first_word after ≡ [] → after_word after ≡ after
    → tokens text ≡ Number d ∷ tokens after
spaced_digit_comes text after d small is ends stays =
    let word : first_word ((48 + d) ∷ after) ≡ (48 + d) ∷ [] =
    first_word_step (48 + d) after (is_apart d) ∙ ap (λ (rest : List ℕ). (48 + d) ∷ rest) ends in
    let rest : after_word ((48 + d) ∷ after) ≡ after = after_word_step (48 + d) after (is_apart d) ∙ stays in
    ap tokens is ∙ spaced_number_comes ((48 + d) ∷ after) d (ap number_of word ∙ number_of_digit d small) ∙ ap (λ (r : List ℕ). Number d ∷ tokens r) rest
