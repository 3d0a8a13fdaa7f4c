use Rattle.std.proofs.Common.{◌≡◌, ◌∙◌, ℕ, ◌+◌, ◌-◌, ◌≤◌, List, ◌∷◌, length, take, drop, get_or, map, sym, ap, None, Some, arith}
use Rattle.std.proofs.lemmas.List.{take_all}
use Rattle.std.specs.Prelude.{IfSome, MatchOption}
use Rattle.text_core.specs.declared.token.Token.TheVariants.{Number}
use Rattle.text_core.specs.Arguments.{number_first}
use Rattle.text_core.specs.Token.{after_word, first_word, number_of, token_of, tokens}
use Rattle.text_core.proofs.Tokens.{no_number_comes, number_comes, spaced_digit_comes}
use Rattle.text_core.proofs.token.first_number.Goals as goal

two_first : (xs : List ℕ) → 2 ≤ length xs → xs ≡ get_or xs 0 0 ∷ get_or xs 1 0 ∷ take (length xs - 2) (drop 2 xs)
two_first (a ∷ b ∷ rest) some = ap (λ (r : List ℕ). a ∷ b ∷ r) (sym (take_all (length (a ∷ b ∷ rest) - 2) rest (omega arith)))
two_first _ some = absurd (omega arith)

pub returns-in-32 : goal.returns-in-32
returns-in-32 c =
    let text = c.args.text.now in
    let after : List ℕ = take (length text - 2) (drop 2 text) in
    let space : get_or text 0 0 ≡ 32 = omega arith in
    let digit : get_or text 1 0 ≡ 48 + c.from.result = omega (arith, c.from.ensures) in
    let front = two_first text c.in-32.len_at_least ∙ ap (λ (byte : ℕ). byte ∷ get_or text 1 0 ∷ after) space ∙ ap (λ (byte : ℕ). 32 ∷ byte ∷ after) digit in
    spaced_digit_comes text after c.from.result (omega (arith, c.from.ensures)) front (c.ends_word.ensures.word c.if-ends_word.true) (c.ends_word.ensures.after c.if-ends_word.true)

pub returns-in_default : goal.returns-in_default
returns-in_default c =
    let text = c.args.text.now in
    let xs = c.without_spaces.result.now in
    let same : tokens text ≡ tokens xs = ap (map token_of) (sym c.without_spaces.ensures.lexemes) in
    let first = c.without_spaces.ensures.first in
    elim c.leading_digits.result as (λ r. MatchOption r (number_of (first_word xs) ≡ None) (λ found. number_of (first_word xs) ≡ Some found.0)
    → IfSome r (λ found. found.1.now ≡ after_word xs)
    → MatchOption r (number_first (tokens text) ≡ None) (λ found. tokens text ≡ Number found.0 ∷ tokens found.1.now)) [
      | None ↦ λ number after. ap number_first same ∙ no_number_comes xs first number
      | Some found ↦ λ number after. same ∙ number_comes xs found.0 first number ∙ ap (λ (rest : List ℕ). Number found.0 ∷ tokens rest) (sym after)
    ] c.leading_digits.ensures.number c.leading_digits.ensures.after
