use Rattle.std.proofs.Common.{◌≡◌, ◌<◌, ◌∙◌, sym, List, ℕ, length, ap, take, drop, ◌∷◌, arith}
use Rattle.std.specs.Prelude.{unwrap_or}
use Rattle.std.proofs.lemmas.Bool.Decides.{nat_tests}
use Rattle.text_core.specs.Token.{lexemes}
use Rattle.text_core.proofs.Lexemes.{lexeme_len, lexeme_len_is, lexemes_first}
use Rattle.text_core.proofs.token.first_lexeme.Goals as goal

pub returns-clause-lexeme : goal.returns-clause-lexeme
returns-clause-lexeme c =
    let xs = c.without_spaces-text.result.now in
    let some : 0 < length xs = (let empty = c.if-is_empty.ensures in grind (arith, nat_tests, empty)) in
    let end : c.unwrap_or-end.result ≡ lexeme_len xs = c.unwrap_or-end.ensures ∙ ap (λ o. unwrap_or o (length xs)) c.space_in.ensures ∙ lexeme_len_is xs in
    let front : c.split_at.result.0.now ≡ take (lexeme_len xs) xs = c.split_at.ensures.front ∙ ap (λ (n : ℕ). take n xs) end in
    let back : c.split_at.result.1.now ≡ drop (lexeme_len xs) xs = c.split_at.ensures.back ∙ ap (λ (n : ℕ). drop n xs) end in
    sym c.without_spaces-text.ensures.lexemes ∙ lexemes_first xs some c.without_spaces-text.ensures.first
    ∙ ap (λ (l : List ℕ). l ∷ lexemes (drop (lexeme_len xs) xs)) (sym front) ∙ ap (λ (r : List ℕ). c.split_at.result.0.now ∷ lexemes r) (sym back)
