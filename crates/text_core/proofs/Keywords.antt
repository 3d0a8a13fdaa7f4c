-- Keywords at the front of a text.
use Rattle.std.proofs.Common.{◌≡◌, ◌∙◌, ◌⊎◌, inl, inr, ℕ, Bool, true, false, List, [], ◌∷◌, ◌++◌, ap, refl, arith, rules, append-nil}
use Rattle.std.specs.Prelude.{bytes_eq, if◌then◌else◌}
use Rattle.std.proofs.lemmas.Slice.Eq.{bytes_eq-Decides}
use Rattle.text_core.specs.declared.token.Token.{Token}
use Rattle.text_core.specs.declared.token.Token.TheVariants.{Other}
use Rattle.text_core.specs.Token.{first_word, after_word, keyword_of, number_or_keyword, token_of, tokens}
use Rattle.text_core.proofs.Lexemes.{bare_apart, after_word-append, first_word-append, is_bare}
use Rattle.text_core.proofs.Numbers.{one_of_both}
use Rattle.text_core.proofs.Tokens.{tokens_first}

-- a keyword has no space
or_bare : (word literal : List ℕ) (t other : Token) → is_bare literal ≡ true → (other ≡ Other) ⊎ (is_bare word ≡ true)
    → ((if bytes_eq word literal then t else other) ≡ Other) ⊎ (is_bare word ≡ true)
or_bare word literal t other bare more = by_test (bytes_eq word literal) refl where
  by_test : (b : Bool) → bytes_eq word literal ≡ b → ((if b then t else other) ≡ Other) ⊎ (is_bare word ≡ true)
  by_test true e = inr (ap is_bare ((bytes_eq-Decides word literal).0 e) ∙ bare)
  by_test false e = more

keyword_bare : (word : List ℕ) → (keyword_of word ≡ Other) ⊎ (is_bare word ≡ true)
keyword_bare word = search (or_bare, rules)

token_of_keyword : (word : List ℕ) → (keyword_of word ≡ Other → ⊥) → token_of word ≡ keyword_of word
token_of_keyword word known = elim (one_of_both word) [
  | inl none ↦ ap (λ n. number_or_keyword n word) none
  | inr other ↦ absurd (known other)
]

bare_keyword_comes : (word after : List ℕ) → is_bare word ≡ true → (keyword_of word ≡ Other → ⊥) → first_word after ≡ [] → after_word after ≡ after
    → tokens (word ++ after) ≡ keyword_of word ∷ tokens after
bare_keyword_comes [] after bare known ends stays = absurd (known refl)
bare_keyword_comes (b ∷ word) after bare known ends stays =
    let front : first_word (b ∷ (word ++ after)) ≡ b ∷ word =
    first_word-append (b ∷ word) after bare ∙ ap (λ (r : List ℕ). b ∷ (word ++ r)) ends ∙ append-nil (b ∷ word) in
    let back : after_word (b ∷ (word ++ after)) ≡ after = after_word-append (b ∷ word) after bare ∙ stays in
    tokens_first (b ∷ (word ++ after)) (omega arith) (bare_apart b word (word ++ after) bare)
    ∙ ap (λ (w : List ℕ). token_of w ∷ tokens (after_word (b ∷ (word ++ after)))) front
    ∙ ap (λ (r : List ℕ). token_of (b ∷ word) ∷ tokens r) back
    ∙ ap (λ (t : Token). t ∷ tokens after) (token_of_keyword (b ∷ word) known)

-- a text that is a keyword followed by a space or by nothing has the keyword as its first token
pub keyword_comes : (word after : List ℕ) → (keyword_of word ≡ Other → ⊥) → first_word after ≡ [] → after_word after ≡ after
    → tokens (word ++ after) ≡ keyword_of word ∷ tokens after
keyword_comes word after known ends stays = elim (keyword_bare word) [
  | inl other ↦ absurd (known other)
  | inr bare ↦ bare_keyword_comes word after bare known ends stays
]
