-- Keywords of the language.
use Rattle.std.proofs.Common.{◌≡◌, ◌∙◌, ℕ, List, sym, ap}
use Rattle.text_core.specs.declared.token.Token.{Token}
use Rattle.text_core.specs.Token.{keyword_of}

-- bytes that are this word mean what the word means
pub by_word : (xs word : List ℕ) (t : Token) → xs ≡ word → keyword_of word ≡ t → t ≡ keyword_of xs
by_word xs word t e f = sym (ap keyword_of e ∙ f)
