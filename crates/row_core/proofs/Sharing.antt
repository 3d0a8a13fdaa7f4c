-- A `&` to the right to words lends each word that is here. Assumes `Logic`.
use Rattle.std.proofs.Common.{ℕ, ◌+◌, Bool, true, false, List, [], ◌∷◌}
use seplogic.Ra.Ura.{Ura}
use mir.Syntax.{w64}
use base.Fml.{Lft, Share, ftrue}
use types.Logic.{Logic}
use denote.Copied.{uint_Copied}
use denote.Plain.{uint_row_laws}
use denote.Sharing.{ShrLaws}
use denote.SharingLaws.{beside_shr_laws, nothing_shr_laws}
use denote.Struct.Lending.{Lends, Lends-both, Lends-nothing}
use Rattle.row_core.specs.Owned.{word_owned, words_owned, word_lent, words_lent}

word_lent-laws : (is_here : Bool) (word b o : ℕ) → ShrLaws (word_lent is_here word b o)
word_lent-laws true word b o = uint_row_laws w64 word b o
word_lent-laws false word b o = nothing_shr_laws

pub words_lent-laws : (words : List ℕ) (here : List Bool) (b o : ℕ) → ShrLaws (words_lent words here b o)
words_lent-laws [] here b o = nothing_shr_laws
words_lent-laws (word ∷ words) [] b o = nothing_shr_laws
words_lent-laws (word ∷ words) (is_here ∷ here) b o = beside_shr_laws _ _ (word_lent-laws is_here word b o) (words_lent-laws words here b (o + 8))

module _ {M : Type 1} {𝓤 : Ura M} (𝓛 : Logic 𝓤) (l : Lft) (share : Share) where
  Lends-word : (is_here : Bool) (word b o : ℕ) → Lends 𝓛 (word_owned share is_here word b o) (word_lent is_here word b o) l
  Lends-word true word b o = λ κ ts. (uint_Copied 𝓛 w64).shares share l word κ ts b o
  Lends-word false word b o = Lends-nothing 𝓛 ftrue l

  pub Lends-words : (words : List ℕ) (here : List Bool) (b o : ℕ) → Lends 𝓛 (words_owned share words here b o) (words_lent words here b o) l
  Lends-words [] here b o = Lends-nothing 𝓛 ftrue l
  Lends-words (word ∷ words) [] b o = Lends-nothing 𝓛 ftrue l
  Lends-words (word ∷ words) (is_here ∷ here) b o =
      Lends-both 𝓛 (word_owned share is_here word b o) (words_owned share words here b (o + 8)) (word_lent is_here word b o) (words_lent words here b (o + 8)) l
      (Lends-word is_here word b o) (Lends-words words here b (o + 8))
