-- What is owned of the words of an allocation, and what a `&` to them lends.
use Rattle.std.specs.Prelude.{◌≡◌, refl, ℕ, zero, suc, ◌+◌, Bool, true, false, List, [], ◌∷◌, length}
use Rattle.std.specs.Coded.{Coded, code_by, coded×, coded_ℕ}
use base.Fraction.{full_share}
use base.Share
use base.Fml.{Lft, Fml, Share, ftrue, fsep}
use denote.Array.{Array}
use denote.Builtin.{u64}
use denote.Memory.{part_at, shared_of}
use denote.RawPtr.{Ptr, coded_ptr, block_ptr, block_of, count_of, lies_at}
use denote.Sharing.{nothing, beside}

-- p points into a block
abbrev pub IsPlaced : Ptr → Type 0
IsPlaced p = p ≡ block_ptr (block_of p) (count_of p)

-- the share of which each step takes the first or the second half; no step leaves the whole
abbrev pub share_of : List Bool → Share
share_of [] = full_share
share_of (true ∷ halves) = Share.left (share_of halves)
share_of (false ∷ halves) = Share.right (share_of halves)

-- whether the last step took the first half
abbrev pub is_first : List Bool → Bool
is_first [] = true
is_first (half ∷ halves) = half

-- how many words are out
abbrev pub count_out : List Bool → ℕ
count_out [] = zero
count_out (true ∷ here) = count_out here
count_out (false ∷ here) = suc (count_out here)

-- a share of a word, where it is here
abbrev pub word_owned : Share → Bool → ℕ → ℕ → ℕ → Fml
word_owned share true word b o = part_at u64 share word b o
word_owned share false word b o = ftrue

-- a share of those words, from (b, o) on, that are here
abbrev pub words_owned : Share → List ℕ → List Bool → ℕ → ℕ → Fml
words_owned share [] here b o = ftrue
words_owned share (word ∷ words) [] b o = ftrue
words_owned share (word ∷ words) (is_here ∷ here) b o = fsep (word_owned share is_here word b o) (words_owned share words here b (o + 8))

-- all of these words, from p on; nothing lies at null
abbrev pub words_at : Ptr → List ℕ → Fml
words_at p words = lies_at (Array u64 (length words)) full_share p words

-- what a `&` to them lends
abbrev pub word_lent : Bool → ℕ → ℕ → ℕ → Lft → Fml
word_lent true word b o = shared_of u64 word b o
word_lent false word b o = nothing

abbrev pub words_lent : List ℕ → List Bool → ℕ → ℕ → Lft → Fml
words_lent [] here b o = nothing
words_lent (word ∷ words) [] b o = nothing
words_lent (word ∷ words) (is_here ∷ here) b o = beside (word_lent is_here word b o) (words_lent words here b (o + 8))

-- where words begin, and how many there are
pub record Extent : Type 0 where
  pub ptr : Ptr
  pub len : ℕ

-- it is stored as the pair of its fields
abbrev pub extent_code : Coded Extent
extent_code = code_by (Ptr × ℕ) (coded× coded_ptr coded_ℕ) (λ e. (e.ptr, e.len)) (λ p. record { ptr = p.0; len = p.1 }) (λ _. refl)
