-- The words of the frames: a row for each frame.
use Rattle.std.specs.Prelude.{◌≡◌, ℕ, zero, suc, List, [], ◌∷◌, ◌+◌, ◌++◌, take, drop, length, slice_get, slice_index, slice_set, unwrap_or}
use Rattle.std.specs.List.{flat_map}

-- the words of a frame
abbrev pub words_of : List (List ℕ) → ℕ → List ℕ
words_of rows frame = unwrap_or (slice_get rows frame) []

-- one word of a frame
abbrev pub word_of : List (List ℕ) → ℕ → ℕ → ℕ
word_of rows frame word = slice_index (words_of rows frame) word

-- this many words of a frame, from one on
abbrev pub words_from : List (List ℕ) → ℕ → ℕ → ℕ → List ℕ
words_from rows frame from count = take count (drop from (words_of rows frame))

-- the words of a frame where these values stand from one word on, and each other word stays
abbrev pub put_from : List ℕ → ℕ → List ℕ → List ℕ
put_from row from values = take from row ++ values ++ drop (from + length values) row

-- the frame has these words now, and each other frame keeps its own
abbrev pub with_words : List (List ℕ) → ℕ → List ℕ → List (List ℕ)
with_words rows frame words = slice_set rows frame words

-- one word of the frame has this value now, and each other word stays
abbrev pub with_word : List (List ℕ) → ℕ → ℕ → ℕ → List (List ℕ)
with_word rows frame word value = with_words rows frame (slice_set (words_of rows frame) word value)

-- the words of rows, one after the other
abbrev pub joined : List (List ℕ) → List ℕ
joined rows = flat_map (λ (row : List ℕ). row) rows

-- the rows of so many frames, of this many words each, whose words these are, one row after the other
abbrev pub rows_of : ℕ → ℕ → List ℕ → List (List ℕ)
rows_of size zero words = []
rows_of size (suc frames) words = take size words ∷ rows_of size frames (drop size words)

-- the words of so many frames, from a first one on, one after the other
abbrev pub block_words : List (List ℕ) → ℕ → ℕ → List ℕ
block_words rows first frames = joined (take frames (drop first rows))

-- so many frames, from a first one on, have these words now, one after the other, and each other frame keeps its own
pub record HasBlock (old new : List (List ℕ)) (first frames : ℕ) (words : List ℕ) : Type 0 where
  pub here : block_words new first frames ≡ words
  pub before : take first new ≡ take first old
  pub after : drop (first + frames) new ≡ drop (first + frames) old
  pub count : length new ≡ length old
