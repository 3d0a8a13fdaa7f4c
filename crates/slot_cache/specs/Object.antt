-- The objects of the cache.
use Rattle.std.specs.Prelude.{ℕ, ◌+◌, ◌*◌, ◌%◌, List, [], ◌∷◌, nat_lt, if◌then◌else◌}

-- how many words the object of a key has: 1 to 8
abbrev pub length_of : ℕ → ℕ
length_of key = 1 + key % 8

-- a word of its page: no other object has one of its words, and after them stand zeros
abbrev pub word_of : ℕ → ℕ → ℕ
word_of key at = if nat_lt at (length_of key) then 8 * key + at else 0

-- its page
abbrev pub object_of : ℕ → List ℕ
object_of key = word_of key 0 ∷ word_of key 1 ∷ word_of key 2 ∷ word_of key 3 ∷ word_of key 4 ∷ word_of key 5 ∷ word_of key 6 ∷ word_of key 7 ∷ []
