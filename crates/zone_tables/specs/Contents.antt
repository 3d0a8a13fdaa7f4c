-- The words of the blocks that are handed out, as the tables have them.
use Rattle.std.specs.Prelude.{ℕ, ◌*◌, ◌^◌, Bool, true, false, List, Option, Some, None, if◌then◌else◌, replicate}
use denote.RawPtr.{Ptr}
use Rattle.frame_core.specs.LentWords.{Words}
use Rattle.std.specs.Option.{option_map}
use Rattle.zone_tables.specs.HandedOut.{order_of}
use Rattle.scan_core.specs.Frames.{true_at}
use Rattle.frame_core.specs.Words.{block_words}

-- the words of a block of this order, from this first frame on: those of its frames, or zeros where it wasn't cleared since it was
-- handed out
abbrev pub words_held : ℕ → List (List ℕ) → Bool → ℕ → ℕ → List ℕ
words_held size rows true first order = block_words rows first (2 ^ order)
words_held size rows false first order = replicate (2 ^ order * size) 0

-- where the words of a zone begin, if they lie in memory that its caller gave
abbrev pub memory_of : Words → Option Ptr
memory_of words = if words.given then Some words.at else None

-- the words of the block that is handed out from this first frame on, if there is one
abbrev pub contents_at : ℕ → List (List ℕ) → List Bool → List (Option ℕ) → ℕ → Option (List ℕ)
contents_at size rows cleared orders first = option_map (words_held size rows (true_at cleared first) first) (order_of orders first)
