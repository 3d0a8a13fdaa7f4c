-- A moving page in the hands of a worker, and the hands.
use Rattle.std.specs.Prelude.{◌≡◌, ℕ, ◌*◌, false, List, [], length, Option, Some}
use Rattle.std.specs.Option.{option_map}
use denote.RawPtr.{Ptr, ◌+ₚ◌}
use Rattle.row_core.specs.Seen.{Half, Row}
use Rattle.zone_tables.specs.declared.ending.Move.{Move}

-- the place under the lock where the other half of its right is, its move, and the words of the frame that it leaves and of the one that it goes to
pub record PageInHand : Type 0 where
  pub place : ℕ
  pub way : Move
  pub from : List ℕ
  pub to : List ℕ

-- where the words of a frame begin, in a zone with this memory and with pages of so many words
abbrev pub place_in : Option Ptr → ℕ → ℕ → Option Ptr
place_in memory size frame = option_map (λ at. at +ₚ frame * size * 8) memory

-- the second half of the right to the words that a page leaves, and the row that it goes to, lie where its two frames do
pub record AreOf (memory : Option Ptr) (size : ℕ) (way : Move) (from : Half) (to : Row) : Type 0 where
  pub second : from.is_first ≡ false
  pub source : Some from.at ≡ place_in memory size way.source
  pub target : Some to.at ≡ place_in memory size way.target
  pub sizes : (length from.words ≡ size) × (length to.words ≡ size)

-- the number of a worker, the pages that it has, and those that it has copied
pub record Hands : Type 0 where
  pub worker : ℕ
  pub pages : List PageInHand
  pub copies : List PageInHand

-- it has none
pub record AreEmpty (hands : Hands) : Type 0 where
  pub pages : hands.pages ≡ []
  pub copies : hands.copies ≡ []
