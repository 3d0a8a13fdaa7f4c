-- A zone with seven pages, on which the words of `FewestMoves.antt` can be read: its frames are cut into four runs of 128.
use Rattle.std.specs.Prelude.{ℕ, zero, suc, List, [], ◌∷◌, slice_index}
use Rattle.std.specs.FinMap as map
use Rattle.std.specs.Ordering.{nat_cmp}
use Rattle.frame_core.specs.declared.place.Address.{Address}
use Rattle.frame_core.specs.declared.record.Record.{Record}
use Rattle.frame_core.specs.declared.record.Record.TheVariants.{Map, Pin}
use Rattle.state_core.specs.Opening.{opened}
use Rattle.state_core.specs.ZoneState.{ZoneState}
use Rattle.state_core.specs.declared.placement.Placement.{Placement}
use Rattle.state_core.specs.declared.placement.Placement.TheVariants.{At}
use Rattle.fewest_core.specs.FewestMoves.{Move}

-- the frames of the pages 0 to 6: three are in run 0, one is in run 1, one in run 2, and two are in run 3
abbrev pub frame_list : List ℕ
frame_list = 0 ∷ 1 ∷ 2 ∷ 130 ∷ 300 ∷ 400 ∷ 401 ∷ []

-- the first n pages in these frames
abbrev pub placed : (ℕ → ℕ) → ℕ → map.FinMap nat_cmp Placement
placed frames zero = map.empty
placed frames (suc n) = map.insert (placed frames n) n (At (frames n))

-- each page has the address with its number in space 0
abbrev pub address_of : ℕ → Address
address_of page = record { space = 0; vpage = page }

-- the records of mapping the first n pages, the newest first
abbrev pub maps_of : ℕ → List Record
maps_of zero = []
maps_of (suc n) = Map 0 (address_of n) n ∷ maps_of n

-- one pageblock with the seven pages, of which page 3 was pinned
abbrev pub example : ZoneState
example = record (opened 0 1 16) {
  records = Pin 0 (address_of 3) ∷ maps_of 7;
  room = 8;
  placement = placed (slice_index frame_list) 7;
}

-- page 4 leaves run 2 for a free frame of run 1
abbrev pub example_move : Move
example_move = record { page = 4; source = 300; target = 200 }
