-- The answers of the calls that isolate a page and lend its words, and how a page that was sent out of a run ends.
use Rattle.std.specs.Prelude.{◌≡◌, ◌≢◌, ⊤, ℕ, true, length, Some, None}
use Rattle.std.specs.FinMap as map
use Rattle.fewest_core.specs.Sending.{next_move_from}
use Rattle.frame_core.specs.declared.place.Address.{Address}
use Rattle.frame_core.specs.History.{page_at}
use Rattle.frame_core.specs.Moves.{isolated}
use Rattle.state_core.specs.declared.moves.Ended.{Ended}
use Rattle.state_core.specs.declared.moves.Ended.TheVariants as ended
use Rattle.state_core.specs.declared.moves.Next.{Next}
use Rattle.state_core.specs.declared.moves.Next.TheVariants as next
use Rattle.state_core.specs.declared.placement.Placement.TheVariants.{At}
use Rattle.state_core.specs.Carrying.{flags_of, words_now}
use Rattle.state_core.specs.Claiming.{is_claimed}
use Rattle.state_core.specs.Ending.{IsSettled}
use Rattle.state_core.specs.LentMoves.{IsLentMove, LentMove}
use Rattle.state_core.specs.Pairs.{next_pair}
use Rattle.state_core.specs.ZoneState.{ZoneState}

-- it is the move of the next pair, under the next serial, and the words are lent; or it is Met, where there is no pair
abbrev pub LendsNext : ZoneState → ZoneState → Next LentMove → Type 0
LendsNext old new next.Met = next_pair old ≡ None
LendsNext old new (next.Page m) = (next_pair old ≡ Some (record { page = m.page; source = m.source; target = m.target })) × (m.serial ≡ isolated old.records) × IsLentMove new m

-- the same of the page that goes next out of a run: it is the move of this page, or it is Met, where no page goes
abbrev pub SendsNext : (first size : ℕ) → ZoneState → ZoneState → Next LentMove → Type 0
SendsNext first size old new next.Met = next_move_from first size old ≡ None
SendsNext first size old new (next.Page m) = (next_move_from first size old ≡ Some (record { page = m.page; source = m.source; target = m.target })) × (m.serial ≡ isolated old.records) × IsLentMove new m

-- a page that was sent is in its target, with its flags and words, at each address that names it; the frame that it left is claimed,
-- and nothing else moved
pub record IsSentOff (old new : ZoneState) (m : LentMove) : Type 0 where
  pub here : map.get new.placement m.page ≡ Some (At m.target)
  pub shut : is_claimed new m.source ≡ true
  pub flags : flags_of new m.page ≡ flags_of old m.page
  pub words : words_now new m.page ≡ words_now old m.page
  pub others : (other : ℕ) → other ≢ m.page → map.get new.placement other ≡ map.get old.placement other
  pub names : (address : Address) → page_at new.records address ≡ page_at old.records address

-- the move of a page that was sent ended as the answer says: after Moved the page is in the target and its source is claimed, after Back it
-- is in the source and the target is free
abbrev pub SentEnds : ZoneState → ZoneState → LentMove → Ended → Type 0
SentEnds old new m ended.Moved = IsSentOff old new m
SentEnds old new m ended.Back = IsSettled old new m.page m.source m.target

-- each of its two rows has so many words
abbrev pub HaveWords : ℕ → Next LentMove → Type 0
HaveWords count next.Met = ⊤
HaveWords count (next.Page m) = (length m.from.words ≡ count) × (length m.to.words ≡ count)
