-- The calls that isolate the next page of a round and lend the words of its two frames, as rows, and that end its move when the rows come
-- back: what a move is whose words are lent, when the calls are refused, and what they leave.
use Rattle.std.specs.Prelude.{◌≡◌, refl, ℕ, Bool, true, false, ◌&&◌, length, nat_eq, if◌then◌else◌, Option, Some, None, is_none}
use Rattle.std.specs.Coded.{Coded, code_by, coded×, coded_ℕ}
use Rattle.std.specs.FinMap as map
use Rattle.std.specs.FinSet as set
use Rattle.std.specs.Option.{option_or}
use Rattle.frame_core.specs.declared.record.Cause.TheVariants.{NotCopied}
use Rattle.row_core.specs.Seen.{Row, row_code}
use Rattle.state_core.specs.declared.error.ZoneError.{ZoneError}
use Rattle.state_core.specs.declared.error.ZoneError.TheVariants.{OwnMemory}
use Rattle.state_core.specs.declared.moves.Ended.{Ended}
use Rattle.state_core.specs.declared.moves.Ended.TheVariants as ended
use Rattle.state_core.specs.declared.placement.Placement.{Placement}
use Rattle.state_core.specs.declared.placement.Placement.TheVariants.{Moving}
use Rattle.state_core.specs.declared.round.Pair.{Pair}
use Rattle.state_core.specs.Carrying.{words_now}
use Rattle.state_core.specs.Ending.{IsSettled, committed, put_back_to_source}
use Rattle.state_core.specs.Isolating.{isolate_refusal, isolated_next}
use Rattle.state_core.specs.Lending.{block_place}
use Rattle.state_core.specs.ZoneState.{ZoneState}

-- the move of a page whose words are lent: the page, the serial and the frames of its move, and the rows of the frame that it leaves and
-- of the one that it goes to
pub record LentMove : Type 0 where
  pub page : ℕ
  pub serial : ℕ
  pub source : ℕ
  pub target : ℕ
  pub from : Row
  pub to : Row

-- it is stored as the pair of its fields
abbrev pub lent_move_code : Coded LentMove
lent_move_code = code_by (ℕ × (ℕ × (ℕ × (ℕ × (Row × Row))))) (coded× coded_ℕ (coded× coded_ℕ (coded× coded_ℕ (coded× coded_ℕ (coded× row_code row_code)))))
    (λ m. (m.page, (m.serial, (m.source, (m.target, (m.from, m.to))))))
    (λ p. record { page = p.0; serial = p.1.0; source = p.1.1.0; target = p.1.1.1.0; from = p.1.1.1.1.0; to = p.1.1.1.1.1 })
    (λ _. refl)

-- why isolating the next page and lending its words is refused, if it is: an isolation is, or the zone lies in memory of its own
abbrev pub lend_move_refusal : ZoneState → Option ZoneError
lend_move_refusal z = option_or (isolate_refusal z) (if is_none z.memory then Some OwnMemory else None)

-- the zone after the page of a pair was isolated and the words of its two frames were lent
abbrev pub move_lent : ZoneState → Pair → ZoneState
move_lent z pair = record (isolated_next z pair) { lent_pages = set.insert z.lent_pages pair.page }

-- the zone after a scan whose page's words are lent, which changes nothing where there is no pair
abbrev pub next_lent : ZoneState → Option Pair → ZoneState
next_lent z None = z
next_lent z (Some pair) = move_lent z pair

-- whether a page with this placement is moving under this serial from this source to this target
abbrev pub is_on_way : Option Placement → ℕ → ℕ → ℕ → Bool
is_on_way (Some (Moving s from to)) serial source target = nat_eq s serial && nat_eq from source && nat_eq to target
is_on_way _ serial source target = false

-- whether a zone has this move, and has its words lent, which is all that it tests
abbrev pub is_lent_move : ZoneState → LentMove → Bool
is_lent_move z m = is_on_way (map.get z.placement m.page) m.serial m.source m.target && set.contains z.lent_pages m.page

-- a zone has this move, and its words are lent by these rows, of which the first has the words of the page
pub record IsLentMove (z : ZoneState) (m : LentMove) : Type 0 where
  pub way : map.get z.placement m.page ≡ Some (Moving m.serial m.source m.target)
  pub lent : set.contains z.lent_pages m.page ≡ true
  pub source_place : Some m.from.at ≡ block_place z m.source
  pub target_place : Some m.to.at ≡ block_place z m.target
  pub sizes : (length m.from.words ≡ z.page_size) × (length m.to.words ≡ z.page_size)
  pub words : m.from.words ≡ words_now z m.page

-- and the second row has the words of the first
pub record IsCopiedMove (z : ZoneState) (m : LentMove) : Type 0 where
  pub lent : IsLentMove z m
  pub copied : m.to.words ≡ m.from.words

-- the zone after the words of the two frames of a moving page came back
abbrev pub move_returned : ZoneState → ℕ → ZoneState
move_returned z page = record z { lent_pages = set.remove z.lent_pages page }

-- the zone after both rows came back and the copy was committed: a page with no pin is moved, and one with a pin is put back
abbrev pub lent_committed : ZoneState → LentMove → ZoneState
lent_committed z m = move_returned (committed z m.serial m.page) m.page

-- the zone after both rows came back and the page was put back, since it wasn't copied
abbrev pub lent_put_back : ZoneState → LentMove → ZoneState
lent_put_back z m = move_returned (put_back_to_source z m.serial m.page NotCopied) m.page

-- the move ended as the answer says: after Moved the page is in the target, after Back in the source, and the other frame is free
abbrev pub LentEnds : ZoneState → ZoneState → LentMove → Ended → Type 0
LentEnds old new m ended.Moved = IsSettled old new m.page m.target m.source
LentEnds old new m ended.Back = IsSettled old new m.page m.source m.target
