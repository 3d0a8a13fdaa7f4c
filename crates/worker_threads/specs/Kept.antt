-- What is so whenever the lock is free.
use Rattle.std.specs.Prelude.{◌≡◌, ℕ, ◌+◌, ◌*◌, ◌≤◌, true, false, List, length, Option, Some, is_none, slice_get}
use denote.RawPtr.{Ptr}
use Rattle.frame_core.specs.Moves.{isolated}
use Rattle.row_core.specs.Seen.{Row}
use Rattle.state_core.specs.LentMoves.{IsLentMove, LentMove}
use Rattle.state_core.specs.Pairs.{HaveMet}
use Rattle.state_core.specs.Valid.{IsValidZone}
use Rattle.state_core.specs.ZoneState.{ZoneState, is_quiet}
use Rattle.worker_threads.specs.Rooms.{Room, in_hand}
use Rattle.worker_threads.specs.Work.{AreRuns}
use Rattle.worker_threads.specs.declared.room.KeptHalf.{KeptHalf}
use Rattle.worker_threads.specs.declared.round.Stop.{Stop}
use Rattle.worker_threads.specs.declared.round.Stop.TheVariants as stop
use Rattle.worker_threads.specs.declared.work.Work.{Work}
use Rattle.zone_core.specs.ZoneIdentity.{HasIdentity}

-- the move of which half of the right to its words is kept, with this row of the frame that it goes to
abbrev pub lent_by : KeptHalf → Row → LentMove
lent_by k to = record { page = k.way.page; serial = k.way.serial; source = k.way.source; target = k.way.target; from = record { at = k.half.at; words = k.half.words }; to = to }

-- it is the first half of so many words, and its move is one of the zone's whose words are lent, with the words of the page
pub record IsKept (size : ℕ) (z : ZoneState) (k : KeptHalf) : Type 0 where
  pub first : k.half.is_first ≡ true
  pub long : length k.half.words ≡ size
  pub to : Row
  pub lent : IsLentMove z (lent_by k to)

-- so is each of these halves, and no two are of one move
pub record AreKept (size : ℕ) (z : ZoneState) (kept : List (Option KeptHalf)) : Type 0 where
  pub each : (i : ℕ) (k : KeptHalf) → slice_get kept i ≡ Some (Some k) → IsKept size z k
  pub apart : (i j : ℕ) (k l : KeptHalf) → slice_get kept i ≡ Some (Some k) → slice_get kept j ≡ Some (Some l) → k.way.serial ≡ l.way.serial → i ≡ j

-- and what more is kept of it: this is so after so many rounds, and where the latest one stopped, it may
pub record Keeps (keeps : Work → ℕ → ZoneState → Type 0) (stops_at : Work → ℕ → ℕ → Stop → Type 0) (r : Room) : Type 0 where
  pub fact : keeps r.work r.rounds r.zone
  pub stops : (reason : Stop) → r.round.stopped ≡ Some reason → stops_at r.work r.rounds (isolated r.zone.records) reason

-- a zone with this number and so many pageblocks lies in this memory of its caller, with pages of so many words; the latest round counts
-- each page that it isolated once: as moved, as put back, or in the hands of a worker
pub record IsRoom (number blocks : ℕ) (memory : Option Ptr) (size : ℕ) (r : Room) : Type 0 where
  pub valid : IsValidZone r.zone
  pub identity : HasIdentity number blocks r.zone
  pub memory_is : r.zone.memory ≡ memory
  pub given : is_none memory ≡ false
  pub halves : AreKept size r.zone r.kept
  pub sum : r.round.isolated ≡ r.round.moved + r.round.back + in_hand r.kept
  pub most : r.round.isolated ≤ isolated r.zone.records
  pub runs : AreRuns (512 * blocks) r.work
  -- where the scanners met, they have met for as long as the round is quiet
  pub met : r.round.stopped ≡ Some stop.Met → is_quiet r.zone ≡ true → HaveMet r.zone
