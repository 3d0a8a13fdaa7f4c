-- Runs that one thread empties, page after page, and how a zone stands to that whose runs workers empty.
use Rattle.std.specs.Prelude.{◌≡◌, ⊤, ℕ, zero, suc, ◌+◌, ◌-◌, ◌*◌, ◌^◌, ◌<◌, ◌≤◌, Bool, true, false, ◌&&◌, ◌||◌, nat_eq, List, [], length, Option, Some, None, IsSome}
use Rattle.std.specs.FinMap as map
use Rattle.std.specs.FinSet as set
use Rattle.frame_core.specs.Below.{count_below, some_below}
use Rattle.frame_core.specs.History.{pins}
use Rattle.frame_core.specs.Moves.{isolated, moved, out, put_back}
use Rattle.state_core.specs.Claiming.{claimed_at}
use Rattle.state_core.specs.declared.error.ZoneError.TheVariants.{JournalFull}
use Rattle.state_core.specs.declared.placement.Placement.{Placement}
use Rattle.state_core.specs.declared.placement.Placement.TheVariants.{At, Moving}
use Rattle.state_core.specs.Isolating.{isolate_refusal}
use Rattle.state_core.specs.Valid.{IsValidZone}
use Rattle.state_core.specs.ZoneState.{ZoneState, frame_count, is_free}
use Rattle.fewest_core.specs.Claims.{highest_vacant, may_go}
use Rattle.fewest_core.specs.Evacuation.{moved_away}
use Rattle.fewest_core.specs.FewestMoves.{Move, costs, least}
use Rattle.fewest_core.specs.Reservation.{is_in_runs, ArePicked}
use Rattle.worker_threads.specs.Runs.{AreBlocks, Runs}
use Rattle.worker_threads.specs.Work.{first_move, runs_claimed, still_left}
use Rattle.worker_threads.specs.declared.round.Stop.{Stop}
use Rattle.worker_threads.specs.declared.round.Stop.TheVariants as stop
use Rattle.worker_threads.specs.declared.work.Work.{Work}
use Rattle.worker_threads.specs.declared.work.Work.TheVariants.{Compact, Empty}
use Rattle.zone_core.specs.Alone.{IsAtRest}
use Rattle.zone_core.specs.Outcome.{IsSame, outcome_of}

-- the runs that are left, and the zone
pub record Emptying : Type 0 where
  pub left : List ℕ
  pub zone : ZoneState

-- the zone after a page was moved out of its run and the frame that it left was claimed, if there is such a move
abbrev pub moved_out_by : ZoneState → Option Move → ZoneState
moved_out_by z None = z
moved_out_by z (Some m) = claimed_at (moved_away z m) m.source

-- after the next page went, if there is one: runs that no page can leave are done with
abbrev pub page_out : ℕ → Emptying → Emptying
page_out size e =
    let left = still_left size e.zone e.left in
    record { left = left; zone = moved_out_by e.zone (first_move size e.zone left) }

-- after so many pages went
abbrev pub pages_out : ℕ → ℕ → Emptying → Emptying
pages_out size zero e = e
pages_out size (suc n) e = page_out size (pages_out size n e)

-- before the first page goes: the free frames of the runs are claimed
abbrev pub emptying_begun : Runs → ZoneState → Emptying
emptying_begun runs z = record { left = runs.left; zone = runs_claimed (2 ^ runs.order) runs.left z }

-- whether a page with this placement is leaving a frame
abbrev pub is_leaving : Option Placement → ℕ → Bool
is_leaving None frame = false
is_leaving (Some (At f)) frame = false
is_leaving (Some (Moving serial source target)) frame = nat_eq frame source

-- whether some page is leaving a frame
abbrev pub is_left : ZoneState → ℕ → Bool
is_left z frame = some_below (λ page. is_leaving (map.get z.placement page) frame) (frame_count z)

-- a page of these runs that is moving has no pin, and goes to a frame of no run, and while it does the latest round is forgotten
pub record AreGoingOut (is_in : ℕ → Bool) (z : ZoneState) : Type 0 where
  pub unpinned : (page serial source target : ℕ) → map.get z.placement page ≡ Some (Moving serial source target) → pins z.records page ≡ 0
  pub outside : (page serial source target : ℕ) → map.get z.placement page ≡ Some (Moving serial source target) → is_in target ≡ false
  pub forgotten : (page serial source target : ℕ) → map.get z.placement page ≡ Some (Moving serial source target) → z.round ≡ None

-- a zone comes to another one, in which no page is moving, once each moving page was moved and the frame that it left is claimed
pub record ComesTo (is_in : ℕ → Bool) (w z : ZoneState) : Type 0 where
  pub valid : IsValidZone w
  pub rests : out w.records ≡ []
  pub going : AreGoingOut is_in z
  pub outcome : outcome_of (record z { claimed = w.claimed }) ≡ outcome_of w
  pub claimed : (frame : ℕ) → set.contains w.claimed frame ≡ (set.contains z.claimed frame || is_left z frame)
  pub back : put_back z.records ≡ put_back w.records
  -- no frame of the runs is free in the other one
  pub shut : (frame : ℕ) → is_in frame ≡ true → is_free w frame ≡ false

-- workers who empty runs have come as far as one thread once so many pages went
pub record HasComeTo (start : ZoneState) (runs : Runs) (left : List ℕ) (z : ZoneState) (n : ℕ) : Type 0 where
  pub left_is : left ≡ (pages_out (2 ^ runs.order) n (emptying_begun runs start)).left
  pub comes : ComesTo (is_in_runs runs.left (2 ^ runs.order)) (pages_out (2 ^ runs.order) n (emptying_begun runs start)).zone z

-- how many pages of the frames that pass may go
abbrev pub to_go : (ℕ → Bool) → ZoneState → ℕ
to_go is_in z = count_below (λ frame. is_in frame && may_go z frame) (frame_count z)

-- the places that a journal has for moves: two for each that was begun, and what is left once each of them has its end
abbrev pub places_for_moves : ZoneState → ℕ
places_for_moves z = z.room - length (out z.records) + 2 * isolated z.records

-- What the lock of a zone keeps while workers empty runs of it, where nobody else has the zone.

-- the work, of which this is left, has come as far as one thread that moved some pages
pub record IsEmptied (start : ZoneState) (runs : Runs) (work : Work) (z : ZoneState) : Type 0 where
  pub left : List ℕ
  pub work_is : work ≡ Empty (record { order = runs.order; left = left })
  pub pages : ℕ
  pub come : HasComeTo start runs left z pages
  pub places : places_for_moves z ≡ places_for_moves start

-- it hasn't begun, or it is under way; of later work nothing is kept
abbrev pub KeepsFirstWork : ZoneState → Runs → Work → ℕ → ZoneState → Type 0
KeepsFirstWork start runs work zero z = z ≡ start
KeepsFirstWork start runs work (suc zero) z = IsEmptied start runs work z
KeepsFirstWork start runs work (suc (suc more)) z = ⊤

-- if no page was moving before, and a block can begin at each run
abbrev pub KeepsEmptied : ZoneState → Runs → Work → ℕ → ZoneState → Type 0
KeepsEmptied start runs work rounds z = IsAtRest start → AreBlocks (frame_count start) runs → KeepsFirstWork start runs work rounds z

-- no run is left of the work
abbrev pub HasNoRun : Work → Type 0
HasNoRun Compact = ⊤
HasNoRun (Empty runs) = runs.left ≡ []

-- work stops where no page is left that can go, and then no run is left; or, where this is the first work, once the journal has too few places
-- for a move more than were begun
abbrev pub StopsEmptied : ZoneState → Runs → Work → ℕ → ℕ → Stop → Type 0
StopsEmptied start runs work rounds count stop.NoneLeft = HasNoRun work
StopsEmptied start runs work rounds count stop.JournalFull = rounds ≡ 1 → IsAtRest start → AreBlocks (frame_count start) runs → places_for_moves start < 2 * count + 2
StopsEmptied start runs work rounds count stop.Met = ⊤

-- workers emptied runs: the zone is the one after one thread moved so many pages out of them, but for the order in which moves ended; where
-- the workers stopped since no page is left, no run is left to that thread either
pub record WasEmptied (start : ZoneState) (runs : Runs) (z : ZoneState) (reason : Option Stop) : Type 0 where
  pub pages : ℕ
  pub same : IsSame (pages_out (2 ^ runs.order) pages (emptying_begun runs start)).zone z
  pub none_left : reason ≡ Some stop.NoneLeft → (pages_out (2 ^ runs.order) pages (emptying_begun runs start)).left ≡ []
  -- then, as long as a frame is vacant still, each page that could go was moved, and once
  pub moved : reason ≡ Some stop.NoneLeft → IsSome (highest_vacant z) → moved z.records ≡ moved start.records + to_go (is_in_runs runs.left (2 ^ runs.order)) start
  -- and where they stopped since the journal is full, it has no places for another move; nor has that thread's, which has as many left
  pub full : reason ≡ Some stop.JournalFull → isolate_refusal z ≡ Some JournalFull
  -- of the cheapest runs, where so many are open, these are the fewest pages that so many runs have
  pub least : ArePicked start runs.order runs.left → length runs.left ≤ length (costs start (2 ^ runs.order)) → to_go (is_in_runs runs.left (2 ^ runs.order)) start ≡ least (length runs.left) start (2 ^ runs.order)
