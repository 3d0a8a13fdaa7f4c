-- What a worker does under one hold of the lock, and what a round comes to.
use Rattle.std.specs.Prelude.{◌≡◌, ℕ, ◌+◌, ◌≤◌, List, [], ◌∷◌, map, true, Option, Some, IsSome}
use denote.RawPtr.{Ptr}
use Rattle.frame_core.specs.Ends.{AreEndedOnce}
use Rattle.frame_core.specs.Moves.{isolated, out}
use Rattle.state_core.specs.Packed.{IsPacked}
use Rattle.state_core.specs.ZoneState.{ZoneState, is_quiet}
use Rattle.worker_threads.specs.Hands.{PageInHand}
use Rattle.worker_threads.specs.Kept.{IsRoom}
use Rattle.worker_threads.specs.Rooms.{Room, page_committed}
use Rattle.worker_threads.specs.declared.round.Round.{Round}
use Rattle.worker_threads.specs.declared.round.Stop.{Stop}
use Rattle.worker_threads.specs.declared.round.Stop.TheVariants as stop
use Rattle.worker_threads.specs.declared.work.Work.{Work}

-- pages after each of them was copied
abbrev pub all_copied : List PageInHand → List PageInHand
all_copied pages = map (λ (p : PageInHand). record p { to = p.from }) pages

-- the room after the copies of these pages were given back, one after the other
abbrev pub all_committed : Room → List PageInHand → Room
all_committed r [] = r
all_committed r (p ∷ pages) = all_committed (page_committed r p.place p.way) pages

-- the only round of a zone, which has stopped as it may, and of which no page is out
pub record IsOnlyRound (keeps : Work → ℕ → ZoneState → Type 0) (stops_at : Work → ℕ → ℕ → Stop → Type 0) (z : ZoneState) (round : Round) : Type 0 where
  -- the work, with what is left of it
  pub work : Work
  pub fact : keeps work 1 z
  pub none_out : out z.records ≡ []
  pub stop : Stop
  pub stopped : round.stopped ≡ Some stop
  pub stops : stops_at work 1 (isolated z.records) stop

-- a worker got so many pages, at most as many as it has places, and fewer only where the round stopped or a place isn't free
pub record GotPages (old new : Room) (pages : ℕ) : Type 0 where
  pub isolated : new.round.isolated ≡ old.round.isolated + pages
  pub most : pages ≤ 32

-- the lock had this zone when the round was settled: no page is out, each that was ever isolated ended once, and each that the round isolated
-- was moved or put back
pub record WasSettled (number blocks : ℕ) (memory : Option Ptr) (size : ℕ) (round : Round) : Type 0 where
  pub room : Room
  pub is : IsRoom number blocks memory size room
  pub its_round : round ≡ room.round
  pub has_stopped : IsSome round.stopped
  pub none_out : out room.zone.records ≡ []
  pub once : AreEndedOnce room.zone.records
  pub sum : round.moved + round.back ≡ round.isolated
  -- where the scanners of a quiet round met, the zone is packed
  pub packed : round.stopped ≡ Some stop.Met → is_quiet room.zone ≡ true → IsPacked room.zone
