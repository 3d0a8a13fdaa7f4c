-- A world: a zone, its isolated pages, and four hands.
use Rattle.std.specs.Prelude.{◌≡◌, ℕ, ◌+◌, ◌-◌, ◌<◌, ◌≤◌, ◌↔◌, nat_eq, Bool, true, false, ◌||◌, List, [], ◌∷◌, ◌++◌, length, replicate, slice_set, unwrap_or, if◌then◌else◌, Option, Some, None, IsTrue}
use Rattle.std.specs.FinSet as set
use Rattle.std.specs.List.{list_any, list_all}
use Rattle.std.specs.Option.{option_and_then}
use Rattle.frame_core.specs.declared.record.Cause.TheVariants.{NotCopied}
use Rattle.frame_core.specs.Moves.{isolated, is_out, page_of}
use Rattle.state_core.specs.declared.error.ZoneError.{ZoneError}
use Rattle.state_core.specs.declared.moves.Next.TheVariants as next
use Rattle.state_core.specs.declared.round.Pair.{Pair}
use Rattle.machine_core.specs.declared.finished.Finished.{Finished}
use Rattle.machine_core.specs.declared.hands.Held.{Held}
use Rattle.machine_core.specs.declared.hands.Held.TheVariants.{Nothing, Page, Copy}
use Rattle.machine_core.specs.declared.scanned.Scanned.{Scanned}
use Rattle.machine_core.specs.declared.scanned.Scanned.TheVariants as found
use Rattle.machine_core.specs.Hands.{held_at, is_nothing, page_held, copy_held, serial_in}
use Rattle.state_core.specs.Valid.{IsValidZone}
use Rattle.state_core.specs.Rounds.{round_begun}
use Rattle.state_core.specs.Isolating.{isolate_refusal, isolated_next, next_answer}
use Rattle.state_core.specs.Ending.{committed, ended_as, put_back_to_source}
use Rattle.state_core.specs.Pairs.{next_pair}
use Rattle.state_core.specs.Opening.{opened_with}
use Rattle.state_core.specs.ZoneState.{ZoneState, frame_count}
use Rattle.zone_core.specs.Seats.{ScanSeat, EndSeat, fresh_scan_seat, fresh_end_seat, seat_begun, seat_full, seat_noted, seat_ended}

-- a world, as contracts see it
pub record WorldState : Type 0 where
  pub zone : ZoneState
  -- the seat of the zone's scanner, and the seat of those who end moves
  pub scan : ScanSeat
  pub ends : EndSeat
  -- whether a hand round is open
  pub is_open : Bool
  -- the serials of the pages that wait for a hand to take them
  pub waiting : List ℕ
  -- what each of the four hands holds: nothing, a page or its copy, under its serial
  pub hands : List (Held ℕ ℕ)

-- a world in which no round is open and no page is moving, with this zone and these seats
abbrev pub world_closed : ZoneState → ScanSeat → EndSeat → WorldState
world_closed zone scan ends = record { zone = zone; scan = scan; ends = ends; is_open = false; waiting = []; hands = replicate 4 Nothing }

-- a world with an empty zone, with this many words in a page
abbrev pub world_opened_with : ℕ → ℕ → ℕ → ℕ → WorldState
world_opened_with size number blocks places = world_closed (opened_with size number blocks places) fresh_scan_seat fresh_end_seat

-- a world with an empty zone, with eight words in a page
abbrev pub world_opened : ℕ → ℕ → ℕ → WorldState
world_opened number blocks places = world_opened_with 8 number blocks places

-- the world with this zone instead of its own
abbrev pub with_zone : WorldState → ZoneState → WorldState
with_zone w zone = record w { zone = zone }

-- the world in which hand k, 1 to 4, holds this
abbrev pub with_hand : WorldState → ℕ → Held ℕ ℕ → WorldState
with_hand w k hand = record w { hands = slice_set w.hands (k - 1) hand }

-- the world with an open round: where none was open one was begun, which the seat counted
abbrev pub round_opened : WorldState → WorldState
round_opened w = record w {
  zone = if w.is_open then w.zone else round_begun w.zone;
  scan = if w.is_open then w.scan else seat_begun w.scan;
  is_open = true;
}

-- what a scan finds, given the pair that is next, if there is one
abbrev pub scanned_by : ZoneState → Option Pair → Scanned
scanned_by z None = found.Met
scanned_by z (Some pair) = found.Serial (isolated z.records)

-- the world after a scan in an open round, given the next pair: its page waits after the others, and the seat notes the answer
abbrev pub isolated_by : WorldState → Option Pair → WorldState
isolated_by w None = record w { scan = seat_noted w.scan next.Met }
isolated_by w (Some pair) = record w {
  zone = isolated_next w.zone pair;
  scan = seat_noted w.scan (next_answer w.zone (Some pair));
  waiting = w.waiting ++ isolated w.zone.records ∷ [];
}

-- why a scan is refused after its round was opened, if it is
abbrev pub scan_refusal : WorldState → Option ZoneError
scan_refusal w = isolate_refusal (round_opened w).zone

-- the world after a scan that the journal had no room for: the round is open, and the seat notes the refusal
abbrev pub scan_stopped : WorldState → WorldState
scan_stopped w = record (round_opened w) { scan = seat_full (round_opened w).scan }

-- what a scan answers: the serial of the next page, or that the scanners met
abbrev pub scan_answer : WorldState → Scanned
scan_answer w = scanned_by (round_opened w).zone (next_pair (round_opened w).zone)

-- the world after an accepted scan: the next page is isolated and waits after the others, and the seat notes the answer
abbrev pub scanned : WorldState → WorldState
scanned w = isolated_by (round_opened w) (next_pair (round_opened w).zone)

-- the serial and the world after a hand took the page that has waited longest, and none unless the hand is empty and a page waits
abbrev pub taken_by : WorldState → ℕ → Held ℕ ℕ → List ℕ → Option (ℕ × WorldState)
taken_by w k Nothing (serial ∷ more) = Some (serial, record (with_hand w k (Page serial)) { waiting = more })
taken_by w k _ _ = None

-- the serial and the world after a take by hand k, and none where it is refused
abbrev pub take_step : WorldState → ℕ → Option (ℕ × WorldState)
take_step w k = taken_by w k (held_at w.hands k) w.waiting

-- the world after hand k copied its page, and none where it has no page
abbrev pub copy_step : WorldState → ℕ → Option WorldState
copy_step w k = option_and_then (λ serial. Some (with_hand w k (Copy serial))) (page_held (held_at w.hands k))

-- how the move of a serial ends when its copy is brought
abbrev pub finished_as : ZoneState → ℕ → Finished
finished_as z serial = record { serial = serial; ended = ended_as z (unwrap_or (page_of z.records serial) 0) }

-- the zone after the move of a serial ended with its copy
abbrev pub finished_in : ZoneState → ℕ → ZoneState
finished_in z serial = committed z serial (unwrap_or (page_of z.records serial) 0)

-- the world after hand k brought its copy to the zone: the hand is empty, and the end seat counts the page
abbrev pub finished_by : WorldState → ℕ → ℕ → WorldState
finished_by w k serial = record (with_hand w k Nothing) {
  zone = finished_in w.zone serial;
  ends = seat_ended w.ends (finished_as w.zone serial).ended;
}

-- how the move ended, and the world, after a finish by hand k, and none where it is refused
abbrev pub finish_step : WorldState → ℕ → Option (Finished × WorldState)
finish_step w k = option_and_then (λ serial. Some (finished_as w.zone serial, finished_by w k serial)) (copy_held (held_at w.hands k))

-- the zone after these serials were put back, in order, since their pages weren't copied
abbrev pub all_put_back : ZoneState → List ℕ → ZoneState
all_put_back z [] = z
all_put_back z (serial ∷ more) = all_put_back (put_back_to_source z serial (unwrap_or (page_of z.records serial) 0) NotCopied) more

-- the world after a shut: the pages that waited are put back, which the end seat counts, and no round is open
abbrev pub shut : WorldState → WorldState
shut w = record w {
  zone = all_put_back w.zone w.waiting;
  ends = record w.ends { back = w.ends.back + length w.waiting };
  is_open = false;
  waiting = [];
}

-- the number of pages that waited and the world after a shut, and none where a hand isn't empty
abbrev pub shut_step : WorldState → Option (ℕ × WorldState)
shut_step w = if list_all is_nothing w.hands then Some (length w.waiting, shut w) else None

-- each number is less than those after it
abbrev pub IsRising : List ℕ → Type 0
IsRising [] = Unit {0}
IsRising (n ∷ more) = ((m : ℕ) → IsTrue (list_any (nat_eq m) more) → n < m) × IsRising more

-- whether a serial waits
abbrev pub waits : WorldState → ℕ → Bool
waits w serial = list_any (nat_eq serial) w.waiting

-- whether a serial that may be none is this serial
abbrev pub is_in : ℕ → Option ℕ → Bool
is_in serial None = false
is_in serial (Some s) = nat_eq serial s

-- whether a serial is in a hand
abbrev pub is_in_hand : WorldState → ℕ → Bool
is_in_hand w serial = list_any (λ hand. is_in serial (serial_in hand)) w.hands

-- a world is orderly: the pages that wait and those in hands are exactly those that are out, each once, and those that
-- wait are in the order of their serials
pub record IsOrderly (w : WorldState) : Type 0 where
  pub valid : IsValidZone w.zone
  -- no part of the end seat is missing
  pub whole : w.ends.parts ≡ 64
  pub four : length w.hands ≡ 4
  pub rising : IsRising w.waiting
  pub out : (serial : ℕ) → IsTrue (is_out w.zone.records serial) ↔ IsTrue (waits w serial || is_in_hand w serial)
  -- the words of no moving page are lent
  pub here : (serial : ℕ) → IsTrue (is_out w.zone.records serial) → set.contains w.zone.lent_pages (unwrap_or (page_of w.zone.records serial) 0) ≡ false
  -- no page is in two hands, or waits while it is in a hand
  pub one_hand : (j k serial : ℕ) → serial_in (held_at w.hands j) ≡ Some serial → serial_in (held_at w.hands k) ≡ Some serial → 0 < j → 0 < k → j ≡ k
  pub one_place : (k serial : ℕ) → 0 < k → serial_in (held_at w.hands k) ≡ Some serial → waits w serial ≡ false
  -- no page is moving where no round is open
  pub closed : w.is_open ≡ false → (serial : ℕ) → is_out w.zone.records serial ≡ false
  -- no more pages wait than there are frames below the migrate finger, or from the free finger on; so at most half as many as
  -- there are frames
  pub few : (length w.waiting ≤ w.zone.migrate) × (length w.waiting + w.zone.free ≤ frame_count w.zone)
