-- A reservation by hand: blocks are taken one after the other, the lowest free one each time. Where none is free a round by hand is run.
use Rattle.std.specs.Prelude.{◌≡◌, ℕ, zero, suc, ◌+◌, Bool, nat_lt, if◌then◌else◌, ◌-◌, List, [], ◌∷◌, ◌++◌, length, ⊤, Option, Some, None, unwrap_or}
use Rattle.frame_core.specs.Moves.{isolated}
use Rattle.zone_core.specs.ByHand.{by_hand}
use Rattle.zone_core.specs.Outcome.{IsSame}
use Rattle.round_core.specs.Rounds.{IsWant, stop_by_hand}
use Rattle.round_core.specs.declared.round.Stop.{Stop as RoundStop}
use Rattle.round_core.specs.declared.round.Stop.TheVariants as round
use Rattle.state_core.specs.declared.error.ZoneError.{ZoneError}
use Rattle.state_core.specs.declared.error.ZoneError.TheVariants as zone
use Rattle.state_core.specs.HandingOut.{lowest_run, take_order_refusal, block_taken}
use Rattle.state_core.specs.ZoneState.{ZoneState}
use Rattle.huge_core.specs.Huge.{Huge}
use Rattle.huge_core.specs.declared.collector.Collector.{Collector}
use Rattle.huge_core.specs.declared.report.Report.{Report}
use Rattle.huge_core.specs.declared.report.Stop.{Stop}
use Rattle.huge_core.specs.declared.report.Stop.TheVariants.{Enough, NoBlock, Rounds, JournalFull, Refused}

-- what a reservation leaves: the first frames of its blocks, in the order in which it got them, how many rounds it ran, why it stopped,
-- and the zone
pub record Reservation : Type 0 where
  pub frames : List ℕ
  pub rounds : ℕ
  pub stop : Stop
  pub zone : ZoneState

-- a reservation that stops here
abbrev pub stopped : Stop → ZoneState → Reservation
stopped stop zone = record { frames = []; rounds = 0; stop = stop; zone = zone }

-- one that gets a block first, and goes on so
abbrev pub with_block : ℕ → Reservation → Reservation
with_block frame rest = record rest { frames = frame ∷ rest.frames }

-- one that runs a round first, and goes on so
abbrev pub with_round : Reservation → Reservation
with_round rest = record rest { rounds = rest.rounds + 1 }

-- the first frame of the lowest free block of an order, and 0 where no block is free
abbrev pub lowest_first : ZoneState → ℕ → ℕ
lowest_first z order = unwrap_or (lowest_run z order) 0

-- the zone after that block was taken
abbrev pub lowest_taken : ZoneState → ℕ → ZoneState
lowest_taken z order = block_taken z (lowest_first z order) order

-- what comes of asking for a block, by what it is refused as: it is taken, or the journal has no place for it, or no block is free
abbrev pub asked : Option ZoneError → (taken full none : Reservation) → Reservation
asked None taken full none = taken
asked (Some zone.JournalFull) taken full none = full
asked (Some _) taken full none = none

-- up to n blocks are taken; where none is free, the last argument says what follows, by how many blocks are still wanted and the zone
abbrev pub taking : (order n : ℕ) → ZoneState → (ℕ → ZoneState → Reservation) → Reservation
taking order zero z none = stopped Enough z
taking order (suc n) z none =
    asked (take_order_refusal z order)
    (with_block (lowest_first z order) (taking order n (lowest_taken z order) none)) (stopped JournalFull z) (none (suc n) z)

-- whether a round by hand moves a page
abbrev pub moves : ZoneState → Bool
moves z = nat_lt (isolated z.records) (isolated (by_hand z).records)

-- why a reservation stops whose latest round moved no page, by the reason why that round stopped
abbrev pub idle_stop : RoundStop → Stop
idle_stop round.JournalFull = JournalFull
idle_stop _ = NoBlock

-- a reservation of n blocks of an order, which may run this many rounds
abbrev pub reserved_by_hand : (order rounds n : ℕ) → ZoneState → Reservation
reserved_by_hand order zero n z = taking order n z (λ left now. stopped Rounds now)
reserved_by_hand order (suc rounds) n z = taking order n z (λ left now.
    with_round (if moves now then reserved_by_hand order rounds left (by_hand now)
    else stopped (idle_stop (stop_by_hand now)) (by_hand now)))

-- the first frames of the blocks of a report
abbrev pub frames_of : List (Option Huge) → List ℕ
frames_of [] = []
frames_of (Some block ∷ more) = block.frame ∷ frames_of more
frames_of (None ∷ more) = frames_of more

-- one that got these blocks and ran so many rounds first, and goes on so
abbrev pub after : List ℕ → ℕ → Reservation → Reservation
after frames ran rest = record rest { frames = frames ++ rest.frames; rounds = ran + rest.rounds }

-- A reservation by hand of n blocks that has the first list of them and the first zone comes to the same as one that has the second list
-- and the second zone, whatever follows where no block is free. So the blocks that the second list has more were taken one after the
-- other, the lowest free one each time.
abbrev pub HasFilled : (order n : ℕ) (zone zone_new : ZoneState) (got got_new : List (Option Huge)) → Type 0
HasFilled order n zone zone_new got got_new =
    (ran : ℕ) (none : ℕ → ZoneState → Reservation) → after (frames_of got) ran (taking order (n - length got) zone none)
    ≡ after (frames_of got_new) ran (taking order (n - length got_new) zone_new none)

-- how many rounds the reservation by hand may run that does what a collector did: as many as the collector; where the collector was refused
-- a round, though, no more than it had run by then
abbrev pub rounds_for : Collector → Stop → (ran : ℕ) → ℕ
rounds_for c (Refused error) ran = ran
rounds_for c stop ran = c.rounds

-- and why that reservation stops: for the same reason; where the collector was refused a round, since it may run no more
abbrev pub stop_for : Stop → Stop
stop_for (Refused error) = Rounds
stop_for stop = stop

-- no round failed: it was refused only for want of memory or of a thread, if it was
abbrev pub NoneFailed : Stop → Type 0
NoneFailed (Refused error) = IsWant error
NoneFailed stop = ⊤

-- the reservation by hand that does what a collector did that was asked for n blocks
abbrev pub reservation_for : Collector → ℕ → ZoneState → Report → Reservation
reservation_for c n start report = reserved_by_hand c.order (rounds_for c report.stop report.rounds) n start

-- a collector reported what a reservation by hand of n blocks does, and left the zone as that one does, unless a round failed
pub record IsReservedByHand (c : Collector) (n : ℕ) (start zone : ZoneState) (report : Report) : Type 0 where
  pub frames : frames_of report.got.items ≡ (reservation_for c n start report).frames
  pub rounds : report.rounds ≡ (reservation_for c n start report).rounds
  pub stop : stop_for report.stop ≡ (reservation_for c n start report).stop
  pub zone_is : NoneFailed report.stop → IsSame (reservation_for c n start report).zone zone
