-- What contracts see of the seats of a zone, and what the calls with a seat note in it.
use Rattle.std.specs.Prelude.{◌≡◌, ℕ, ◌+◌, ◌*◌, ◌<◌, ◌^◌, ⊤, length, not, nat_eq, nat_lt, if◌then◌else◌, [], Option, Some, None}
use Rattle.frame_core.specs.Moves.{isolated, moved, put_back, out}
use Rattle.frame_core.specs.Ends.{AreEndedOnce}
use Rattle.state_core.specs.declared.error.ZoneError.{ZoneError}
use Rattle.state_core.specs.declared.error.ZoneError.TheVariants.{Missing, Out}
use Rattle.state_core.specs.declared.information.Audit.{Audit}
use Rattle.state_core.specs.declared.moves.Next.{Next}
use Rattle.state_core.specs.declared.moves.Next.TheVariants as next
use Rattle.state_core.specs.declared.moves.Ended.{Ended}
use Rattle.state_core.specs.declared.moves.Ended.TheVariants as ended
use Rattle.state_core.specs.ZoneState.{ZoneState}
use Rattle.frame_core.specs.Page.{IsolatedPage}
use Rattle.zone_core.specs.declared.seats.Answered.{Answered}
use Rattle.zone_core.specs.declared.seats.Answered.TheVariants as answered

-- a scan seat: how many pages were isolated with it, how many rounds were begun with it, and the last answer of
-- `isolate_next` since the latest round began
pub record ScanSeat : Type 0 where
  pub count : ℕ
  pub rounds : ℕ
  pub last : Option Answered

-- an end seat: how many of the 64 parts it has, and how many pages were moved and put back with it
pub record EndSeat : Type 0 where
  pub parts : ℕ
  pub moved : ℕ
  pub back : ℕ

-- what a last answer counts in the ledger of the scanner: one where the scanners met
abbrev pub met_mark : Option Answered → ℕ
met_mark (Some answered.Met) = 1
met_mark _ = 0

-- what a scan seat has in the ledger of the scanner: two for each page that was isolated, and the mark of its last answer
abbrev pub scan_amount : ℕ → Option Answered → ℕ
scan_amount count last = 2 * count + met_mark last

-- the scan seat that a zone is opened with
abbrev pub fresh_scan_seat : ScanSeat
fresh_scan_seat = record { count = 0; rounds = 0; last = None }

-- the end seat that a zone is opened with, which has all 64 parts
abbrev pub fresh_end_seat : EndSeat
fresh_end_seat = record { parts = 64; moved = 0; back = 0 }

-- the scan seat after it counted a round that begins, in which there was no answer yet
abbrev pub seat_begun : ScanSeat → ScanSeat
seat_begun seat = record seat { rounds = seat.rounds + 1; last = None }

-- the scan seat after it noted that the journal was full
abbrev pub seat_full : ScanSeat → ScanSeat
seat_full seat = record seat { last = Some answered.JournalFull }

-- the scan seat after it noted an answer, and counted the page where the answer is one
abbrev pub seat_noted : ScanSeat → Next IsolatedPage → ScanSeat
seat_noted seat next.Met = record seat { last = Some answered.Met }
seat_noted seat (next.Page p) = record seat { count = seat.count + 1; last = Some answered.Page }

-- where the answer is a page, its serial isn't the highest number
abbrev pub IsFollowed : Next IsolatedPage → Type 0
IsFollowed next.Met = ⊤
IsFollowed (next.Page p) = p.serial + 1 < 2 ^ 64

-- the end seat after it counted the end of a move
abbrev pub seat_ended : EndSeat → Ended → EndSeat
seat_ended seat ended.Moved = record seat { moved = seat.moved + 1 }
seat_ended seat ended.Back = record seat { back = seat.back + 1 }

-- why an audit is refused, if it is: it needs the whole end seat, of 64 parts, and no page may be moving
abbrev pub audit_refusal : ZoneState → EndSeat → Option ZoneError
audit_refusal z seat =
    if not (nat_eq seat.parts 64) then Some Missing
    else if nat_lt 0 (length (out z.records)) then Some Out
    else None

-- the journal, both seats and the answer of an audit agree
pub record IsAudited (z : ZoneState) (scan_seat : ScanSeat) (end_seat : EndSeat) (audit : Audit) : Type 0 where
  pub isolated : audit.isolated ≡ isolated z.records
  pub moved : audit.moved ≡ moved z.records
  pub back : audit.back ≡ put_back z.records
  pub sum : audit.moved + audit.back ≡ audit.isolated
  pub scan : audit.isolated ≡ scan_seat.count
  pub ends_moved : audit.moved ≡ end_seat.moved
  pub ends_back : audit.back ≡ end_seat.back
  -- no page is out, and each that was isolated has ended exactly once
  pub none_out : out z.records ≡ []
  pub once : AreEndedOnce z.records
