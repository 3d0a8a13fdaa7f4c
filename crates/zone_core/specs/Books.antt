-- How the ledgers of a zone stand for its journal.
use Rattle.std.specs.Prelude.{◌≡◌, ℕ, true, Option, Some}
use Rattle.frame_core.specs.Moves.{isolated as isolated_of, moved as moved_of, put_back}
use Rattle.state_core.specs.Pairs.{HaveMet}
use Rattle.state_core.specs.ZoneState.{ZoneState, is_quiet}
use Rattle.zone_core.specs.Seats.{scan_amount}
use Rattle.zone_core.specs.declared.seats.Answered.{Answered}
use Rattle.zone_core.specs.declared.seats.Answered.TheVariants as answered
use Rattle.zone_core.specs.declared.seats.Blanks.{Blanks}

-- four blanks are made for the ledgers with these names: of the scanner, of the rounds, of the pages moved and of the pages put back
pub record AreFor (blanks : Blanks) (isolated rounds moved back : ℕ) : Type 0 where
  pub isolated_is : blanks.isolated.name ≡ isolated
  pub rounds_is : blanks.rounds.name ≡ rounds
  pub moved_is : blanks.moved.name ≡ moved
  pub back_is : blanks.back.name ≡ back

-- the ledger of the scanner has one part, and those of moved pages and of pages put back have 64, so that up to 64 seats may
-- end moves at once
pub record AreCut (isolated_parts moved_parts back_parts : ℕ) : Type 0 where
  pub isolated : isolated_parts ≡ 1
  pub moved : moved_parts ≡ 64
  pub back : back_parts ≡ 64

-- the totals of three books are those of the journal. The scanner's is what a seat has in it that counted each isolated page; and
-- where the last answer of that seat is that the scanners met, they have met for as long as the round is quiet. The totals of the
-- other two are the numbers of pages that were moved and put back
pub record AreBooks (isolated_total moved_total back_total : ℕ) (v : ZoneState) : Type 0 where
  pub last : Option Answered
  pub counted : isolated_total ≡ scan_amount (isolated_of v.records) last
  pub met : last ≡ Some answered.Met → is_quiet v ≡ true → HaveMet v
  pub moved : moved_total ≡ moved_of v.records
  pub back : back_total ≡ put_back v.records
