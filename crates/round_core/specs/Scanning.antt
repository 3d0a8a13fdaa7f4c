-- How far a scanner has come.
use Rattle.std.specs.Prelude.{◌≡◌, ◌+◌, ◌<◌, ℕ, List, length, Option, Some, IfSome, option_map}
use Rattle.frame_core.specs.Page.{IsolatedPage}
use Rattle.frame_core.specs.Serials.{HasSerialsFrom}
use Rattle.zone_core.specs.Seats.{ScanSeat}
use Rattle.round_core.specs.Rounds.{answer_at}
use Rattle.round_core.specs.declared.round.Stop.{Stop}
use Rattle.round_core.specs.declared.round.Stop.TheVariants as stop

-- it began where so many pages were isolated that a round may begin, and isolated a page since
pub record HasBegun (begins_at : ℕ → Type 0) (count : ℕ) : Type 0 where
  pub base : ℕ
  pub begun : begins_at base
  pub more : base < count

-- its round may isolate a page more: it may still isolate so many, or has no limit
abbrev pub HasMore : Option ℕ → Type 0
HasMore left = IfSome left (λ more. 0 < more)

-- how many pages are isolated where a round is at its limit, given how many are now, and how many more it may isolate
abbrev pub limit_at : ℕ → Option ℕ → Option ℕ
limit_at count left = option_map (λ more. count + more) left

-- it may stop for this reason where so many pages are isolated: at the limit of its round, or before it as it may without a limit
abbrev pub IsAllowed : (stops_at : ℕ → Stop → Type 0) (limit : Option ℕ) (count : ℕ) → Stop → Type 0
IsAllowed stops_at limit count stop.Most = limit ≡ Some count
IsAllowed stops_at limit count reason = IfSome limit (λ end. count < end) × stops_at count reason

-- it stopped for this reason, by its seat: that is the seat's last answer, and it may stop so where it has counted so many pages
pub record HasStopped (stops_at : ℕ → Stop → Type 0) (limit : Option ℕ) (scan : ScanSeat) (reason : Stop) : Type 0 where
  pub answered : scan.last ≡ Some (answer_at reason)
  pub allowed : IsAllowed stops_at limit scan.count reason

-- it isolated these pages, in their order, by its seat before and after it, and stopped if it says why
pub record HasIsolated (stops_at : ℕ → Stop → Type 0) (limit : Option ℕ) (scan scan_new : ScanSeat) (pages : List IsolatedPage) (reason : Option Stop) : Type 0 where
  pub serials : HasSerialsFrom scan.count pages
  pub count : scan_new.count ≡ scan.count + length pages
  pub stopped : IfSome reason (HasStopped stops_at limit scan_new)
