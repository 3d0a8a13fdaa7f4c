-- What the seats of a round count.
use Rattle.std.specs.Prelude.{◌≡◌, ◌+◌, ◌≤◌}
use Rattle.state_core.specs.declared.information.Audit.{Audit}
use Rattle.zone_core.specs.Seats.{ScanSeat, EndSeat}

-- an audit counts what the seats count, and each page that was isolated has ended
abbrev pub AreCounted : ScanSeat → EndSeat → Audit → Type 0
AreCounted scan ends audit = (audit.isolated ≡ scan.count) × (audit.moved ≡ ends.moved) × (audit.back ≡ ends.back) × (audit.moved + audit.back ≡ audit.isolated)

-- an audit counts no fewer pages than the one before it
abbrev pub CountsNoLess : Audit → Audit → Type 0
CountsNoLess before after = (before.isolated ≤ after.isolated) × (before.moved ≤ after.moved) × (before.back ≤ after.back)

-- an end seat has as many parts as before, and counts no fewer pages moved and put back
abbrev pub CountsOn : EndSeat → EndSeat → Type 0
CountsOn ends ends_new = (ends_new.parts ≡ ends.parts) × (ends.moved ≤ ends_new.moved) × (ends.back ≤ ends_new.back)

-- an end seat counts no page more but pages that were put back
abbrev pub CountsBack : EndSeat → EndSeat → Type 0
CountsBack ends ends_new = (ends_new.parts ≡ ends.parts) × (ends_new.moved ≡ ends.moved) × (ends.back ≤ ends_new.back)
