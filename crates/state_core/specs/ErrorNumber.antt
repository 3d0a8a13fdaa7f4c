-- The numbers of refusals.
use Rattle.std.specs.Prelude.{ℕ}
use Rattle.state_core.specs.declared.error.ZoneError.{ZoneError}
use Rattle.state_core.specs.declared.error.ZoneError.TheVariants.{Range, JournalFull, Unmapped, Moving, Occupied, NoFrame, ShareFull, PinFull, NotPinned, Pinned, NoBlock, NotHuge, Stranger, Memory, Missing, Out, Marked, NotMarked, Lent, OwnMemory}

-- the number that a script prints for a refusal
abbrev pub number_of : ZoneError → ℕ
number_of Range = 1
number_of JournalFull = 2
number_of Unmapped = 3
number_of Moving = 4
number_of Occupied = 5
number_of NoFrame = 6
number_of ShareFull = 7
number_of PinFull = 8
number_of NotPinned = 9
number_of Pinned = 10
number_of NoBlock = 11
number_of NotHuge = 12
number_of Stranger = 13
number_of Memory = 14
number_of Missing = 15
number_of Out = 16
number_of Marked = 17
number_of NotMarked = 18
number_of Lent = 19
number_of OwnMemory = 20
