-- The numbers of a machine's own refusals.
use Rattle.std.specs.Prelude.{ℕ}
use Rattle.machine_core.specs.declared.refusal.Refusal.{Refusal}
use Rattle.machine_core.specs.declared.refusal.Refusal.TheVariants.{OutOfRange, NoWorker, BrokenZone, OtherZone, AlreadyOpen, OpenRound}

-- the number of a refusal, that a script prints
abbrev pub number_of : Refusal → ℕ
number_of OutOfRange = 1
number_of NoWorker = 32
number_of BrokenZone = 33
number_of OtherZone = 43
number_of AlreadyOpen = 44
number_of OpenRound = 45
