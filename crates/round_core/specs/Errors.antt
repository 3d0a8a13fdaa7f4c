-- The numbers of the errors.
use Rattle.std.specs.Prelude.{ℕ}
use Rattle.round_core.specs.declared.error.RoundError.{RoundError}
use Rattle.round_core.specs.declared.error.RoundError.TheVariants.{Memory, NoWorker, Broken, Stranger}

-- the number of an error, that a script prints
abbrev pub number_of : RoundError → ℕ
number_of Memory = 31
number_of NoWorker = 32
number_of Broken = 33
number_of (Stranger serial) = 34
