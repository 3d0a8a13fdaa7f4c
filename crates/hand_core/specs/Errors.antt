-- The numbers of the errors.
use Rattle.std.specs.Prelude.{ℕ}
use Rattle.hand_core.specs.declared.error.HandError.{HandError}
use Rattle.hand_core.specs.declared.error.HandError.TheVariants.{Memory, Range}

-- the number of an error, 21 or 22
abbrev pub number_of : HandError → ℕ
number_of Memory = 21
number_of Range = 22
