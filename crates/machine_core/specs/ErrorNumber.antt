-- The numbers of refusals.
use Rattle.std.specs.Prelude.{ℕ}
use Rattle.machine_core.specs.declared.world.WorldError.{WorldError}
use Rattle.machine_core.specs.declared.world.WorldError.TheVariants.{Zone, Hand}
use Rattle.state_core.specs.ErrorNumber.{number_of}

-- the number that a script prints for a refusal: that of the zone's refusal, or 45 where a hand refuses
abbrev pub world_number_of : WorldError → ℕ
world_number_of (Zone error) = number_of error
world_number_of Hand = 45
