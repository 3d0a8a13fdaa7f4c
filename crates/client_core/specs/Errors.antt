-- The numbers of the errors.
use Rattle.std.specs.Prelude.{ℕ}
use Rattle.client_core.specs.declared.error.ClientError.{ClientError}
use Rattle.client_core.specs.declared.error.ClientError.TheVariants.{Memory, Zone}
use Rattle.client_core.specs.declared.settling.Unsettled.{Unsettled}
use Rattle.client_core.specs.declared.settling.Unsettled.TheVariants.{NotKept, Mismatch}
use Rattle.state_core.specs.ErrorNumber.{number_of as number_of_refusal}

-- the number of an error: 31 for Memory, or that of the zone's refusal
abbrev pub number_of : ClientError → ℕ
number_of Memory = 31
number_of (Zone refusal) = number_of_refusal refusal

-- the number of what clients aren't settled for: 36 for NotKept, and 35 for a mismatch
abbrev pub number_of_unsettled : Unsettled → ℕ
number_of_unsettled NotKept = 36
number_of_unsettled (Mismatch mismatch) = 35
