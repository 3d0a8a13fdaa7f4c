-- When a pool refuses to tell something.
use Rattle.std.specs.Prelude.{if◌then◌else◌, is_some, length, nat_lt, Option, Some, None}
use Rattle.frame_core.specs.declared.place.Address.{Address}
use Rattle.frame_core.specs.Moves.{out}
use Rattle.state_core.specs.Looking.{look_of}
use Rattle.state_core.specs.ZoneState.{ZoneState}
use Rattle.state_core.specs.declared.error.ZoneError.{ZoneError}
use Rattle.state_core.specs.declared.error.ZoneError.TheVariants.{Unmapped, Out}

-- nothing is known of an address that names no page
abbrev pub look_refusal : ZoneState → Address → Option ZoneError
look_refusal z address = if is_some (look_of z address) then None else Some Unmapped

-- while a page is moving, its end isn't known
abbrev pub audit_refusal : ZoneState → Option ZoneError
audit_refusal z = if nat_lt 0 (length (out z.records)) then Some Out else None
