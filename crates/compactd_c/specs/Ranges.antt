-- The ranges of the numbers that C passes, and what they stand for.
use Rattle.std.specs.Prelude.{ℕ, Bool, true, false, ◌&&◌, nat_lt, nat_le, Option, Some}
use Rattle.frame_core.specs.declared.place.Address.{Address}
use Rattle.state_core.specs.declared.error.ZoneError.{ZoneError}
use Rattle.state_core.specs.declared.error.ZoneError.TheVariants.{Range}

-- the address with these numbers of a space and of a virtual page
abbrev pub address_of : ℕ → ℕ → Address
address_of space vpage = record { space = space; vpage = vpage }

-- there may be such an address
abbrev pub is_address : ℕ → ℕ → Bool
is_address space vpage = nat_lt space 256 && nat_lt vpage 16777216

-- there is such a client
abbrev pub is_client : ℕ → Bool
is_client client = nat_lt client 8

-- blocks may have this order
abbrev pub is_order : ℕ → Bool
is_order order = nat_le 3 order && nat_le order 9

-- blocks may have this first frame and this order
abbrev pub is_block : ℕ → ℕ → Bool
is_block first order = nat_lt first 16777216 && is_order order

-- numbers out of their range are refused first
abbrev pub ranged : Bool → Option ZoneError → Option ZoneError
ranged true refusal = refusal
ranged false refusal = Some Range
