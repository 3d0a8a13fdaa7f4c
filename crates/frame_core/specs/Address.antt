-- The addresses that there are.
use Rattle.std.specs.Prelude.{ℕ, ◌<◌, Bool, ◌&&◌, nat_lt}
use Rattle.frame_core.specs.declared.place.Address.{Address}

-- an address is in a table of so many spaces, with so many virtual pages each
pub record InTable (spaces pages : ℕ) (address : Address) : Type 0 where
  pub space : address.space < spaces
  pub vpage : address.vpage < pages

-- whether an address is in such a table
abbrev pub is_in_table : ℕ → ℕ → Address → Bool
is_in_table spaces pages address = nat_lt address.space spaces && nat_lt address.vpage pages

-- an address is in range: one of 256 spaces, with 16777216 virtual pages each, which are the most that a zone has
pub record InRange (address : Address) : Type 0 where
  pub space : address.space < 256
  pub vpage : address.vpage < 16777216
