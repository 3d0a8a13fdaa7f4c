-- Lists of addresses in rising order: by space, then by virtual page.
use Rattle.std.specs.Prelude.{⊤, ◌≡◌, ℕ, suc, ◌+◌, ◌*◌, ◌<◌, ◌↔◌, ◌⊎◌, List, [], ◌∷◌, nat_le, nat_eq, if◌then◌else◌}
use Rattle.frame_core.specs.Address.{InRange}
use Rattle.frame_core.specs.declared.place.Address.{Address}

-- where an address stands in rising order. A space has 16777216 virtual pages at most
abbrev pub order_of : Address → ℕ
order_of address = 16777216 * address.space + address.vpage

-- an address stands in a list
abbrev pub IsIn : List Address → Address → Type 0
IsIn [] address = ⊥
IsIn (a ∷ rest) address = (a ≡ address) ⊎ IsIn rest address

-- each address of a list comes before those after it
abbrev pub IsRising : List Address → Type 0
IsRising [] = ⊤
IsRising (a ∷ rest) = ((b : Address) → IsIn rest b → order_of a < order_of b) × IsRising rest

-- the addresses of a list rise, and are exactly those that pass
pub record AreJust (names : List Address) (Passes : Address → Type 0) : Type 0 where
  pub rising : IsRising names
  pub each : (address : Address) → IsIn names address ↔ (InRange address × Passes address)

-- how many addresses at the front of a list come before this one
abbrev pub rank : List Address → Address → ℕ
rank [] address = 0
rank (a ∷ rest) address = if nat_le (order_of address) (order_of a) then 0 else suc (rank rest address)

-- a rising list with one more address at its place
abbrev pub inserted : List Address → Address → List Address
inserted [] address = address ∷ []
inserted (a ∷ rest) address = if nat_le (order_of address) (order_of a) then address ∷ a ∷ rest else a ∷ inserted rest address

-- a list without an address
abbrev pub without : List Address → Address → List Address
without [] address = []
without (a ∷ rest) address = if nat_eq (order_of a) (order_of address) then rest else a ∷ without rest address
