-- What no call of a zone changes.
use Rattle.std.specs.Prelude.{◌≡◌, ℕ}
use Rattle.state_core.specs.ZoneState.{ZoneState}

-- a zone has this number and this many pageblocks
abbrev pub HasIdentity : ℕ → ℕ → ZoneState → Type 0
HasIdentity number blocks z = (z.number ≡ number) × (z.blocks ≡ blocks)
